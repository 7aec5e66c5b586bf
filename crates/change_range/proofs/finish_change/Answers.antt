use mathlib.Core.Path.{◌≡◌, refl}
use Rattle.std.specs.Prelude.{Err}
use Rattle.std.proofs.Common.{rules}
use Rattle.plan_def.specs.Outputs.{outs_in}
use Rattle.request.specs.Given.{Answer}
use Rattle.change_range.proofs.Finish.{adds-many, finish_refused, places-sound, rooms_fit, finish_planned}
use Rattle.change_range.proofs.finish_change.Goals as goal

pub finish_refusal-requires : goal.finish_refusal-requires
finish_refusal-requires c = adds-many c.args.a c.args.n c.args.places.now c.requires

pub returns-in_err-finish_refusal-clause-met : goal.returns-in_err-finish_refusal-clause-met
returns-in_err-finish_refusal-clause-met c =
    let e = c.in_err-finish_refusal in
    let told : ◌≡◌ {A = Answer} c.from_residual.result (Err e.field-0.0) = search rules in
    rw told (finish_refused c.args.a c.args.n c.args.places.now c.requires (outs_in c.args.out.now) _ e.ensures e.field-0.0 refl)

pub write_plan-requires-clause-placed : goal.write_plan-requires-clause-placed
write_plan-requires-clause-placed c = places-sound c.args.a c.args.n c.args.places.now c.requires (outs_in c.args.out.now) 0 c.in_ok-finish_refusal.ensures refl

pub write_plan-requires-clause-roomed : goal.write_plan-requires-clause-roomed
write_plan-requires-clause-roomed c = rooms_fit c.args.a c.args.n c.args.places.now c.requires (outs_in c.args.out.now) 0 c.in_ok-finish_refusal.ensures refl

pub returns-clause-met : goal.returns-clause-met
returns-clause-met c = finish_planned c.args.a c.args.n c.args.places.now c.requires (outs_in c.args.out.now) 0 c.in_ok-finish_refusal.ensures refl _ c.write_plan.ensures.left
