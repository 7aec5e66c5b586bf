use mathlib.Core.Path.{◌≡◌, refl}
use Rattle.std.specs.Prelude.{Err}
use Rattle.std.proofs.Common.{rules}
use Rattle.request.specs.Given.{Answer}
use Rattle.plan_def.specs.Outputs.{outs_in}
use Rattle.change_lay.proofs.Outputs.{met-refused}
use Rattle.change_draft.specs.declared.asked.Asked.{Asked}
use Rattle.change_draft.proofs.Drafting.{base_fair, refused-told, planned-told}
use Rattle.change_range.proofs.change_range.Goals as goal

pub invariant_of-begun : goal.invariant_of-begun
invariant_of-begun c = record { fair = base_fair c.args.g c.args.c c.args.w c.requires.fair; parting = c.parts_of-parts.ensures }

pub returns-in_err-n-clause-met : goal.returns-in_err-n-clause-met
returns-in_err-n-clause-met c =
    let a : Asked = record { begun = record { base = c.args.g; range = c.args.c; parts = c.parts_of-parts.result; fair = base_fair c.args.g c.args.c c.args.w c.requires.fair; parting = c.parts_of-parts.ensures }; fill = c.args.w; fair = c.requires.fair; sized = c.requires.sized } in
    let e = c.in_err-n in
    let told : ◌≡◌ {A = Answer} c.from_residual.result (Err e.field-0.0) = search rules in
    rw told (met-refused _ e.field-0.0 _ (outs_in c.args.out.now) (refused-told a _ e.ensures c.args.places.now _))

pub finish_change-requires : goal.finish_change-requires
finish_change-requires c =
    let a : Asked = record { begun = record { base = c.args.g; range = c.args.c; parts = c.parts_of-parts.result; fair = base_fair c.args.g c.args.c c.args.w c.requires.fair; parting = c.parts_of-parts.ensures }; fill = c.args.w; fair = c.requires.fair; sized = c.requires.sized } in
    record { none = planned-told a c.in_ok-n.n c.in_ok-n.ensures; needs = c.in_ok-n.ensures }
