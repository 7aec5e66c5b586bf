use Rattle.std.proofs.Common.{◌≡◌, Err, rules}
use Rattle.plan_def.specs.Outputs.{outs_in}
use Rattle.clone.proofs.Finishing.{range_refused, range_nothing, range_planned}
use Rattle.clone.proofs.clone_range.Goals as goal

pub returns-in_err-ground-clause-met : goal.returns-in_err-ground-clause-met
returns-in_err-ground-clause-met c = let e = c.in_err-ground in let r : c.from_residual.result ≡ Err e.field-0.0 = search rules in rw r (range_refused c.args.l c.args.src c.args.own c.args.source.now c.args.s c.new.result c.new.ensures (outs_in c.args.out.now) _ e.ensures)

pub returns-in_default-clause-met : goal.returns-in_default-clause-met
returns-in_default-clause-met c = range_nothing c.args.l c.args.src c.args.own c.args.source.now c.args.s c.new.result c.new.ensures (outs_in c.args.out.now) (rw c.in_default.is at c.in_ok-ground.ensures)

pub returns-clause-met : goal.returns-clause-met
returns-clause-met c = range_planned c.args.l c.args.src c.args.own c.args.source.now c.args.s c.new.result c.new.ensures (outs_in c.args.out.now) c.in-Some.ground (rw c.in-Some.is at c.in_ok-ground.ensures) c.finish_clone.result _ c.finish_clone.ensures.met
