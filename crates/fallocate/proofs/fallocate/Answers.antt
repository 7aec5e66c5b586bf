use Rattle.std.proofs.Common.{◌≡◌, Err, rules}
use Rattle.plan_def.specs.Outputs.{outs_in}
use Rattle.fallocate.proofs.Operating.{fair-now, range-refused, stages-refused, fallocate-changed}
use Rattle.fallocate.proofs.fallocate.Goals as goal

pub returns-in_err-range-clause-met : goal.returns-in_err-range-clause-met
returns-in_err-range-clause-met c = let e = c.in_err-range in let r : c.from_residual.result ≡ Err e.field-0.0 = search rules in rw r (range-refused c.args.l c.args.r c.args.keep c.args.places.now (outs_in c.args.out.now) _ e.ensures)

pub returns-in_err-range_refusal-clause-met : goal.returns-in_err-range_refusal-clause-met
returns-in_err-range_refusal-clause-met c = let e = c.in_err-range_refusal in let r : c.from_residual-in_err-range_refusal.result ≡ Err e.field-0.0 = search rules in rw r (stages-refused c.args.l c.args.r c.args.keep c.args.places.now (outs_in c.args.out.now) c.in_ok-range.range c.in_ok-range.ensures _ e.ensures)

pub change_range-requires-clause-fair : goal.change_range-requires-clause-fair
change_range-requires-clause-fair c = fair-now c.args.keep c.in_ok-range.range _ _ c.end_change.ensures c.fill_of.ensures

pub returns-clause-met : goal.returns-clause-met
returns-clause-met c = fallocate-changed c.args.l c.args.r c.args.keep c.args.places.now (outs_in c.args.out.now) c.in_ok-range.range c.in_ok-range.ensures c.in_ok-range_refusal.ensures _ _ c.end_change.ensures c.fill_of.ensures c.change_range.result _ c.change_range.ensures.met
