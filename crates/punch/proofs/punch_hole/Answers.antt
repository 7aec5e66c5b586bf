use Rattle.std.proofs.Common.{◌≡◌, Err, rules}
use Rattle.plan_def.specs.Outputs.{outs_in}
use Rattle.punch.proofs.Operating.{fair-now, punch-refused, punch-nothing, punch-changed}
use Rattle.punch.proofs.punch_hole.Goals as goal

pub returns-in_err-range-clause-met : goal.returns-in_err-range-clause-met
returns-in_err-range-clause-met c = let e = c.in_err-range in let r : c.from_residual.result ≡ Err e.field-0.0 = search rules in rw r (punch-refused c.args.l c.args.r c.args.places.now (outs_in c.args.out.now) _ e.ensures)

pub returns-in_default-clause-met : goal.returns-in_default-clause-met
returns-in_default-clause-met c = punch-nothing c.args.l c.args.r c.args.places.now (outs_in c.args.out.now) c.in_ok-range.range c.in_ok-range.ensures c.in_default.ensures

pub change_range-requires-clause-fair : goal.change_range-requires-clause-fair
change_range-requires-clause-fair c = fair-now c.in_ok-range.range c.in-Some.c _ c.no_holes.ensures c.in-Some.ensures

pub returns-clause-met : goal.returns-clause-met
returns-clause-met c = punch-changed c.args.l c.args.r c.args.places.now (outs_in c.args.out.now) c.in_ok-range.range c.in_ok-range.ensures c.in-Some.c _ c.no_holes.ensures c.in-Some.ensures c.change_range.result _ c.change_range.ensures.met
