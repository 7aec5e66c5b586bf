use Rattle.std.proofs.Common.{◌≡◌, Err, ap, ◌∙◌, rules, arith}
use Rattle.request.specs.Answers.{plan}
use Rattle.clone.proofs.Operating.{draft_lent, draft_nothing, draft_destination, draft_copies, draft_plan}
use Rattle.clone.proofs.asked.Asked.draft.Goals as goal

pub returns-in_err-span : goal.returns-in_err-span
returns-in_err-span c = let e = c.in_err-span in let r : c.from_residual.result ≡ Err e.field-0.0 = search rules in rw r (draft_lent c.args.self _ e.ensures)

pub returns-then-empty : goal.returns-then-empty
returns-then-empty c = draft_nothing c.args.self c.in_ok-span.ensures.passes c.if-empty.true

pub returns-in_err-parts : goal.returns-in_err-parts
returns-in_err-parts c = let e = c.in_err-parts in let r : c.from_residual-in_err-parts.result ≡ Err e.field-0.0 = search rules in rw r (draft_destination c.args.self c.in_ok-span.ensures.passes (omega (arith, c.if-empty.false)) _ e.ensures)

pub returns-in_err-ground : goal.returns-in_err-ground
returns-in_err-ground c = let e = c.in_err-ground in let p = c.in_ok-parts.ensures in let r : c.from_residual-in_err-ground.result ≡ Err e.field-0.0 = search rules in rw r (draft_copies c.args.self p.lent p.some p.passes _ e.ensures)

pub returns : goal.returns
returns c = let p = c.in_ok-parts.ensures in let g = c.in_ok-ground.ensures in (g.number, ap plan g.plan ∙ draft_plan c.args.self p.lent p.some p.passes g.passes)
