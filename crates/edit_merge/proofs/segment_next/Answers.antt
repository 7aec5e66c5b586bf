use Rattle.std.proofs.Common.{◌∙◌, sym}
use Rattle.edit_merge.proofs.News.{read_from, first_read}
use Rattle.edit_merge.proofs.Steps.{segment_none, segment_some}
use native.Mathlib.Omega.{arith}
use Rattle.edit_merge.proofs.segment_next.Goals as goal

pub returns-in_err-item : goal.returns-in_err-item
returns-in_err-item c = let a = c.args in segment_none a.segment.now a.j a.k _ c.from_residual.ensures (sym (read_from c.reader_at.result a.segment a.j c.reader_at.ensures) ∙ c.in_err-item.ensures.steps.0)

pub overflow_add-result : goal.overflow_add-result
overflow_add-result c = let a = c.args in
    let r = first_read a.segment.now a.j _ _ (sym (read_from c.reader_at.result a.segment a.j c.reader_at.ensures) ∙ c.in_ok-item.ensures.steps) in
    omega (arith, r.0)

pub returns : goal.returns
returns c = let a = c.args in segment_some a.segment.now a.j a.k c.in_ok-item.item _ (sym (read_from c.reader_at.result a.segment a.j c.reader_at.ensures) ∙ c.in_ok-item.ensures.steps)
