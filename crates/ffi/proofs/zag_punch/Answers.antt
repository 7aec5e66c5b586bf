use borrow.Author.Rules.{rules}
use Rattle.ffi.proofs.Telling.{export_short, export-told}
use Rattle.ffi.proofs.zag_punch.Goals as goal

pub returns-then-answer-lt9 : goal.returns-then-answer-lt9
returns-then-answer-lt9 c = rw c.number.ensures (export_short _ _ _ _ c.if-answer-lt9.true)

pub returns : goal.returns
returns c = export-told _ _ _ _ _ _ _ _ _ c.if-answer-lt9.false c.punch_hole-a.ensures.met c.tell.ensures (search rules)
