use borrow.Author.Rules.{rules}
use Rattle.ffi.proofs.Telling.{export_short, export-told, four-same}
use Rattle.ffi.proofs.zag_clone.Goals as goal

pub returns-then-answer-lt9 : goal.returns-then-answer-lt9
returns-then-answer-lt9 c = rw c.number.ensures (export_short _ _ _ _ c.if-answer-lt9.true)

pub returns : goal.returns
returns c = export-told _ _ _ _ _ _ _ _ _ c.if-answer-lt9.false c.clone_range-a.ensures.met c.tell.ensures (four-same _ _ _ _ c.clone_range-a.new.out.adds.now c.clone_range-a.new.out.writes.now _ (search rules) (search rules) (search rules))
