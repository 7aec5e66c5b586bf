use Rattle.edit_lines.proofs.Steps.{old-left, stepped}
use Rattle.edit_lines.proofs.step.Goals as goal

pub put_next-requires : goal.put_next-requires
put_next-requires c = let a = c.args in let p = c.requires in (p.olds, p.i, old-left a.file a.generation a.segment.now a.pieces.now a.was.now a.at c.next_new-next.result p c.next_new-next.ensures, p.n)

pub returns : goal.returns
returns c = let a = c.args in stepped a.file a.generation a.segment.now a.pieces.now a.was.now a.at c.next_new-next.result a.out.now _ _ c.requires c.next_new-next.ensures c.put_next.ensures
