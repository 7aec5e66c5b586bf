use Rattle.clone_copies.proofs.Steps.{stepped}
use Rattle.clone_copies.proofs.Merge.step.Goals as goal

pub returns : goal.returns
returns c = let a = c.args in let m = a.self.copies in stepped m.copying.range m.source.now a.self.segment.now a.self.was.now a.at c.next_new-next.result a.out.now _ _ c.requires c.next_new-next.ensures c.put_next.ensures
