use Rattle.cut_segment.proofs.Inserting.{inserted_good}
use Rattle.cut_segment.proofs.making.Making.insert.Goals as goal

pub invariant_of-self : goal.invariant_of-self
invariant_of-self c =
    let m = c.args.self.now in
    record { good = inserted_good _ m.list.records.now m.segment m.buffer.now _ _ c.insert_item-self.ensures m.good c.requires.1 }
