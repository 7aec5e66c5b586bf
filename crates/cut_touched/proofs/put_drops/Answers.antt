use Rattle.item.specs.Items.{items}
use Rattle.cut_touched.proofs.Parts.{part-drops}
use Rattle.cut_touched.proofs.put_drops.Goals as goal

pub returns-clause-unrefs : goal.returns-clause-unrefs
returns-clause-unrefs c = let a = c.args in rw (c.records_in-list.ensures, part-drops a.k (items a.leaves.list.records.now) _ c.touched-found.ensures a.leaves.shared.now) at c.put_drops.ensures.unrefs

pub returns-clause-releases : goal.returns-clause-releases
returns-clause-releases c = let a = c.args in rw (c.records_in-list.ensures, part-drops a.k (items a.leaves.list.records.now) _ c.touched-found.ensures a.leaves.shared.now) at c.put_drops.ensures.releases
