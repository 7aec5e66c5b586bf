use Rattle.item.specs.Items.{items}
use Rattle.table.specs.Rows.{rows}
use Rattle.clone_lay.proofs.Laid.{refs-laid}
use Rattle.clone_lay.proofs.ground.CloneGround.lay_refs.Goals as goal

pub returns : goal.returns
returns c = let g = c.args.self in let d = c.put_drops-drops.ensures in
    refs-laid g.copies.copying.range _ c.cut_for-k.ensures (items g.leaves.list.records.now) g.leaves.shared.now (items g.copies.source.now) (rows g.table.numbers.now) g.size _ _ _ _ _ _ _ _ _ c.put_shares-shares.ensures d.unrefs d.releases
