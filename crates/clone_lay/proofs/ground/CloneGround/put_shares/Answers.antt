use Rattle.item.specs.Items.{items}
use Rattle.clone_lay.proofs.Laid.{shares-room, shares-laid}
use Rattle.clone_lay.proofs.ground.CloneGround.put_shares.Goals as goal

pub put_refs-requires : goal.put_refs-requires
put_refs-requires c = let g = c.args.self in shares-room g.copies.copying.range _ c.cut_for-k.ensures g.leaves.list.records.now g.copies.source.now _ _ _ g.placing c.put_splits-n.ensures

pub returns : goal.returns
returns c = let g = c.args.self in shares-laid g.copies.copying.range _ c.cut_for-k.ensures (items g.leaves.list.records.now) (items g.copies.source.now) _ _ _ _ _ c.put_splits-n.ensures c.put_refs.ensures
