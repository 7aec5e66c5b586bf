use Rattle.clone_lay.proofs.Cut.{edits-asked, edits-told}
use Rattle.clone_lay.proofs.ground.CloneGround.put_changes.Goals as goal

pub put_edits-requires : goal.put_edits-requires
put_edits-requires c = edits-asked c.args.self c.args.m c.requires _ _ c.taken.ensures c.made.ensures

pub returns : goal.returns
returns c = edits-told c.args.self c.args.m c.requires _ _ c.taken.ensures c.made.ensures _ _ _ c.put_edits.ensures
