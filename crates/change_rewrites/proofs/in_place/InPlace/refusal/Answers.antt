use Rattle.std.proofs.Common.{rules}
use Rattle.records.specs.Stages.{first_of, first}
use Rattle.item.specs.Items.{items}
use Rattle.ref_def.proofs.Drops.{leaves-items}
use Rattle.change_rewrites.proofs.in_place.InPlace.refusal.Goals as goal

pub returns : goal.returns
unfolding first first_of
returns c = let l = c.args.g.leaves in rw (leaves-items (items l.list.records.now) l.shared.now l.one_each) (search rules)
