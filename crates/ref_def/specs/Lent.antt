-- For the code only: what a list with its shared bytes says.
use Rattle.std.specs.Prelude.{List}
use Rattle.item.specs.Items.{items}
use Rattle.ref_def.specs.Drops.{InLeaf, in_leaves}
use Rattle.ref_def.specs.declared.Leaves.{Leaves}

-- its items, each with its byte
abbrev pub leaves_of : Leaves → List InLeaf
leaves_of l = in_leaves (items l.list.now) l.shared.now
