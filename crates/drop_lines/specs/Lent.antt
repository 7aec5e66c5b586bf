-- For the code only: which of a list's items, with their shared bytes, a cut drops.
use Rattle.std.specs.Prelude.{List}
use Rattle.item.specs.Items.{items}
use Rattle.ref_def.specs.Drops.{InLeaf}
use Rattle.ref_def.specs.declared.Leaves.{Leaves}
use Rattle.drop_lines.specs.declared.Cut.{Cut}
use Rattle.drop_lines.specs.Dropped.{drops_in}

abbrev pub cut_drops : Cut → Leaves → List InLeaf
cut_drops c l = drops_in c (items l.list.now) l.shared.now
