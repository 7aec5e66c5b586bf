-- For the code only: what a change goes by, in the terms of the definitions.
use Rattle.std.specs.Prelude.{List}
use Rattle.item.specs.Items.{Fields, items}
use Rattle.table.specs.declared.Row.{Row}
use Rattle.table.specs.Rows.{rows}
use Rattle.ref_def.specs.Drops.{InLeaf, in_leaves}
use Rattle.cut_segment.specs.declared.RunningLeaves.{RunningLeaves}
use Rattle.change_def.specs.Rewrites.{Ground, ground_of}
use Rattle.change_ground.specs.declared.Ground.{Ground as Lent}

abbrev pub items_in : Lent → List Fields
items_in g = items g.leaves.list.records.now

-- the items, each with its shared byte
abbrev pub running_leaves : RunningLeaves → List InLeaf
running_leaves l = in_leaves (items l.list.records.now) l.shared.now

abbrev pub leaves_in : Lent → List InLeaf
leaves_in g = running_leaves g.leaves

abbrev pub rows_in : Lent → List Row
rows_in g = rows g.table.numbers.now

-- what the definitions call the ground of a change
abbrev pub ground : Lent → Ground
ground g = ground_of g.volume g.file (items_in g) g.leaves.shared.now (rows_in g)
