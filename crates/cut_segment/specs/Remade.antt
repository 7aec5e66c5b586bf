-- For the code only: the parts of a list of which a segment is made anew.
use Rattle.std.specs.Prelude.{List, ◌-◌, take, drop}
use Rattle.item.specs.Items.{Fields, items}
use Rattle.cut_segment.specs.Segments.{segment_of}
use Rattle.cut_segment.specs.declared.remade.Remade.{Remade}

-- the items that make way
abbrev pub taken_of : Remade → List Fields
taken_of m = take (m.segment.to - m.segment.from) (drop m.segment.from (items m.list.records.now))

-- those that are made in their place
abbrev pub made_of : Remade → List Fields
made_of m = segment_of m.segment m.buffer.now
