-- For the code only: buffers that hold all that an input can say.
use Rattle.std.specs.Prelude.{ℕ, ◌*◌, ◌≤◌, length}
use Rattle.plan_def.specs.Outputs.{Outs, rooms_of}
use Rattle.read_store.specs.Buffers.{Buffers}
use Rattle.plan_bounds.specs.Ample.{most_records, most_places, Ample}

-- "(extent)" and its line's end are 9 bytes
abbrev pub most_rows : ℕ
most_rows = 7281

pub record Roomy (b : Buffers) : Type 0 where
  pub items : most_records * 70 ≤ length b.items
  pub shared : most_records ≤ length b.shared
  pub table : most_rows * 5 ≤ length b.table
  pub places : most_places ≤ length b.places

-- outputs that suffice for every plan (a record, so that a caller's arrays are not counted through to see it)
pub record Spacious (o : Outs) : Type 0 where
  pub ample : Ample (rooms_of o)
