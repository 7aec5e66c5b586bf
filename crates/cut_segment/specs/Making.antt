-- For the code only: a list of which a segment is made anew, in the making.
use Rattle.std.specs.Prelude.{◌≡◌, ℕ, length}
use Rattle.cut_segment.specs.Segments.{Cutting, Inserted}
use Rattle.item.specs.Items.{Fields}
use Rattle.cut_segment.specs.declared.Running.{Running}
use Rattle.cut_segment.specs.declared.making.Making.{Making}

-- the list of one and the room in its buffer
pub record Of (l : Running) (n : ℕ) (m : Making) : Type 0 where
  pub list : m.list ≡ l
  pub room : length m.buffer.now ≡ n

-- they stay as they were
abbrev pub Stays : Making → Making → Type 0
Stays m = Of m.list (length m.buffer.now)

-- what a cut of [lo, hi) leaves in a buffer
pub record CutFrom (lo hi : ℕ) (list : Running) (room : ℕ) (m : Making) : Type 0 where
  pub those : Of list room m
  pub cut : Cutting lo hi list.records.now m.segment m.buffer.now

-- an item put in
abbrev pub PutIn : Fields → Making → Making → Type 0
PutIn x m m' = Inserted x m.segment m.buffer.now m'.segment m'.buffer.now
