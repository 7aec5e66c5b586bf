-- For the code only: new preallocated extents as the items of a file: the output `adds`, read again.
use Rattle.std.specs.Prelude.{List, map, ℕ}
use Rattle.item.specs.Items.{Fields, regular_item, of_kind}
use Rattle.plan_def.specs.Plans.{Add}
use Rattle.plan_def.specs.ReadBack.{adds_in}

-- the preallocated item over the whole of a new extent
abbrev pub piece_item : (file generation : ℕ) → Add → Fields
piece_item file generation a = of_kind (regular_item file a.key generation a.start a.length) 2

abbrev pub piece_items : (file generation : ℕ) → List ℕ → List Fields
piece_items file generation numbers = map (piece_item file generation) (adds_in numbers)
