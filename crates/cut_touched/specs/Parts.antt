-- For the code only: the part of a list that a cut touches.
use Rattle.std.specs.Prelude.{◌≡◌, List, ℕ, ◌-◌, take, drop}
use Rattle.std.specs.declared.ops.Range.{Range}
use Rattle.item.specs.Items.{Fields}
use Rattle.cut_segment.specs.Segments.{Touching}

-- items a up to b of a list
abbrev pub part : {A : Type 0} → ℕ → ℕ → List A → List A
part a b l = take (b - a) (drop a l)

-- these are all that a cut of [lo, hi) touches, one behind the other
pub record TouchedPart (lo hi : ℕ) (fs gs : List Fields) : Type 0 where
  pub range : Range ℕ
  pub all : Touching lo hi fs range
  pub those : gs ≡ part range.start range.end fs
