-- Records of one width, one behind the other, in a list of numbers.
use Rattle.std.specs.Prelude.{List, [], ◌∷◌, ℕ, zero, suc, ◌/◌, length, drop}

-- d reads the record at a list's start; w is a record's width
module _ {A : Type 0} (d : List ℕ → A) (w : ℕ) where
  -- the first n records
  unfoldable pub chunks : ℕ → List ℕ → List A
  chunks zero s = []
  chunks (suc n) s = d s ∷ chunks n (drop w s)

  -- all records; a part of one at the end is none
  unfoldable pub records : List ℕ → List A
  records s = chunks (length s / w) s
