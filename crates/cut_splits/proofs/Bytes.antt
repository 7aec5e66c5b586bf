-- The byte count as the sum of a chain: of the items that are no holes, their lengths. Assumes nothing.
use Rattle.std.proofs.Common.{◌≡◌, ℕ, List, [], ◌∷◌, Bool, true, false, cond, not, ◌+◌, refl}
use Rattle.std.proofs.lemmas.List.Sums.{sum_by-cons}
use native.Mathlib.Omega.{arith}
use Rattle.std.specs.List.{filter, sum_by}
use Rattle.item.specs.Items.{Fields, hole}
use Rattle.cut_def.specs.Pieces.{counted_bytes}

abbrev pub stored : Fields → Bool
stored f = not (hole f)

abbrev pub bytes : Fields → ℕ
bytes f = f.length

pub counted_sum : (fs : List Fields) → counted_bytes fs ≡ sum_by bytes (filter stored fs)
unfolding counted_bytes
counted_sum [] = refl
counted_sum (f ∷ fs) = go (hole f) (counted_sum fs)
  where
    go : (b : Bool) → counted_bytes fs ≡ sum_by bytes (filter stored fs) → cond b 0 f.length + counted_bytes fs ≡ sum_by bytes (cond (not b) (f ∷ filter stored fs) (filter stored fs))
    go true e = omega (arith, e)
    go false e = omega (arith, e, sum_by-cons bytes f (filter stored fs))
