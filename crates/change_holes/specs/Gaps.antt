-- For the code only: the gaps between items, by their numbers.
use Rattle.std.specs.Prelude.{true, ◌≡◌, ℕ, zero, suc, ◌^◌, min, max, leb}
use mathlib.Core.List.{List, [], ◌∷◌}
use Rattle.records.specs.Stages.{every}
use Rattle.item.specs.Items.{Fields, end}

-- every item ends at most at 2^63
abbrev pub Ends : List Fields → Type 0
Ends fs = every (λ (f : Fields). leb (end f) (2 ^ 63)) fs ≡ true

-- the gap before item n: from the end of the item before it, up to its key
unfoldable pub gap_start : (from : ℕ) → List Fields → ℕ → ℕ
gap_start from fs zero = from
gap_start from [] (suc n) = from
gap_start from (f ∷ fs) (suc zero) = max from (end f)
gap_start from (f ∷ fs) (suc (suc n)) = gap_start from fs (suc n)

unfoldable pub gap_stop : (to : ℕ) → List Fields → ℕ → ℕ
gap_stop to [] n = to
gap_stop to (f ∷ fs) zero = min f.key to
gap_stop to (f ∷ fs) (suc n) = gap_stop to fs n
