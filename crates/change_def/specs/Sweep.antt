-- For the code only: the holes of a stretch of a file by one sweep along its items, which rise, with a range [lo, hi) taken out.
use mathlib.Core.List.{List, [], ◌∷◌, ◌++◌, flat_map}
use Rattle.std.specs.Prelude.{ℕ, ◌+◌, ◌-◌, min, max, ltb, option_to_list}
use Rattle.records.specs.Select.{keep}
use Rattle.item.specs.Items.{Fields, end}
use Rattle.change_def.specs.Preallocs.{Stretch}
use Rattle.change_def.specs.declared.RangeChange.{RangeChange}
use Rattle.change_def.specs.declared.Fill.{Fill}
use Rattle.change_def.specs.Changes.{Change}

-- from a up to b; empty where b is not past a
abbrev pub up_to : ℕ → ℕ → Stretch
up_to a b = record { start = a; length = b - a }

module _ (from to : ℕ) where
  -- the gaps of [from, to) before, between and behind items, the first of them from a; some may be empty
  unfoldable pub gaps_from : ℕ → List Fields → List Stretch
  gaps_from a [] = up_to a to ∷ []
  gaps_from a (f ∷ fs) = up_to a (min f.key to) ∷ gaps_from (max from (end f)) fs

  abbrev pub gaps : List Fields → List Stretch
  gaps fs = gaps_from from fs

module _ (lo hi : ℕ) where
  -- a stretch before lo, and from hi on
  abbrev pub halves : Stretch → List Stretch
  halves s = up_to s.start (min (s.start + s.length) lo) ∷ up_to (max s.start hi) (s.start + s.length) ∷ []

  -- all of them along a file's items
  abbrev pub sweep : (from to : ℕ) → List Fields → List Stretch
  sweep from to fs = flat_map halves (gaps from to fs)

  -- those that are not empty
  abbrev pub holes_in : (from to : ℕ) → List Fields → List Stretch
  holes_in from to fs = keep (λ (s : Stretch). ltb 0 s.length) (sweep from to fs)

-- the structs of the code as a change of a file with these items
abbrev pub filled_of : RangeChange → Fill → List Fields → Change
filled_of c w fs =
    record {
      lo = c.lo;
      hi = c.hi;
      rewrites = option_to_list c.front ++ option_to_list c.back;
      holes = holes_in c.lo c.hi w.from w.to fs;
      size = w.size;
    }
