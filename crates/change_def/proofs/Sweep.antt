-- Stretches that are swept along a file's items, the empty ones among them. Assumes nothing.
use mathlib.Core.Path.{◌≡◌, refl, ap}
use mathlib.Core.Bool.{Bool, true, false, cond, ◌&&◌, not}
use mathlib.Core.List.{List, [], ◌∷◌}
use Prim.Native.Nat.{ℕ, ◌+◌, min, max}
use native.Mathlib.Omega.{arith}
use lib.Dec.{ltb}
use borrow.Author.Tests.{ltb-false, not-true}
use Rattle.records.specs.Select.{keep}
use Rattle.records.specs.Stages.{every}
use Rattle.records.proofs.Tests.{both}
use Rattle.records.proofs.Lists.{every_flat}
use Rattle.records.proofs.Picks.{keep-none}
use Rattle.item.specs.Items.{Fields, end}
use Rattle.change_def.specs.Preallocs.{Stretch, sum_of}
use Rattle.change_def.specs.Sweep.{up_to, gaps_from, gaps, halves, sweep, holes_in}

-- a stretch has bytes
abbrev pub some : Stretch → Bool
some s = ltb 0 s.length

-- empty stretches add nothing to a sum
pub sum_some : (ss : List Stretch) → sum_of (keep some ss) ≡ sum_of ss
unfolding sum_of keep
sum_some [] = refl
sum_some (s ∷ ss) = go (some s) refl (sum_some ss)
  where
    go : (b : Bool) → some s ≡ b → sum_of (keep some ss) ≡ sum_of ss → sum_of (cond b (s ∷ keep some ss) (keep some ss)) ≡ s.length + sum_of ss
    go true e h = ap (λ (n : ℕ). s.length + n) h
    go false e h = let z = ltb-false 0 s.length e in omega (arith, h, z)

-- ---- a punch fills nothing

abbrev none : Stretch → Bool
none s = not (some s)

none_told : (s : Stretch) → s.length ≡ 0 → none s ≡ true
none_told s h = rw h refl

gaps-none : (a : ℕ) (fs : List Fields) → every none (gaps_from 0 0 a fs) ≡ true
unfolding every gaps_from
gaps-none a [] = both (none (up_to a 0)) true (none_told (up_to a 0) (omega arith)) refl
gaps-none a (f ∷ fs) =
    both (none (up_to a (min f.key 0))) (every none (gaps_from 0 0 (max 0 (end f)) fs)) (none_told (up_to a (min f.key 0)) (omega arith)) (gaps-none (max 0 (end f)) fs)

halves-none : (lo hi : ℕ) (s : Stretch) → none s ≡ true → every none (halves lo hi s) ≡ true
unfolding every
halves-none lo hi s h =
    let z = ltb-false 0 s.length (not-true (some s) h) in
    let a : Stretch = up_to s.start (min (s.start + s.length) lo) in
    let b : Stretch = up_to (max s.start hi) (s.start + s.length) in
    both (none a) (none b && true) (none_told a (omega arith)) (both (none b) true (none_told b (omega arith)) refl)

pub punch_swept : (lo hi : ℕ) (fs : List Fields) → holes_in lo hi 0 0 fs ≡ []
punch_swept lo hi fs = keep-none some (sweep lo hi 0 0 fs) (every_flat none (halves lo hi) none (halves-none lo hi) (gaps 0 0 fs) (gaps-none 0 fs))
