-- What sound places are: a place for each extent wanted, clear of the table and of each other. Assumes nothing.
use mathlib.Core.Path.{◌≡◌, refl, ap, sym}
use mathlib.Core.Bool.{Bool, true, ◌&&◌, not}
use mathlib.Core.List.{List, [], ◌∷◌}
use mathlib.Core.Logic.{◌⊎◌, inl, inr}
use Prim.Native.Nat.{ℕ, zero, suc, ◌+◌, ◌^◌, ◌<◌, ◌≤◌}
use native.Mathlib.Omega.{arith}
use lib.Dec.{eqb, leb, ltb}
use lib.ListN.{length, get_or}
use borrow.Author.Tests.{ltb-true, leb-true, eqb-true, eqb-false, not-true}
use Rattle.std.specs.Prelude.{None}
use Rattle.records.specs.Stages.{every, pairs}
use Rattle.records.proofs.Tests.{both_left, both_right, either, every-at, pairs-at}
use Rattle.table.specs.declared.Row.{Row}
use Rattle.table.specs.Rows.{find}
use Rattle.table.proofs.Laws.{none-missing}
use Rattle.plan_def.specs.Plans.{Add}
use Rattle.plan_def.specs.Places.{Wanted, placed, clear, place_sound, places_apart, places_sound}

-- ---- the adds

-- as many as places, if there is a place for each extent wanted
pub placed-length : (ps : List ℕ) (ws : List Wanted) → length ps ≡ length ws → length (placed ps ws) ≡ length ps
unfolding placed
placed-length [] ws h = refl
placed-length (p ∷ ps) [] h = absurd (omega arith)
placed-length (p ∷ ps) (w ∷ ws) h = ap suc (placed-length ps ws (omega arith))

-- the kth has the kth place, and what the kth extent wanted has
pub placed_at : (ps : List ℕ) (ws : List Wanted) (k : ℕ) (e : Add) (w : Wanted) → k < length ps → k < length ws
    → get_or (placed ps ws) k e ≡ record { start = get_or ps k 0; length = (get_or ws k w).length; key = (get_or ws k w).key }
unfolding placed
placed_at [] ws k e w l m = absurd (omega arith)
placed_at (p ∷ ps) [] k e w l m = absurd (omega arith)
placed_at (p ∷ ps) (v ∷ ws) zero e w l m = refl
placed_at (p ∷ ps) (v ∷ ws) (suc k) e w l m = placed_at ps ws k e w (omega arith) (omega arith)

-- ---- what the tests say

-- [a, a + m) and [b, b + n) share no byte: one ends at most where the other starts
pub clear_says : (a m b n : ℕ) → clear a m b n ≡ true → (a + m ≤ b) ⊎ (b + n ≤ a)
clear_says a m b n h = go (either (leb (a + m) b) (leb (b + n) a) h)
  where
    go : (leb (a + m) b ≡ true) ⊎ (leb (b + n) a ≡ true) → (a + m ≤ b) ⊎ (b + n ≤ a)
    go (inl e) = inl (leb-true (a + m) b e)
    go (inr e) = inr (leb-true (b + n) a e)

-- so they do not start alike, if neither is empty
clear-starts : (a m b n : ℕ) → clear a m b n ≡ true → 0 < m → 0 < n → a ≡ b → ⊥
clear-starts a m b n h p q e = go (clear_says a m b n h)
  where
    go : (a + m ≤ b) ⊎ (b + n ≤ a) → ⊥
    go (inl l) = omega arith
    go (inr l) = omega arith

-- a sound add
pub record SoundAdd (rows : List Row) (a : Add) : Type 0 where
  pub start : 0 < a.start
  pub fits : a.start + a.length < 2 ^ 64
  pub apart : (i : ℕ) (r : Row) → i < length rows → clear a.start a.length (get_or rows i r).start (get_or rows i r).length ≡ true

sound_says : (rows : List Row) (a : Add) → place_sound rows a ≡ true → SoundAdd rows a
sound_says rows a h =
    let s : Bool = not (eqb a.start 0) in
    let f : Bool = ltb (a.start + a.length) (2 ^ 64) in
    let t : Row → Bool = λ row. clear a.start a.length row.start row.length in
    let h1 : (f && every t rows) ≡ true = both_right s (f && every t rows) h in
    let z = eqb-false a.start 0 (not-true (eqb a.start 0) (both_left s (f && every t rows) h)) in
    record {
      start = omega (arith, z);
      fits = ltb-true (a.start + a.length) (2 ^ 64) (both_left f (every t rows) h1);
      apart = every-at t rows (both_right f (every t rows) h1);
    }

module _ (rows : List Row) (ps : List ℕ) (ws : List Wanted) (h : places_sound rows ps ws ≡ true) where
  -- the three tests
  parts : (eqb (length ps) (length ws) ≡ true) × (every (place_sound rows) (placed ps ws) ≡ true) × (pairs places_apart (placed ps ws) ≡ true)
  unfolding places_sound
  parts =
      let c : Bool = eqb (length ps) (length ws) in
      let s : Bool = every (place_sound rows) (placed ps ws) in
      let d : Bool = pairs places_apart (placed ps ws) in
      let h1 : (s && d) ≡ true = both_right c (s && d) h in
      (both_left c (s && d) h, both_left s d h1, both_right s d h1)

  -- a place for each extent wanted
  pub places_count : length ps ≡ length ws
  places_count = eqb-true (length ps) (length ws) parts.0

  -- so an add for each
  adds : length (placed ps ws) ≡ length ps
  adds = placed-length ps ws places_count

  -- each add is sound
  pub places-sound : (k : ℕ) (e : Add) → k < length ps → SoundAdd rows (get_or (placed ps ws) k e)
  places-sound k e l = sound_says rows (get_or (placed ps ws) k e) (every-at (place_sound rows) (placed ps ws) parts.1 k e (omega (arith, adds)))

  -- any two are clear of each other
  pub places-apart : (i j : ℕ) (e : Add) → i < j → j < length ps → places_apart (get_or (placed ps ws) i e) (get_or (placed ps ws) j e) ≡ true
  places-apart i j e l m = pairs-at places_apart (placed ps ws) parts.2 i j e l (omega (arith, adds))

  -- ---- no extent wanted is empty
  module _ (w : Wanted) (long : (k : ℕ) → k < length ws → 0 < (get_or ws k w).length) where
    -- the kth add, by its place
    abbrev nth : ℕ → Add
    nth k = record { start = get_or ps k 0; length = (get_or ws k w).length; key = (get_or ws k w).key }

    is_nth : (k : ℕ) (e : Add) → k < length ps → get_or (placed ps ws) k e ≡ nth k
    is_nth k e l = placed_at ps ws k e w l (omega (arith, places_count))

    some : (k : ℕ) → k < length ps → 0 < (get_or ws k w).length
    some k l = long k (omega (arith, places_count))

    -- no row starts at a place
    pub place_no_row : (k i : ℕ) (r : Row) → k < length ps → i < length rows → 0 < (get_or rows i r).length → (get_or rows i r).start ≡ get_or ps k 0 → ⊥
    place_no_row k i r l m full e =
        let s : SoundAdd rows (nth k) = rw (is_nth k (nth k) l) at (places-sound k (nth k) l) in
        clear-starts (get_or ps k 0) (get_or ws k w).length (get_or rows i r).start (get_or rows i r).length (s.apart i r m) (some k l) full (sym e)

    -- so none is found there
    pub place_missing : (k : ℕ) (r : Row) → k < length ps → ((i : ℕ) → i < length rows → 0 < (get_or rows i r).length) → find (get_or ps k 0) rows ≡ None
    place_missing k r l full = none-missing rows 0 (get_or ps k 0) r (λ i m. place_no_row k i r l m (full i m))

    -- no two places are alike
    pub places_differ : (i j : ℕ) → i < j → j < length ps → get_or ps i 0 ≡ get_or ps j 0 → ⊥
    places_differ i j l m e =
        let k : i < length ps = omega arith in
        let c : places_apart (nth i) (nth j) ≡ true = rw (is_nth i (nth i) k, is_nth j (nth i) m) at (places-apart i j (nth i) l m) in
        clear-starts (get_or ps i 0) (get_or ws i w).length (get_or ps j 0) (get_or ws j w).length c (some i k) (some j m) e
