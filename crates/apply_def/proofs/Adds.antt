-- New extents at sound places make sound rows, clear of the table and of each other. Assumes nothing.
use mathlib.Core.Path.{◌≡◌, refl}
use mathlib.Core.Bool.{Bool, true, ◌&&◌, not}
use mathlib.Core.List.{List, [], ◌∷◌, map}
use mathlib.Core.Logic.{⊎_elim}
use Prim.Native.Nat.{ℕ, ◌+◌, ◌^◌}
use native.Mathlib.Omega.{arith}
use lib.Dec.{eqb, leb, ltb}
use lib.ListN.{length}
use borrow.Author.Tests.{leb-true, ne_eqb}
use Rattle.records.specs.Stages.{every, pairs}
use Rattle.records.proofs.Tests.{both, both_left, both_right, either, either_left, either_right}
use Rattle.table.specs.declared.Row.{Row}
use Rattle.table.specs.Rows.{row_sound}
use Rattle.plan_def.specs.Plans.{Add}
use Rattle.plan_def.specs.Places.{Wanted, clear, placed, place_sound, places_apart, places_sound}
use Rattle.apply_def.specs.Apply.{row_of_add}
use Rattle.apply_def.proofs.Table.{rows_clear}

module _ (n : ℕ) (rs : List Row) where
  abbrev some : Add → Bool
  some a = leb 1 a.length

  -- one row
  row_sound_lem : (a : Add) → place_sound rs a ≡ true → some a ≡ true → row_sound (row_of_add n a) ≡ true
  row_sound_lem a h s =
      let z : Bool = not (eqb a.start 0) in
      let f : Bool = ltb (a.start + a.length) (2 ^ 64) in
      let e : Bool = every (λ (row : Row). clear a.start a.length row.start row.length) rs in
      let l = leb-true 1 a.length s in
      rw (both_left z (f && e) h, ne_eqb a.length 0 (λ q. omega arith), both_left f e (both_right z (f && e) h)) refl

  row_clear : (a : Add) → place_sound rs a ≡ true → every (rows_clear (row_of_add n a)) rs ≡ true
  row_clear a h =
      let z : Bool = not (eqb a.start 0) in
      let f : Bool = ltb (a.start + a.length) (2 ^ 64) in
      let e : Bool = every (λ (row : Row). clear a.start a.length row.start row.length) rs in
      both_right f e (both_right z (f && e) h)

  -- two extents are clear of each other either way
  apart_swap : (a b : Add) → places_apart a b ≡ true → rows_clear (row_of_add n b) (row_of_add n a) ≡ true
  apart_swap a b h =
      let x : Bool = leb (a.start + a.length) b.start in
      let y : Bool = leb (b.start + b.length) a.start in
      ⊎_elim (λ e. either_right y x e) (λ e. either_left y x e) (either x y h)

  pub rows-sound : (xs : List Add) → every (place_sound rs) xs ≡ true → every some xs ≡ true → every row_sound (map (row_of_add n) xs) ≡ true
  unfolding every
  rows-sound [] h s = refl
  rows-sound (a ∷ xs) h s =
      both (row_sound (row_of_add n a)) (every row_sound (map (row_of_add n) xs)) (row_sound_lem a (both_left (place_sound rs a) (every (place_sound rs) xs) h) (both_left (some a) (every some xs) s))
      (rows-sound xs (both_right (place_sound rs a) (every (place_sound rs) xs) h) (both_right (some a) (every some xs) s))

  pub rows-clear : (xs : List Add) → every (place_sound rs) xs ≡ true → every (λ x. every (rows_clear x) rs) (map (row_of_add n) xs) ≡ true
  unfolding every
  rows-clear [] h = refl
  rows-clear (a ∷ xs) h =
      both (every (rows_clear (row_of_add n a)) rs) (every (λ x. every (rows_clear x) rs) (map (row_of_add n) xs)) (row_clear a (both_left (place_sound rs a) (every (place_sound rs) xs) h))
      (rows-clear xs (both_right (place_sound rs a) (every (place_sound rs) xs) h))

  pub rows_apart : (xs : List Add) → pairs places_apart xs ≡ true → pairs (λ x y. rows_clear y x) (map (row_of_add n) xs) ≡ true
  unfolding every pairs
  rows_apart [] h = refl
  rows_apart (a ∷ xs) h =
      both (every (λ y. rows_clear y (row_of_add n a)) (map (row_of_add n) xs)) (pairs (λ x y. rows_clear y x) (map (row_of_add n) xs)) (rest xs (both_left (every (places_apart a) xs) (pairs places_apart xs) h))
      (rows_apart xs (both_right (every (places_apart a) xs) (pairs places_apart xs) h))
    where
      rest : (bs : List Add) → every (places_apart a) bs ≡ true → every (λ y. rows_clear y (row_of_add n a)) (map (row_of_add n) bs) ≡ true
      rest [] k = refl
      rest (b ∷ bs) k =
          both (rows_clear (row_of_add n b) (row_of_add n a)) (every (λ y. rows_clear y (row_of_add n a)) (map (row_of_add n) bs)) (apart_swap a b (both_left (places_apart a b) (every (places_apart a) bs) k))
          (rest bs (both_right (places_apart a b) (every (places_apart a) bs) k))

-- of places that are sound
module _ (rs : List Row) (ps : List ℕ) (ws : List Wanted) (sound : places_sound rs ps ws ≡ true) where
  abbrev number : Bool
  number = eqb (length ps) (length ws)

  pub each_sound : every (place_sound rs) (placed ps ws) ≡ true
  unfolding places_sound
  each_sound = both_left (every (place_sound rs) (placed ps ws)) (pairs places_apart (placed ps ws)) (both_right number (every (place_sound rs) (placed ps ws) && pairs places_apart (placed ps ws)) sound)

  pub two-apart : pairs places_apart (placed ps ws) ≡ true
  unfolding places_sound
  two-apart = both_right (every (place_sound rs) (placed ps ws)) (pairs places_apart (placed ps ws)) (both_right number (every (place_sound rs) (placed ps ws) && pairs places_apart (placed ps ws)) sound)
