-- The search by halves for the first row that ends behind a place's start: no other row can meet the place. Assumes nothing.
use mathlib.Core.Path.{◌≡◌, ◌∙◌, sym}
use mathlib.Core.Bool.{Bool, true, false}
use mathlib.Core.List.{List, []}
use mathlib.Core.Logic.{◌⊎◌, inl, inr}
use Prim.Native.Nat.{ℕ, ◌+◌, ◌/◌, ◌<◌, ◌≤◌}
use native.Mathlib.Omega.{arith}
use native.Mathlib.Decide.{ℕ_discrete, dec_lt}
use lib.Dec.{leb}
use lib.ListN.{length, get_or}
use borrow.Author.Tests.{leb-true, leb-false, le-leb}
use Rattle.records.specs.Stages.{every}
use Rattle.records.proofs.Tests.{same, every-at, either_left, either_right}
use Rattle.records.proofs.Lists.{at_every}
use Rattle.table.specs.declared.Row.{Row}
use Rattle.table.specs.Rows.{row_of, rows, table_kept}
use Rattle.table.proofs.Laws.{rows-length, kept-apart, kept-length}
use Rattle.table.proofs.Arrays.{arrays, array-start, arrays-parted, rows-before, rows-behind}
use Rattle.std.specs.List.Sorted.{IsPartitionedBy, IsPartitionPoint}
use Rattle.plan_def.specs.Places.{clear}
use Rattle.plan_def.proofs.Places.{clear_says}

-- row j, and where it ends
abbrev pub row_on : List ℕ → ℕ → Row
row_on t j = get_or (rows t) j (row_of [])

abbrev pub end_on : List ℕ → ℕ → ℕ
end_on t j = (row_on t j).start + (row_on t j).length

-- a row that ends at or before `start`
abbrev pub ends_before : ℕ → Row → Bool
ends_before start row = leb (row.start + row.length) start

module _ (t : List ℕ) (start : ℕ) (k : table_kept (rows t) ≡ true) (long : length (arrays t) ≡ length t / 5) where
  -- an earlier row ends before a later one starts
  apart : (i j : ℕ) → i < j → j < length t / 5 → end_on t i ≤ (row_on t j).start
  apart i j p q = kept-apart (rows t) k i j (row_of []) p (omega (arith, rows-length t))

  -- so a later one ends later
  ends : (i j : ℕ) → i < j → j < length t / 5 → end_on t i < end_on t j
  ends i j p q = omega (arith, apart i j p q, kept-length (rows t) k j (row_of []) (omega (arith, rows-length t)))

  pub ends-parted : IsPartitionedBy (λ r. ends_before start (row_of r)) (arrays t)
  ends-parted = arrays-parted (ends_before start) t (row_of []) long (λ i j p q x. le-leb _ _ (omega (arith, ends i j p q, leb-true _ _ x)))

module _
    (t : List ℕ) (start : ℕ) (k : table_kept (rows t) ≡ true) (long : length (arrays t) ≡ length t / 5) (lo : ℕ) (top : lo ≤ length (arrays t))
    (parts : IsPartitionPoint (λ y. ends_before start (row_of y) ≡ true) (λ y. ends_before start (row_of y) ≡ false) (arrays t) lo) where
  low : (j : ℕ) → j < lo → end_on t j ≤ start
  low j p = leb-true _ _ (rows-before (ends_before start) t (row_of []) long lo top parts j p)

  high : (j : ℕ) → lo ≤ j → j < length t / 5 → start < end_on t j
  high j p q = leb-false _ _ (rows-behind (ends_before start) t (row_of []) long lo top parts j p q)

  -- what is asked of the rows, and when one passes
  module _ (size : ℕ) where
    abbrev meets_none : Row → Bool
    meets_none row = clear start size row.start row.length

    below : (j : ℕ) → j < lo → meets_none (row_on t j) ≡ true
    below j p = either_right (leb (start + size) (row_on t j).start) (leb (end_on t j) start) (le-leb _ _ (low j p))

    -- every row ends at or before
    pub all_before : lo ≡ length (arrays t) → true ≡ every meets_none (rows t)
    all_before z = sym (at_every meets_none (row_of []) (rows t) (λ j l. below j (omega (arith, rows-length t))))

    -- row lo is the first that ends after: whether it starts behind the place decides
    module _ (x : ℕ) (at : lo < length (arrays t)) (e : x ≡ get_or (get_or (arrays t) lo []) 0 0) where
      h : lo < length t / 5
      h = omega arith

      first_row : (row_on t lo).start ≡ x
      first_row = sym (e ∙ array-start t lo [] (row_of []) h)

      behind : leb (start + size) x ≡ true → (j : ℕ) → j < length (rows t) → meets_none (row_on t j) ≡ true
      behind y j l =
          let z : start + size ≤ (row_on t lo).start = rw first_row (leb-true _ _ y) in
          let q : j < length t / 5 = omega (arith, rows-length t) in
          let past : start + size ≤ (row_on t j).start → meets_none (row_on t j) ≡ true = λ w. either_left (leb (start + size) (row_on t j).start) (leb (end_on t j) start) (le-leb _ _ w) in
          elim (dec_lt j lo) [
            | yes a ↦ below j a
            | no a ↦ elim (ℕ_discrete j lo) [ yes w ↦ past (rw w z) | no w ↦ past (omega (arith, apart t start k long lo j (omega arith) q)) ]
          ]

      ahead : (start + size ≤ (row_on t lo).start) ⊎ (end_on t lo ≤ start) → start + size ≤ (row_on t lo).start
      ahead (inl y) = y
      ahead (inr y) = absurd (omega (arith, high lo (omega arith) h))

      pub first-behind : leb (start + size) x ≡ every meets_none (rows t)
      first-behind =
          same (leb (start + size) x) (every meets_none (rows t))
          (λ y. at_every meets_none (row_of []) (rows t) (behind y))
          (λ y. le-leb _ _ (rw first_row at (ahead (clear_says _ _ _ _ (every-at meets_none (rows t) y lo (row_of []) (omega (arith, rows-length t)))))))
