-- A table as arrays of five numbers, as the library's search by halves takes it: where it parts them, it parts the rows.
-- Assumes nothing.
use mathlib.Core.Path.{◌≡◌, refl, ap, ◌∙◌, sym}
use mathlib.Core.Bool.{Bool, true, false}
use mathlib.Core.List.{List, []}
use Prim.Native.Nat.{ℕ, zero, suc, ◌/◌, ◌≤◌, ◌<◌}
use Rattle.std.proofs.Math.Nat.{eq-or-lt_of_le}
use Rattle.std.proofs.Common.{inl, inr}
use native.Mathlib.Omega.{arith}
use lib.ListN.{length, get_or, take, drop}
use lib.Seq.{get_or-take}
use Rattle.std.specs.Simd.{first_chunks}
use Rattle.std.specs.List.Sorted.{IsPartitionedBy, IsPartitionPoint}
use Rattle.records.specs.Records.{chunks, records}
use Rattle.table.specs.Rows.{row_of, rows}
use Rattle.table.specs.declared.Row.{Row}

row-take : (s : List ℕ) → row_of (take 5 s) ≡ row_of s
unfolding row_of
row-take s = rw (get_or-take 5 s 0 0 (omega arith), get_or-take 5 s 1 0 (omega arith), get_or-take 5 s 2 0 (omega arith), get_or-take 5 s 3 0 (omega arith), get_or-take 5 s 4 0 (omega arith)) refl

array-read : (n : ℕ) (s : List ℕ) (i : ℕ) (d : List ℕ) (e : Row) → i < n → row_of (get_or (first_chunks 5 n s) i d) ≡ get_or (chunks row_of 5 n s) i e
unfolding chunks
array-read zero s i d e h = absurd (omega arith)
array-read (suc n) s zero d e h = row-take s
array-read (suc n) s (suc i) d e h = array-read n (drop 5 s) i d e (omega arith)

abbrev pub arrays : List ℕ → List (List ℕ)
arrays t = first_chunks 5 (length t / 5) t

-- array i is row i
pub array-row : (t : List ℕ) (i : ℕ) (d : List ℕ) (e : Row) → i < length t / 5 → row_of (get_or (arrays t) i d) ≡ get_or (rows t) i e
unfolding rows records
array-row t i d e h = array-read (length t / 5) t i d e h

-- and begins with its start
pub array-start : (t : List ℕ) (i : ℕ) (d : List ℕ) (e : Row) → i < length t / 5 → get_or (get_or (arrays t) i d) 0 0 ≡ (get_or (rows t) i e).start
unfolding row_of
array-start t i d e h = ap (λ (r : Row). r.start) (array-row t i d e h)

-- a test that is true of the leading rows and false of those behind them
module _ (p : Row → Bool) (t : List ℕ) (e : Row) (long : length (arrays t) ≡ length t / 5) where
  pub arrays-parted : ((i j : ℕ) → i < j → j < length t / 5 → p (get_or (rows t) j e) ≡ true → p (get_or (rows t) i e) ≡ true) → IsPartitionedBy (λ r. p (row_of r)) (arrays t)
  arrays-parted a i j d h l x =
      let passes : p (get_or (rows t) j e) ≡ true = sym (ap p (array-row t j d e (omega arith))) ∙ x in
      ap p (array-row t i d e (omega arith)) ∙ elim (eq-or-lt_of_le h) [ inl q ↦ rw q passes | inr q ↦ a i j q (omega arith) passes ]

  module _ (k : ℕ) (h : k ≤ length (arrays t)) (parts : IsPartitionPoint (λ y. p (row_of y) ≡ true) (λ y. p (row_of y) ≡ false) (arrays t) k) where
    pub rows-before : (j : ℕ) → j < k → p (get_or (rows t) j e) ≡ true
    rows-before j l = sym (ap p (array-row t j [] e (omega arith))) ∙ parts.0 j [] (omega arith) l

    pub rows-behind : (j : ℕ) → k ≤ j → j < length t / 5 → p (get_or (rows t) j e) ≡ false
    rows-behind j g l = sym (ap p (array-row t j [] e l)) ∙ parts.1 j [] g (omega arith)
