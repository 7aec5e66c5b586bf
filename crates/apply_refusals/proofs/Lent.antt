-- Refusals 1 to 4 of what is lent. Assumes nothing.
use mathlib.Core.Path.{◌≡◌, refl, ap, ap₂, ◌∙◌, sym}
use mathlib.Core.Bool.{Bool, true, false}
use mathlib.Core.List.{List}
use Prim.Native.Nat.{ℕ, ◌/◌, ◌≤◌, min}
use native.Mathlib.Omega.{arith}
use lib.Dec.{leb}
use lib.ListN.{length, length-take}
use borrow.Author.Tests.{leb-true}
use Rattle.records.specs.Stages.{unless, first}
use Rattle.item.proofs.Laws.{items-length}
use Rattle.table.proofs.Laws.{rows-length}
use Rattle.std.specs.Prelude.{Result, Ok, Err, IfOk}
use Rattle.records.specs.declared.refusal.Refusal.{Refusal}
use Rattle.records.specs.Refusals.{why}
use Rattle.records.proofs.Tests.{first-zero, unless-zero}
use Rattle.apply_def.specs.Lent.{Parts, items_in, rows_in, count_broken, parts_broken}
use Rattle.apply_refusals.specs.Stages.{ones, Inside}
use Rattle.apply_items.proofs.Whole.{items-first}
use Rattle.apply_rows.proofs.Rows.{rows-first}

-- how many records and rows there are
pub items-many : (n : ℕ) (s : List ℕ) → n ≤ length s / 70 → length (items_in n s) ≡ n
items-many n s h =
    let m : min n (length s / 70) ≡ n = omega arith in
    ap length (items-first n s h) ∙ length-take n _ ∙ ap (min n) (items-length s) ∙ m

pub rows-many : (n : ℕ) (s : List ℕ) → n ≤ length s / 5 → length (rows_in n s) ≡ n
rows-many n s h =
    let m : min n (length s / 5) ≡ n = omega arith in
    ap length (rows-first n s h) ∙ length-take n _ ∙ ap (min n) (rows-length s) ∙ m

-- where both counts are right, they are the numbers of records and rows
pub ones-told : (n m x : ℕ) (list table : List ℕ)
    → first (first (unless (leb n (length list / 70)) 1) (first (unless (leb m (length table / 5)) 1) x)) (first (unless (leb n 65536) 1) (unless (leb m 65536) 1))
    ≡ first (first (unless (leb n (length list / 70)) 1) (first (unless (leb m (length table / 5)) 1) x)) (first (unless (leb (length (items_in n list)) 65536) 1) (unless (leb (length (rows_in m table)) 65536) 1))
unfolding first
ones-told n m x list table = go (leb n (length list / 70)) (leb m (length table / 5)) (λ e. items-many n list (leb-true n (length list / 70) e)) (λ e. rows-many m table (leb-true m (length table / 5) e))
  where
    go : (a b : Bool) → (a ≡ true → length (items_in n list) ≡ n) → (b ≡ true → length (rows_in m table) ≡ m)
        → first (first (unless a 1) (first (unless b 1) x)) (first (unless (leb n 65536) 1) (unless (leb m 65536) 1))
        ≡ first (first (unless a 1) (first (unless b 1) x)) (first (unless (leb (length (items_in n list)) 65536) 1) (unless (leb (length (rows_in m table)) 65536) 1))
    go true true f g = ap₂ (λ (i j : ℕ). first (first 0 (first 0 x)) (first (unless (leb i 65536) 1) (unless (leb j 65536) 1))) (sym (f refl)) (sym (g refl))
    go true false f g = refl
    go false b f g = refl

-- where nothing is refused, they are there
pub ones_inside : (n m : ℕ) (list table : List ℕ) (p : Parts) (r : Result (Unit {0}) Refusal) → why r ≡ ones n m list table p → IfOk r (λ _. Inside n m list table)
ones_inside n m list table p (Err e) h = tt
ones_inside n m list table p (Ok x) h =
    let a = first-zero (first (count_broken n 70 list) (first (count_broken m 5 table) (parts_broken p))) _ (sym h) in
    let b = first-zero (count_broken n 70 list) _ a.0 in
    let c = first-zero (unless (leb n 65536) 1) (unless (leb m 65536) 1) a.1 in
    record {
      listed = leb-true n (length list / 70) (unless-zero (leb n (length list / 70)) 1 b.0 (λ q. omega arith));
      tabled = leb-true m (length table / 5) (unless-zero (leb m (length table / 5)) 1 (first-zero (count_broken m 5 table) _ b.1).0 (λ q. omega arith));
      few_items = leb-true n 65536 (unless-zero (leb n 65536) 1 c.0 (λ q. omega arith));
      few_rows = leb-true m 65536 (unless-zero (leb m 65536) 1 c.1 (λ q. omega arith));
    }
