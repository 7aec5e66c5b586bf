-- The laws of one list a file, of an extent's total, and of sums over the plans applied. Assumes nothing.
use mathlib.Core.Path.{◌≡◌, refl, ap, ◌∙◌, sym}
use mathlib.Core.Bool.{Bool, true, false, cond, not, false≢true}
use mathlib.Core.List.{List, [], ◌∷◌, ◌++◌}
use Prim.Native.Nat.{ℕ, ◌+◌, ◌-◌, ◌≤◌, ◌<◌}
use native.Mathlib.Omega.{arith}
use native.Mathlib.Decide.{dec_lt}
use lib.Dec.{eqb, leb}
use lib.ListN.{length}
use borrow.Author.Tests.{eqb-true, eqb-false, leb-true, eq-eqb, ne_eqb, not-true}
use Rattle.std.specs.Prelude.{Some, None}
use Rattle.records.specs.Stages.{every}
use Rattle.records.proofs.Tests.{both, both_left, both_right}
use Rattle.records.specs.Select.{count}
use Rattle.item.specs.Items.{Fields}
use Rattle.table.specs.declared.Row.{Row}
use Rattle.table.specs.Rows.{Found, find, with_row}
use Rattle.lists.specs.Lists.{shared_sound}
use Rattle.ref_def.proofs.Drops.{is_found}
use Rattle.apply_def.specs.Apply.{row_missing}
use Rattle.cut_def.specs.Refs.{Ref, naming}
use Rattle.plan_def.specs.Plans.{Plan}
use Rattle.history_theorem.specs.States.{FileList, State, list_of, with_list, total, TrueTable}
use Rattle.history_theorem.specs.Calls.{Applied}
use Rattle.history_theorem.specs.Claims.{Each, sum_for}

-- shared bytes that are 0 or 1, and none of them 1, are all 0
bytes-zero : (bs : List ℕ) → every (λ (b : ℕ). leb b 1) bs ≡ true → every (λ (b : ℕ). not (eqb b 1)) bs ≡ true → every (λ (b : ℕ). eqb b 0) bs ≡ true
unfolding every
bytes-zero [] h u = refl
bytes-zero (b ∷ bs) h u =
    let low : Bool = every (λ (b : ℕ). leb b 1) bs in
    let free : Bool = every (λ (b : ℕ). not (eqb b 1)) bs in
    let n = eqb-false b 1 (not-true (eqb b 1) (both_left (not (eqb b 1)) free u)) in
    let e : b ≡ 0 = elim (dec_lt b 1) [ yes l ↦ omega arith | no l ↦ absurd (n (omega (arith, leb-true b 1 (both_left (leb b 1) low h)))) ] in
    both (eqb b 0) _ (eq-eqb b 0 e) (bytes-zero bs (both_right (leb b 1) low h) (both_right (not (eqb b 1)) free u))

pub unmarked-zero : (fs : List Fields) (bs : List ℕ) → shared_sound bs fs ≡ true → every (λ (b : ℕ). not (eqb b 1)) bs ≡ true → every (λ (b : ℕ). eqb b 0) bs ≡ true
unmarked-zero fs bs h u = bytes-zero bs (both_right (eqb (length bs) (length fs)) (every (λ (b : ℕ). leb b 1) bs) h) u

module _ (n : ℕ) (is : List Fields) where
  -- the file that changed has its new list
  pub list_same : (fs : List FileList) → list_of n (with_list n is fs) ≡ is
  unfolding list_of with_list
  list_same [] = rw (eq-eqb n n refl) refl
  list_same (f ∷ fs) = go (eqb f.number n) refl (list_same fs)
    where
      go : (b : Bool) → eqb f.number n ≡ b → list_of n (with_list n is fs) ≡ is → list_of n (cond b (record { number = f.number; items = is } ∷ fs) (f ∷ with_list n is fs)) ≡ is
      go true e h = rw e refl
      go false e h = rw e h

  -- every other file has the list it had
  pub list-other : (m : ℕ) → (m ≡ n → ⊥) → (fs : List FileList) → list_of m (with_list n is fs) ≡ list_of m fs
  unfolding list_of with_list
  list-other m h [] = rw (ne_eqb n m (λ e. h (omega arith))) refl
  list-other m h (f ∷ fs) = go (eqb f.number n) refl (list-other m h fs)
    where
      go : (b : Bool) → eqb f.number n ≡ b → list_of m (with_list n is fs) ≡ list_of m fs → list_of m (cond b (record { number = f.number; items = is } ∷ fs) (f ∷ with_list n is fs)) ≡ list_of m (f ∷ fs)
      go true e k = rw (ne_eqb f.number m (λ x. h (omega (arith, eqb-true f.number n e)))) refl
      go false e k = ap (cond (eqb f.number m) f.items) k

  -- the total changes by what that list names
  pub total_with : (start : ℕ) (fs : List FileList) → total start (with_list n is fs) + naming start (list_of n fs) ≡ total start fs + naming start is
  unfolding list_of with_list total count
  total_with start [] = omega arith
  total_with start (f ∷ fs) = go (eqb f.number n) (total_with start fs)
    where
      go : (b : Bool) → total start (with_list n is fs) + naming start (list_of n fs) ≡ total start fs + naming start is
          → total start (cond b (record { number = f.number; items = is } ∷ fs) (f ∷ with_list n is fs)) + naming start (cond b f.items (list_of n fs)) ≡ naming start f.items + total start fs + naming start is
      go true h = omega arith
      go false h = omega arith

-- what holds for each plan of two lists holds for each of both
pub each_append : (P : Applied → Type 0) (l m : List Applied) → Each P l → Each P m → Each P (l ++ m)
each_append P [] m h k = k
each_append P (a ∷ l) m h k = (h.0, each_append P l m h.1 k)

-- a sum over both is the sum of the sums
pub sum_append : (f : Plan → ℕ) (n : ℕ) (l m : List Applied) → sum_for f n (l ++ m) ≡ sum_for f n l + sum_for f n m
unfolding sum_for
sum_append f n [] m = omega arith
sum_append f n (a ∷ l) m = omega (arith, sum_append f n l m)

-- ---- a part of the total

-- one file's items are among all
pub total-one : (n start : ℕ) (fs : List FileList) → naming start (list_of n fs) ≤ total start fs
unfolding list_of total count
total-one n start [] = omega arith
total-one n start (f ∷ fs) = go (eqb f.number n) (total-one n start fs)
  where
    go : (b : Bool) → naming start (list_of n fs) ≤ total start fs → naming start (cond b f.items (list_of n fs)) ≤ naming start f.items + total start fs
    go true ih = omega arith
    go false ih = omega arith

-- and so are two files' together
pub total-two : (n m start : ℕ) → (n ≡ m → ⊥) → (fs : List FileList) → naming start (list_of n fs) + naming start (list_of m fs) ≤ total start fs
unfolding list_of total count
total-two n m start d [] = omega arith
total-two n m start d (f ∷ fs) = go (eqb f.number n) refl (eqb f.number m) refl (total-two n m start d fs)
  where
    go : (b : Bool) → eqb f.number n ≡ b → (c : Bool) → eqb f.number m ≡ c → naming start (list_of n fs) + naming start (list_of m fs) ≤ total start fs
        → naming start (cond b f.items (list_of n fs)) + naming start (cond c f.items (list_of m fs)) ≤ naming start f.items + total start fs
    go true e true k ih = absurd (d (sym (eqb-true f.number n e) ∙ eqb-true f.number m k))
    go true e false k ih = omega (arith, total-one m start fs)
    go false e true k ih = omega (arith, total-one n start fs)
    go false e false k ih = omega arith

-- what all other files name
abbrev pub others : ℕ → ℕ → List FileList → ℕ
others n start fs = total start fs - naming start (list_of n fs)

pub with_others : (n start : ℕ) (fs : List FileList) → naming start (list_of n fs) + others n start fs ≡ total start fs
with_others n start fs = omega (arith, total-one n start fs)

pub with_others_now : (n start : ℕ) (is : List Fields) (fs : List FileList) → naming start is + others n start fs ≡ total start (with_list n is fs)
with_others_now n start is fs = omega (arith, total-one n start fs, total_with n is start fs)

-- a true table, by one file and the others
pub true_row : (s : State) (n start : ℕ) → TrueTable s → 0 < naming start (list_of n s.files) + others n start s.files
    → (k : ℕ) × (row : Row) × (find start s.rows ≡ Some (k, row)) × (row.references ≡ naming start (list_of n s.files) + others n start s.files)
true_row s n start t h = let x = t start (omega (arith, with_others n start s.files)) in (x.0, x.1, x.2, x.3 ∙ sym (with_others n start s.files))

-- a line of an extent that has a row is not missing it
pub missing-none : (rs : List Row) (r : Ref) → is_found (find r.start rs) ≡ true → row_missing rs r ≡ 0
missing-none rs r h = go (find r.start rs) h
  where
    go : (o : Found) → is_found o ≡ true → with_row o (λ (row : Row). 0) ≡ 0
    go (Some (k, row)) h = refl
    go None h = absurd (false≢true h)
