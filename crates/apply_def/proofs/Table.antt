-- The table after a plan is kept, if new extents lie clear of it and of each other. Assumes nothing.
use mathlib.Core.Path.{◌≡◌, refl, ap}
use mathlib.Core.Bool.{Bool, true, false, cond, ◌&&◌, not}
use mathlib.Core.List.{List, [], ◌∷◌, ◌++◌, map}
use mathlib.Core.Logic.{⊎_elim}
use Prim.Native.Nat.{ℕ, zero, suc, ◌+◌, ◌<◌, ◌≤◌, ◌^◌}
use native.Mathlib.Omega.{arith}
use lib.Dec.{eqb, leb, ltb}
use lib.ListN.{length, take, drop}
use borrow.Author.Tests.{leb-true, ltb-true, ltb-false, eqb-false, not-true, le-leb, le-ltb}
use Rattle.records.specs.Stages.{every, pairs}
use Rattle.records.specs.Select.{keep}
use Rattle.records.proofs.Tests.{both, both_left, both_right, either, either_left, either_right, same, every_map, every_both, every_picked, pairs-picked}
use Rattle.table.specs.declared.Row.{Row}
use Rattle.table.specs.Rows.{row_sound, row_before, table_kept}
use Rattle.table.proofs.Laws.{kept-pairs, pairs-kept}
use Rattle.plan_def.specs.Plans.{Plan}
use Rattle.plan_def.specs.Places.{clear}
use Rattle.apply_def.specs.Apply.{moved, goes, row_of_add, insert_row, insert_rows, rows_after}

-- two extents that share no byte
abbrev pub rows_clear : Row → Row → Bool
rows_clear x r = clear x.start x.length r.start r.length

-- a sound row has a byte
pub row_some : (r : Row) → row_sound r ≡ true → 0 < r.length
row_some r h =
    let a : Bool = not (eqb r.start 0) in
    let b : Bool = not (eqb r.length 0) in
    let c : Bool = ltb (r.start + r.length) (2 ^ 64) in
    let n = eqb-false r.length 0 (not-true (eqb r.length 0) (both_right a b (both_left (a && b) c (both_left (a && b && c) (leb r.keyed 1) h)))) in
    omega arith

-- of two that share no byte, the one that starts lower comes before the other
lower-before : (x r : Row) → row_sound r ≡ true → rows_clear x r ≡ true → x.start < r.start → row_before x r ≡ true
lower-before x r s h l =
    ⊎_elim (λ e. e) (λ e. let k = leb-true (r.start + r.length) x.start e in absurd (omega (arith, row_some r s)))
    (either (leb (x.start + x.length) r.start) (leb (r.start + r.length) x.start) h)

higher_after : (x r : Row) → row_sound x ≡ true → rows_clear x r ≡ true → r.start ≤ x.start → row_before r x ≡ true
higher_after x r s h l =
    ⊎_elim (λ e. let k = leb-true (x.start + x.length) r.start e in absurd (omega (arith, row_some x s))) (λ e. e)
    (either (leb (x.start + x.length) r.start) (leb (r.start + r.length) x.start) h)

-- ---- a row inserted

pub insert_row-length : (x : Row) (rs : List Row) → length (insert_row x rs) ≡ suc (length rs)
unfolding insert_row
insert_row-length x [] = refl
insert_row-length x (r ∷ rs) = go (ltb x.start r.start) (insert_row-length x rs)
  where
    go : (b : Bool) → length (insert_row x rs) ≡ suc (length rs) → length (cond b (x ∷ r ∷ rs) (r ∷ insert_row x rs)) ≡ suc (suc (length rs))
    go true i = refl
    go false i = ap suc i

pub insert_rows-length : (xs rs : List Row) → length (insert_rows xs rs) ≡ length xs + length rs
unfolding insert_rows
insert_rows-length [] rs = omega arith
insert_rows-length (x ∷ xs) rs = omega (arith, insert_rows-length xs (insert_row x rs), insert_row-length x rs)

-- behind all that start at most where it does, before all others
pub insert_row-at : (x : Row) (rs : List Row) (i : ℕ) → every (λ (r : Row). leb r.start x.start) (take i rs) ≡ true → every (λ (r : Row). ltb x.start r.start) (drop i rs) ≡ true → insert_row x rs ≡ take i rs ++ x ∷ drop i rs
unfolding insert_row every
insert_row-at x [] zero h k = refl
insert_row-at x [] (suc i) h k = refl
insert_row-at x (r ∷ rs) zero h k = rw (both_left (ltb x.start r.start) (every (λ (r : Row). ltb x.start r.start) rs) k) refl
insert_row-at x (r ∷ rs) (suc i) h k =
    let t : Row → Bool = λ r. leb r.start x.start in
    rw (le-ltb x.start r.start (leb-true r.start x.start (both_left (t r) (every t (take i rs)) h))) (ap (λ (l : List Row). r ∷ l) (insert_row-at x rs i (both_right (t r) (every t (take i rs)) h) k))

pub every-insert_row : (p : Row → Bool) (x : Row) (rs : List Row) → p x ≡ true → every p rs ≡ true → every p (insert_row x rs) ≡ true
unfolding insert_row every
every-insert_row p x [] h k = both (p x) true h refl
every-insert_row p x (r ∷ rs) h k = go (ltb x.start r.start) (every-insert_row p x rs h (both_right (p r) (every p rs) k))
  where
    go : (b : Bool) → every p (insert_row x rs) ≡ true → every p (cond b (x ∷ r ∷ rs) (r ∷ insert_row x rs)) ≡ true
    go true ih = both (p x) (p r && every p rs) h k
    go false ih = both (p r) (every p (insert_row x rs)) (both_left (p r) (every p rs) k) ih

pairs-insert_row : (x : Row) (rs : List Row) → row_sound x ≡ true → every row_sound rs ≡ true → every (rows_clear x) rs ≡ true → pairs row_before rs ≡ true → pairs row_before (insert_row x rs) ≡ true
unfolding insert_row pairs every
pairs-insert_row x [] sx s c h = refl
pairs-insert_row x (r ∷ rs) sx s c h =
    go (ltb x.start r.start) refl
    (pairs-insert_row x rs sx (both_right (row_sound r) (every row_sound rs) s) (both_right (rows_clear x r) (every (rows_clear x) rs) c) (both_right (every (row_before r) rs) (pairs row_before rs) h))
  where
    sr : row_sound r ≡ true
    sr = both_left (row_sound r) (every row_sound rs) s

    cr : rows_clear x r ≡ true
    cr = both_left (rows_clear x r) (every (rows_clear x) rs) c

    br : every (row_before r) rs ≡ true
    br = both_left (every (row_before r) rs) (pairs row_before rs) h

    go : (b : Bool) → ltb x.start r.start ≡ b → pairs row_before (insert_row x rs) ≡ true → pairs row_before (cond b (x ∷ r ∷ rs) (r ∷ insert_row x rs)) ≡ true
    go true e ih =
        let l = ltb-true x.start r.start e in
        let f = lower-before x r sr cr l in
        both (row_before x r && every (row_before x) rs) (every (row_before r) rs && pairs row_before rs)
        (both (row_before x r) (every (row_before x) rs) f
        (every_map (row_before r) (row_before x) (λ t k. let a = leb-true (x.start + x.length) r.start f in let b = leb-true (r.start + r.length) t.start k in le-leb (x.start + x.length) t.start (omega arith)) rs br)) h
    go false e ih = both (every (row_before r) (insert_row x rs)) (pairs row_before (insert_row x rs)) (every-insert_row (row_before r) x rs (higher_after x r sx cr (ltb-false x.start r.start e)) br) ih

-- several, each clear of all rows and of the others
pub insert_rows-kept : (xs rs : List Row) → every row_sound xs ≡ true → every (λ x. every (rows_clear x) rs) xs ≡ true → pairs (λ x y. rows_clear y x) xs ≡ true → every row_sound rs ≡ true → pairs row_before rs ≡ true → table_kept (insert_rows xs rs) ≡ true
unfolding insert_rows every pairs
insert_rows-kept [] rs sx c a s h = pairs-kept rs s h
insert_rows-kept (x ∷ xs) rs sx c a s h =
    let hx = both_left (row_sound x) (every row_sound xs) sx in
    let cx = both_left (every (rows_clear x) rs) (every (λ x. every (rows_clear x) rs) xs) c in
    insert_rows-kept xs (insert_row x rs) (both_right (row_sound x) (every row_sound xs) sx)
    (clear_all xs (both_right (every (rows_clear x) rs) (every (λ x. every (rows_clear x) rs) xs) c) (both_left (every (λ y. rows_clear y x) xs) (pairs (λ x y. rows_clear y x) xs) a))
    (both_right (every (λ y. rows_clear y x) xs) (pairs (λ x y. rows_clear y x) xs) a)
    (every-insert_row row_sound x rs hx s) (pairs-insert_row x rs hx s cx h)
  where
    clear_all : (ys : List Row) → every (λ y. every (rows_clear y) rs) ys ≡ true → every (λ y. rows_clear y x) ys ≡ true → every (λ y. every (rows_clear y) (insert_row x rs)) ys ≡ true
    clear_all ys p q =
        every_map (λ y. every (rows_clear y) rs && rows_clear y x) (λ y. every (rows_clear y) (insert_row x rs))
        (λ y e. every-insert_row (rows_clear y) x rs (both_right (every (rows_clear y) rs) (rows_clear y x) e) (both_left (every (rows_clear y) rs) (rows_clear y x) e)) ys
        (every_both (λ y. every (rows_clear y) rs) (λ y. rows_clear y x) ys p q)

-- ---- and back: what a kept table with rows inserted says of them

insert_row-every : (p : Row → Bool) (x : Row) (rs : List Row) → every p (insert_row x rs) ≡ true → (p x ≡ true) × (every p rs ≡ true)
unfolding insert_row every
insert_row-every p x [] h = (both_left (p x) true h, refl)
insert_row-every p x (r ∷ rs) h = go (ltb x.start r.start) h (insert_row-every p x rs)
  where
    go : (b : Bool) → every p (cond b (x ∷ r ∷ rs) (r ∷ insert_row x rs)) ≡ true → (every p (insert_row x rs) ≡ true → (p x ≡ true) × (every p rs ≡ true)) → (p x ≡ true) × ((p r && every p rs) ≡ true)
    go true h i = (both_left (p x) (p r && every p rs) h, both_right (p x) (p r && every p rs) h)
    go false h i =
        let j = i (both_right (p r) (every p (insert_row x rs)) h) in
        (j.0, both (p r) (every p rs) (both_left (p r) (every p (insert_row x rs)) h) j.1)

before-clear : (x r : Row) → row_before x r ≡ true → rows_clear x r ≡ true
before-clear x r h = either_left (row_before x r) (row_before r x) h

after-clear : (x r : Row) → row_before r x ≡ true → rows_clear x r ≡ true
after-clear x r h = either_right (row_before x r) (row_before r x) h

insert_row-pairs : (x : Row) (rs : List Row) → pairs row_before (insert_row x rs) ≡ true → (every (rows_clear x) rs ≡ true) × (pairs row_before rs ≡ true)
unfolding insert_row every pairs
insert_row-pairs x [] h = (refl, refl)
insert_row-pairs x (r ∷ rs) h = go (ltb x.start r.start) h (insert_row-pairs x rs)
  where
    go : (b : Bool) → pairs row_before (cond b (x ∷ r ∷ rs) (r ∷ insert_row x rs)) ≡ true → (pairs row_before (insert_row x rs) ≡ true → (every (rows_clear x) rs ≡ true) × (pairs row_before rs ≡ true))
        → ((rows_clear x r && every (rows_clear x) rs) ≡ true) × ((every (row_before r) rs && pairs row_before rs) ≡ true)
    go true h i = (
      every_map (row_before x) (rows_clear x) (before-clear x) (r ∷ rs) (both_left (every (row_before x) (r ∷ rs)) (pairs row_before (r ∷ rs)) h),
      both_right (every (row_before x) (r ∷ rs)) (pairs row_before (r ∷ rs)) h,
    )
    go false h i =
        let a = insert_row-every (row_before r) x rs (both_left (every (row_before r) (insert_row x rs)) (pairs row_before (insert_row x rs)) h) in
        let j = i (both_right (every (row_before r) (insert_row x rs)) (pairs row_before (insert_row x rs)) h) in
        (both (rows_clear x r) (every (rows_clear x) rs) (after-clear x r a.0) j.0, both (every (row_before r) rs) (pairs row_before rs) a.1 j.1)

-- rows that are sound, clear of a kept table and of each other
pub record Clearing (xs rs : List Row) : Type 0 where
  pub new : every row_sound xs ≡ true
  pub clear : every (λ x. every (rows_clear x) rs) xs ≡ true
  pub apart : pairs (λ x y. rows_clear y x) xs ≡ true
  pub kept : table_kept rs ≡ true

pub kept_inserted : (xs rs : List Row) → table_kept (insert_rows xs rs) ≡ true → Clearing xs rs
unfolding insert_rows every pairs
kept_inserted [] rs h = record { new = refl; clear = refl; apart = refl; kept = h }
kept_inserted (x ∷ xs) rs h =
    let c = kept_inserted xs (insert_row x rs) h in
    let k = kept-pairs (insert_row x rs) c.kept in
    let s = insert_row-every row_sound x rs k.0 in
    let b = insert_row-pairs x rs k.1 in
    record {
      new = both (row_sound x) (every row_sound xs) s.0 c.new;
      clear = both (every (rows_clear x) rs) (every (λ x. every (rows_clear x) rs) xs) b.0 (every_map (λ y. every (rows_clear y) (insert_row x rs)) (λ y. every (rows_clear y) rs) (λ y e. (insert_row-every (rows_clear y) x rs e).1) xs c.clear);
      apart = both (every (λ y. rows_clear y x) xs) (pairs (λ x y. rows_clear y x) xs) (every_map (λ y. every (rows_clear y) (insert_row x rs)) (λ y. rows_clear y x) (λ y e. (insert_row-every (rows_clear y) x rs e).0) xs c.clear) c.apart;
      kept = pairs-kept rs s.1 b.1;
    }

-- so the table is kept with them exactly if they are so
pub inserted_kept : (xs rs : List Row) → table_kept rs ≡ true → table_kept (insert_rows xs rs) ≡ (every row_sound xs && (every (λ x. every (rows_clear x) rs) xs && pairs (λ x y. rows_clear y x) xs))
inserted_kept xs rs k =
    let s : Bool = every row_sound xs in
    let c : Bool = every (λ x. every (rows_clear x) rs) xs in
    let a : Bool = pairs (λ x y. rows_clear y x) xs in
    same (table_kept (insert_rows xs rs)) (s && (c && a))
    (λ h. let i = kept_inserted xs rs h in both s (c && a) i.new (both c a i.clear i.apart))
    (λ h. let t = both_right s (c && a) h in insert_rows-kept xs rs (both_left s (c && a) h) (both_left c a t) (both_right c a t) (kept-pairs rs k).0 (kept-pairs rs k).1)

-- ---- the table after a plan

module _ (generation : ℕ) (p : Plan) (rs : List Row) (k : table_kept rs ≡ true) where
  abbrev new : List Row
  new = map (row_of_add generation) p.adds

  abbrev left : List Row
  left = map (moved p) (keep (λ (r : Row). not (goes p r)) rs)

  -- the rows that stay keep their starts and lengths
  left-every : (t : Row → Bool) → ((r : Row) → t r ≡ true → t (moved p r) ≡ true) → every t rs ≡ true → every t left ≡ true
  left-every t f h = every_picked t (λ (r : Row). not (goes p r)) (moved p) t (λ r u e. f r u) rs h

  -- and are a kept table
  pub left-kept : table_kept left ≡ true
  left-kept =
      pairs-kept left (left-every row_sound (λ r e. e) (kept-pairs rs k).0)
      (pairs-picked row_sound (λ (r : Row). not (goes p r)) row_before (moved p) row_before (λ r t ur ut pr pt e. e) rs (kept-pairs rs k).0 (kept-pairs rs k).1)

  pub rows-kept : every row_sound new ≡ true → every (λ x. every (rows_clear x) rs) new ≡ true → pairs (λ x y. rows_clear y x) new ≡ true → table_kept (rows_after generation p rs) ≡ true
  unfolding rows_after
  rows-kept s c a =
      insert_rows-kept new left s
      (every_map (λ x. every (rows_clear x) rs) (λ x. every (rows_clear x) left) (λ x h. left-every (rows_clear x) (λ r e. e) h) new c) a
      (kept-pairs left left-kept).0 (kept-pairs left left-kept).1
