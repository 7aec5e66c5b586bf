-- The laws of the table: its rows, what a kept table says of them, the loop that keeps it, and the search. Callers cite
-- kept-.., found-.., missing-none, with-.. and window_says; the others serve the functions of this crate. Assumes nothing.
use mathlib.Core.Path.{◌≡◌, refl, ap, ◌∙◌, sym}
use mathlib.Core.Bool.{Bool, true, false, cond, ◌&&◌, not, false≢true}
use mathlib.Core.List.{List, [], ◌∷◌}
use Prim.Native.Nat.{ℕ, zero, suc, ◌+◌, ◌-◌, ◌*◌, ◌/◌, ◌^◌, ◌<◌, ◌≤◌}
use native.Mathlib.Omega.{arith}
use native.Mathlib.Nat.{add-zero, zero-add, sub-zero}
use lib.Dec.{eqb, leb, ltb}
use lib.ListN.{length, get_or, drop}
use lib.Seq.{get_or-drop}
use borrow.Author.Tests.{ltb-true, leb-true, eqb-true, eqb-false, not-true, lt-ltb, le-leb, eq-eqb, ne_eqb}
use Rattle.std.specs.Prelude.{Some, None}
use Rattle.records.specs.Records.{records}
use Rattle.records.specs.Stages.{unless, first, every, pairs, neighbours}
use Rattle.records.specs.Raw.{sieve}
use Rattle.records.proofs.Tests.{both, both_left, both_right, same, every-at, every_map, first_go, first_stop, unless-zero}
use Rattle.records.proofs.Loops.{rest, rest_all, chunks-length, chunks-at}
use Rattle.table.specs.Rows.{Found, row_of, rows, row_sound, row_before, table_kept, find_from, find, with_row}
use Rattle.table.specs.Raw.{row_at, row_from, row_refusal, row_end}
use Rattle.table.specs.Windows.{window_inside}
use Rattle.table.specs.declared.Row.{Row}

-- ---- the rows of a table

-- the row read at place k
pub row_read : (t : List ℕ) (k : ℕ) → row_at t k ≡ row_of (drop k t)
unfolding row_of
row_read t k = simp (get_or-drop, add-zero)

-- its start is the number there
pub row_start : (t : List ℕ) (k : ℕ) → (row_of (drop k t)).start ≡ get_or t k 0
unfolding row_of
row_start t k = simp (get_or-drop, add-zero)

-- a table has a row for each five numbers
pub rows-length : (t : List ℕ) → length (rows t) ≡ length t / 5
unfolding rows records
rows-length t = chunks-length row_of 5 (length t / 5) t

-- row k stands at place k * 5
pub rows_at : (t : List ℕ) (k : ℕ) (e : Row) → k < length t / 5 → get_or (rows t) k e ≡ row_of (drop (k * 5) t)
unfolding rows records
rows_at t k e h = chunks-at row_of 5 (length t / 5) t k e h

-- where a loop over the rows begins
pub rows-rest : (t : List ℕ) → rest row_of 5 t (length t / 5) 0 ≡ rows t
unfolding rows
rows-rest t = rest_all row_of 5 t

-- ---- tests, in numbers

-- four tests at once
four : (a b c d : Bool) → (a && b && c && d) ≡ true → (a ≡ true) × (b ≡ true) × (c ≡ true) × (d ≡ true)
four true true true true h = (refl, refl, refl, refl)
four true true true false h = absurd (false≢true h)
four true true false d h = absurd (false≢true h)
four true false c d h = absurd (false≢true h)
four false b c d h = absurd (false≢true h)

-- what a test that does not hold answers
is_false : (b : Bool) → (b ≡ true → ⊥) → false ≡ b
is_false true h = absurd (h refl)
is_false false h = refl

module _ (logical len start extent : ℕ) where
  -- a window inside its extent, in numbers
  pub window_says : window_inside logical len start extent ≡ true → (logical + len < 2 ^ 64) × (start + extent < 2 ^ 64) × (start ≤ logical) × (logical + len ≤ start + extent)
  window_says h =
      let p = four (ltb (logical + len) (2 ^ 64)) (ltb (start + extent) (2 ^ 64)) (leb start logical) (leb (logical + len) (start + extent)) h in
      (ltb-true _ _ p.0, ltb-true _ _ p.1, leb-true _ _ p.2, leb-true _ _ p.3)

  -- where the sums fit and the start is not before the extent's, the ends decide
  pub window_ends : logical + len < 2 ^ 64 → start + extent < 2 ^ 64 → start ≤ logical → leb (logical + len) (start + extent) ≡ window_inside logical len start extent
  window_ends p q s = rw (lt-ltb (logical + len) (2 ^ 64) p, lt-ltb (start + extent) (2 ^ 64) q, le-leb start logical s) refl

  -- a window for which one of the four fails is outside
  pub window_outside : ((logical + len < 2 ^ 64) × (start + extent < 2 ^ 64) × (start ≤ logical) × (logical + len ≤ start + extent) → ⊥) → false ≡ window_inside logical len start extent
  window_outside h = is_false (window_inside logical len start extent) (λ t. h (window_says t))

-- ---- what a kept table says

-- a row's tests: a, and those that `row_sound` and `row_from` share
abbrev tests : Bool → Row → Bool
tests a r = a && not (eqb r.length 0) && ltb (r.start + r.length) (2 ^ 64) && leb r.keyed 1

-- each of them
parts : (a : Bool) (r : Row) → tests a r ≡ true → (a ≡ true) × (not (eqb r.length 0) ≡ true) × (ltb (r.start + r.length) (2 ^ 64) ≡ true) × (leb r.keyed 1 ≡ true)
parts a r h = four a (not (eqb r.length 0)) (ltb (r.start + r.length) (2 ^ 64)) (leb r.keyed 1) h

-- with another first test
other : (a b : Bool) (r : Row) → tests a r ≡ true → b ≡ true → tests b r ≡ true
other a b r h p = rw (p, (parts a r h).1, (parts a r h).2, (parts a r h).3) refl

-- not 0, as a test and as an order
some-true : (a : ℕ) → not (eqb a 0) ≡ true → 0 < a
some-true a h = let n = eqb-false a 0 (not-true (eqb a 0) h) in omega arith

true-some : (a : ℕ) → 0 < a → not (eqb a 0) ≡ true
true-some a h = rw (ne_eqb a 0 (λ z. omega arith)) refl

-- the two halves of `table_kept`
kept-every : (rs : List Row) → table_kept rs ≡ true → every row_sound rs ≡ true
unfolding table_kept
kept-every rs h = both_left (every row_sound rs) (neighbours row_before rs) h

kept-neighbours : (rs : List Row) → table_kept rs ≡ true → neighbours row_before rs ≡ true
unfolding table_kept
kept-neighbours rs h = both_right (every row_sound rs) (neighbours row_before rs) h

-- a kept table without its first row is kept
pub kept-tail : (r : Row) (rs : List Row) → table_kept (r ∷ rs) ≡ true → table_kept rs ≡ true
unfolding table_kept every neighbours
kept-tail r [] h = refl
kept-tail r (s ∷ rs) h =
    both (every row_sound (s ∷ rs)) (neighbours row_before (s ∷ rs))
    (both_right (row_sound r) (every row_sound (s ∷ rs)) (kept-every (r ∷ s ∷ rs) h))
    (both_right (row_before r s) (neighbours row_before (s ∷ rs)) (kept-neighbours (r ∷ s ∷ rs) h))

module _ (rs : List Row) (h : table_kept rs ≡ true) (i : ℕ) (e : Row) (l : i < length rs) where
  -- row i passes each test
  sound : (not (eqb (get_or rs i e).start 0) ≡ true) × (not (eqb (get_or rs i e).length 0) ≡ true) × (ltb ((get_or rs i e).start + (get_or rs i e).length) (2 ^ 64) ≡ true) × (leb (get_or rs i e).keyed 1 ≡ true)
  sound = parts _ (get_or rs i e) (every-at row_sound rs (kept-every rs h) i e l)

  -- its start is not 0
  pub kept-start : 0 < (get_or rs i e).start
  kept-start = some-true _ sound.0

  -- its length is not 0
  pub kept-length : 0 < (get_or rs i e).length
  kept-length = some-true _ sound.1

  -- its end fits 64 bits
  pub kept_sum : (get_or rs i e).start + (get_or rs i e).length < 2 ^ 64
  kept_sum = ltb-true _ _ sound.2

  -- it is keyed by 0 or 1
  pub kept_keyed : (get_or rs i e).keyed ≤ 1
  kept_keyed = leb-true _ _ sound.3

-- a test of neighbours, as an order
before : (r s : Row) (b : Bool) → (row_before r s && b) ≡ true → r.start + r.length ≤ s.start
before r s b h = leb-true (r.start + r.length) s.start (both_left (row_before r s) b h)

-- rows are apart if neighbours are
apart : (rs : List Row) → neighbours row_before rs ≡ true → (i j : ℕ) (e : Row) → i < j → j < length rs → (get_or rs i e).start + (get_or rs i e).length ≤ (get_or rs j e).start
unfolding neighbours
apart [] h i j e l m = absurd (omega arith)
apart (r ∷ []) h i j e l m = absurd (omega arith)
apart (r ∷ (s ∷ rs)) h i zero e l m = absurd (omega arith)
apart (r ∷ (s ∷ rs)) h zero (suc zero) e l m = before r s (neighbours row_before (s ∷ rs)) h
apart (r ∷ (s ∷ rs)) h zero (suc (suc j)) e l m =
    let a : r.start + r.length ≤ s.start = before r s (neighbours row_before (s ∷ rs)) h in
    let b : s.start + s.length ≤ (get_or rs j e).start = apart (s ∷ rs) (both_right (row_before r s) (neighbours row_before (s ∷ rs)) h) zero (suc j) e (omega arith) (omega arith) in
    omega arith
apart (r ∷ (s ∷ rs)) h (suc i) (suc j) e l m = apart (s ∷ rs) (both_right (row_before r s) (neighbours row_before (s ∷ rs)) h) i j e (omega arith) (omega arith)

module _ (rs : List Row) (h : table_kept rs ≡ true) (i j : ℕ) (e : Row) (l : i < j) (m : j < length rs) where
  -- an earlier row ends before a later one starts
  pub kept-apart : (get_or rs i e).start + (get_or rs i e).length ≤ (get_or rs j e).start
  kept-apart = apart rs (kept-neighbours rs h) i j e l m

  -- so starts rise strictly
  pub kept_rising : (get_or rs i e).start < (get_or rs j e).start
  kept_rising = omega (arith, kept-apart, kept-length rs h i e (omega arith))

-- ---- the loop of `table_refusal`

-- the first row starts at `from` or later
abbrev starts_from : ℕ → List Row → Bool
starts_from from [] = true
starts_from from (r ∷ rs) = leb from r.start

-- a table with one more row in front, and the way back
kept_cons : (r : Row) (rs : List Row) → row_sound r ≡ true → starts_from (r.start + r.length) rs ≡ true → table_kept rs ≡ true → table_kept (r ∷ rs) ≡ true
unfolding table_kept every neighbours
kept_cons r [] p q h = rw p refl
kept_cons r (s ∷ rs) p q h =
    both (every row_sound (r ∷ s ∷ rs)) (neighbours row_before (r ∷ s ∷ rs))
    (both (row_sound r) (every row_sound (s ∷ rs)) p (kept-every (s ∷ rs) h))
    (both (row_before r s) (neighbours row_before (s ∷ rs)) q (kept-neighbours (s ∷ rs) h))

kept-head : (r : Row) (rs : List Row) → table_kept (r ∷ rs) ≡ true → (row_sound r ≡ true) × (starts_from (r.start + r.length) rs ≡ true)
unfolding every neighbours
kept-head r [] h = (both_left (row_sound r) true (kept-every (r ∷ []) h), refl)
kept-head r (s ∷ rs) h = (
  both_left (row_sound r) (every row_sound (s ∷ rs)) (kept-every (r ∷ s ∷ rs) h),
  both_left (row_before r s) (neighbours row_before (s ∷ rs)) (kept-neighbours (r ∷ s ∷ rs) h),
)

-- a turn is right: the row against the state, and the rows behind it from its end on
module _ (from : ℕ) (r : Row) (rs : List Row) (pos : 0 < from) where
  abbrev behind : Bool
  behind = starts_from (r.start + r.length) rs && table_kept rs

  turn_in : (row_from from r && behind) ≡ true → (leb from r.start && table_kept (r ∷ rs)) ≡ true
  turn_in h =
      let f = both_left (row_from from r) behind h in
      let b = both_right (row_from from r) behind h in
      let p = (parts (leb from r.start) r f).0 in
      let l : from ≤ r.start = leb-true from r.start p in
      both (leb from r.start) (table_kept (r ∷ rs)) p
      (kept_cons r rs
      (other (leb from r.start) (not (eqb r.start 0)) r f (true-some r.start (omega arith)))
      (both_left (starts_from (r.start + r.length) rs) (table_kept rs) b)
      (both_right (starts_from (r.start + r.length) rs) (table_kept rs) b))

  turn_out : (leb from r.start && table_kept (r ∷ rs)) ≡ true → (row_from from r && behind) ≡ true
  turn_out h =
      let l = both_left (leb from r.start) (table_kept (r ∷ rs)) h in
      let k = both_right (leb from r.start) (table_kept (r ∷ rs)) h in
      both (row_from from r) behind
      (other (not (eqb r.start 0)) (leb from r.start) r (kept-head r rs k).0 l)
      (both (starts_from (r.start + r.length) rs) (table_kept rs) (kept-head r rs k).1 (kept-tail r rs k))

  turn : (row_from from r && behind) ≡ (leb from r.start && table_kept (r ∷ rs))
  turn = same (row_from from r && behind) (leb from r.start && table_kept (r ∷ rs)) turn_in turn_out

module _ (from : ℕ) (r : Row) where
  -- a row that is not refused, in numbers
  row_says : row_from from r ≡ true → (from ≤ r.start) × (0 < r.length) × (r.start + r.length < 2 ^ 64) × (r.keyed ≤ 1)
  row_says h =
      let p = parts (leb from r.start) r h in
      (leb-true from r.start p.0, some-true r.length p.1, ltb-true (r.start + r.length) (2 ^ 64) p.2, leb-true r.keyed 1 p.3)

  -- the next state does not leave 64 bits
  pub row_fits : row_refusal from r ≡ 0 → r.start + r.length < 2 ^ 64
  row_fits h = (row_says (unless-zero (row_from from r) 3 h (λ z. omega arith))).2

-- row by row from `from` on
sieve-from : (from : ℕ) (rs : List Row) → 0 < from → sieve row_refusal row_end from rs ≡ unless (starts_from from rs && table_kept rs) 3
unfolding sieve table_kept every neighbours
sieve-from from [] pos = refl
sieve-from from (r ∷ rs) pos = go (row_from from r) refl (sieve-from (r.start + r.length) rs) ∙ ap (λ (b : Bool). unless b 3) (turn from r rs pos)
  where
    go : (b : Bool) → row_from from r ≡ b → (0 < r.start + r.length → sieve row_refusal row_end (r.start + r.length) rs ≡ unless (behind from r rs pos) 3)
        → first (unless b 3) (sieve row_refusal row_end (r.start + r.length) rs) ≡ unless (b && behind from r rs pos) 3
    go true e rec = first_go 0 _ refl ∙ rec (omega (arith, (row_says from r e).0))
    go false e rec = sym (first_stop 3 _ (λ z. omega arith))

-- from 1 on: every kept table is
starts-one : (rs : List Row) → table_kept rs ≡ true → starts_from 1 rs ≡ true
starts-one [] h = refl
starts-one (r ∷ rs) h = le-leb 1 r.start (omega (arith, kept-start (r ∷ rs) h 0 r (omega arith)))

one_kept : (rs : List Row) → (starts_from 1 rs && table_kept rs) ≡ table_kept rs
one_kept rs =
    same (starts_from 1 rs && table_kept rs) (table_kept rs)
    (both_right (starts_from 1 rs) (table_kept rs))
    (λ h. both (starts_from 1 rs) (table_kept rs) (starts-one rs h) h)

-- row by row from 1 on: whether the table is kept
pub sieve-kept : (rs : List Row) → sieve row_refusal row_end 1 rs ≡ unless (table_kept rs) 3
sieve-kept rs = sieve-from 1 rs (omega arith) ∙ ap (λ (b : Bool). unless b 3) (one_kept rs)

-- ---- the search

-- what is found from number k on is a row of the list, and starts there
find-from : (rs : List Row) (k start i : ℕ) (r e : Row) → find_from k start rs ≡ Some (i, r) → (k ≤ i) × (i < k + length rs) × (r ≡ get_or rs (i - k) e) × (r.start ≡ start)
unfolding find_from
find-from [] k start i r e h = let z : ◌≡◌ {A = ℕ} 0 1 = cc in absurd (omega arith)
find-from (q ∷ rs) k start i r e h = go (eqb q.start start) refl h (find-from rs (k + 1) start i r e)
  where
    go : (b : Bool) → eqb q.start start ≡ b → cond b (Some (k, q)) (find_from (k + 1) start rs) ≡ Some (i, r)
        → (find_from (k + 1) start rs ≡ Some (i, r) → (k + 1 ≤ i) × (i < k + 1 + length rs) × (r ≡ get_or rs (i - (k + 1)) e) × (r.start ≡ start))
        → (k ≤ i) × (i < k + suc (length rs)) × (r ≡ get_or (q ∷ rs) (i - k) e) × (r.start ≡ start)
    go true t x rec =
        let p : ◌≡◌ {A = ℕ × Row} (k, q) (i, r) = cc in
        let y : k ≡ i = ap (λ (o : ℕ × Row). o.0) p in
        let z : q ≡ r = ap (λ (o : ℕ × Row). o.1) p in
        let d : i - k ≡ 0 = omega arith in
        (omega arith, omega arith, rw (d, z) refl, rw (← z) (eqb-true q.start start t))
    go false t x rec =
        let y = rec x in
        let d : i - k ≡ suc (i - (k + 1)) = omega arith in
        (omega arith, omega arith, rw d y.2, y.3)

module _ (rs : List Row) (start k : ℕ) (r : Row) (h : find start rs ≡ Some (k, r)) where
  -- the number that a search finds is a row's
  pub found_below : k < length rs
  found_below = omega (arith, (find-from rs 0 start k r r h).1)

  -- it finds that row
  pub found_row : (e : Row) → r ≡ get_or rs k e
  found_row e = (find-from rs 0 start k r e h).2 ∙ rw sub-zero refl

  -- which starts where it should
  pub found_start : r.start ≡ start
  found_start = (find-from rs 0 start k r r h).3

-- where none is found from number k on, no row starts there
missing-from : (rs : List Row) (k start : ℕ) → find_from k start rs ≡ None → (i : ℕ) (e : Row) → i < length rs → (get_or rs i e).start ≡ start → ⊥
unfolding find_from
missing-from [] k start h i e l x = omega arith
missing-from (r ∷ rs) k start h i e l x = go (eqb r.start start) refl h (missing-from rs (k + 1) start) i l x
  where
    go : (b : Bool) → eqb r.start start ≡ b → cond b (Some (k, r)) (find_from (k + 1) start rs) ≡ None
        → (find_from (k + 1) start rs ≡ None → (i : ℕ) (e : Row) → i < length rs → (get_or rs i e).start ≡ start → ⊥)
        → (i : ℕ) → i < suc (length rs) → (get_or (r ∷ rs) i e).start ≡ start → ⊥
    go true t y rec i l x = let z : ◌≡◌ {A = ℕ} 0 1 = cc in omega arith
    go false t y rec zero l x = eqb-false r.start start t x
    go false t y rec (suc i) l x = rec y i e (omega arith) x

-- where none is found, no row starts there
pub missing-none : (rs : List Row) (start : ℕ) → find start rs ≡ None → (i : ℕ) (e : Row) → i < length rs → (get_or rs i e).start ≡ start → ⊥
missing-none rs start h = missing-from rs 0 start h

-- no row starts there: none is found
pub none-missing : (rs : List Row) (k start : ℕ) (e : Row) → ((i : ℕ) → i < length rs → (get_or rs i e).start ≡ start → ⊥) → find_from k start rs ≡ None
unfolding find_from
none-missing [] k start e h = refl
none-missing (r ∷ rs) k start e h = rw (ne_eqb r.start start (h 0 (omega arith))) (none-missing rs (k + 1) start e (λ i l. h (suc i) (omega arith)))

-- the first row that starts there is the one that is found
pub first_found : (rs : List Row) (k start i : ℕ) (e : Row) → i < length rs → (get_or rs i e).start ≡ start → ((j : ℕ) → j < i → (get_or rs j e).start ≡ start → ⊥) → find_from k start rs ≡ Some (k + i, get_or rs i e)
unfolding find_from
first_found [] k start i e l x h = absurd (omega arith)
first_found (r ∷ rs) k start zero e l x h = rw (eq-eqb r.start start x, add-zero) refl
first_found (r ∷ rs) k start (suc i) e l x h =
    let d : k + suc i ≡ k + 1 + i = omega arith in
    rw (ne_eqb r.start start (h 0 (omega arith)), d) (first_found rs (k + 1) start i e (omega arith) x (λ j m. h (suc j) (omega arith)))

-- a kept table's row is found by its start
pub kept_found : (rs : List Row) → table_kept rs ≡ true → (i : ℕ) (e : Row) → i < length rs → find (get_or rs i e).start rs ≡ Some (i, get_or rs i e)
kept_found rs h i e l = first_found rs 0 (get_or rs i e).start i e l refl (λ j m x. omega (arith, kept_rising rs h j i e m l)) ∙ rw zero-add refl

-- ---- what goes on from a search

-- the row that was found goes on to f
pub with_row_lem : (start : ℕ) (rs : List Row) (k : ℕ) (r : Row) (f : Row → ℕ) → Some (k, r) ≡ find start rs → f r ≡ with_row (find start rs) f
with_row_lem start rs k r f h = ap (λ (o : Found). with_row o f) h

-- without one it is refusal 14
pub with_none : (start : ℕ) (rs : List Row) (f : Row → ℕ) → None ≡ find start rs → 14 ≡ with_row (find start rs) f
with_none start rs f h = ap (λ (o : Found). with_row o f) h

-- ---- a kept table by every two rows

-- what starts at or past s, after r, comes after r
pass_on : (r s : Row) (rs : List Row) → row_before r s ≡ true → every (row_before s) rs ≡ true → every (row_before r) rs ≡ true
pass_on r s rs h k =
    every_map (row_before s) (row_before r)
    (λ t e.
    let a = leb-true (r.start + r.length) s.start h in
    let b = leb-true (s.start + s.length) t.start e in
    le-leb (r.start + r.length) t.start (omega arith)) rs k

neighbours-pairs : (rs : List Row) → neighbours row_before rs ≡ true → pairs row_before rs ≡ true
unfolding neighbours pairs every
neighbours-pairs [] h = refl
neighbours-pairs (r ∷ []) h = refl
neighbours-pairs (r ∷ (s ∷ rs)) h =
    let b = both_left (row_before r s) (neighbours row_before (s ∷ rs)) h in
    let ih = neighbours-pairs (s ∷ rs) (both_right (row_before r s) (neighbours row_before (s ∷ rs)) h) in
    both (row_before r s && every (row_before r) rs) (every (row_before s) rs && pairs row_before rs)
    (both (row_before r s) (every (row_before r) rs) b (pass_on r s rs b (both_left (every (row_before s) rs) (pairs row_before rs) ih)))
    ih

pairs-neighbours : (rs : List Row) → pairs row_before rs ≡ true → neighbours row_before rs ≡ true
unfolding neighbours pairs every
pairs-neighbours [] h = refl
pairs-neighbours (r ∷ []) h = refl
pairs-neighbours (r ∷ (s ∷ rs)) h =
    both (row_before r s) (neighbours row_before (s ∷ rs))
    (both_left (row_before r s) (every (row_before r) rs) (both_left (row_before r s && every (row_before r) rs) (every (row_before s) rs && pairs row_before rs) h))
    (pairs-neighbours (s ∷ rs) (both_right (row_before r s && every (row_before r) rs) (every (row_before s) rs && pairs row_before rs) h))

pub kept-pairs : (rs : List Row) → table_kept rs ≡ true → (every row_sound rs ≡ true) × (pairs row_before rs ≡ true)
kept-pairs rs h = (kept-every rs h, neighbours-pairs rs (kept-neighbours rs h))

pub pairs-kept : (rs : List Row) → every row_sound rs ≡ true → pairs row_before rs ≡ true → table_kept rs ≡ true
unfolding table_kept
pairs-kept rs s h = both (every row_sound rs) (neighbours row_before rs) s (pairs-neighbours rs h)
