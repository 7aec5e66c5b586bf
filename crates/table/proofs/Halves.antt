-- The search by halves finds what the search from the first row finds. Assumes nothing.
use mathlib.Core.Path.{◌≡◌, ap, ◌∙◌, sym}
use mathlib.Core.Bool.{true}
use mathlib.Core.List.{List, []}
use Prim.Native.Nat.{ℕ, ◌+◌, ◌*◌, ◌/◌, ◌<◌, ◌≤◌}
use native.Mathlib.Omega.{arith}
use native.Mathlib.Decide.{ℕ_discrete, dec_lt}
use lib.ListN.{length, get_or, drop}
use Rattle.std.specs.Prelude.{Some, None}
use Rattle.table.specs.Rows.{row_of, rows, table_kept, find}
use Rattle.table.specs.declared.Row.{Row}
use Rattle.table.proofs.Laws.{row_start, rows-length, rows_at, kept_rising, kept_found, none-missing}

-- where row j starts
abbrev pub start_at : List ℕ → ℕ → ℕ
start_at t j = get_or t (j * 5) 0

start-at : (t : List ℕ) (j : ℕ) (e : Row) → j < length t / 5 → (get_or (rows t) j e).start ≡ start_at t j
start-at t j e h = ap (λ (r : Row). r.start) (rows_at t j e h) ∙ row_start t (j * 5)

-- rows below lo start before `start`, rows from hi on after it
pub record Between (t : List ℕ) (start lo hi : ℕ) : Type 0 where
  pub top : hi ≤ length t / 5
  pub low : (j : ℕ) → j < lo → start_at t j < start
  pub high : (j : ℕ) → hi ≤ j → j < length t / 5 → start < start_at t j

-- at first nothing is known
pub between_all : (t : List ℕ) (start hi : ℕ) → hi ≡ length t / 5 → Between t start 0 hi
between_all t start hi h = record { top = omega arith; low = λ j p. omega arith; high = λ j p q. omega arith }

module _ (t : List ℕ) (start lo hi : ℕ) (k : table_kept (rows t) ≡ true) (b : Between t start lo hi) (m : ℕ) where
  rising : (i j : ℕ) → i < j → j < length t / 5 → start_at t i < start_at t j
  rising i j p q =
      let l : length (rows t) ≡ length t / 5 = rows-length t in
      rw (start-at t i (row_of []) (omega arith), start-at t j (row_of []) q) at (kept_rising (rows t) k i j (row_of []) p (omega arith))

  -- row m starts before: go on above it
  pub up : m < hi → start_at t m < start → Between t start (m + 1) hi
  up h l =
      record {
        top = b.top;
        low = λ j q. elim (ℕ_discrete j m) [ yes x ↦ rw x l | no x ↦ omega (arith, rising j m (omega arith) (omega arith)) ];
        high = b.high;
      }

  -- row m starts after: go on below it
  pub down : m < hi → start < start_at t m → Between t start lo m
  down h l =
      record {
        top = omega arith;
        low = b.low;
        high = λ j p q. elim (ℕ_discrete j m) [ yes x ↦ rw x l | no x ↦ omega (arith, rising m j (omega arith) q) ];
      }

  -- row m starts there
  pub hit : (r : Row) → m < hi → r ≡ row_of (drop (m * 5) t) → start_at t m ≡ start → Some (m, r) ≡ find start (rows t)
  hit r h e s =
      let l : length (rows t) ≡ length t / 5 = rows-length t in
      let q : m < length t / 5 = omega arith in
      let f = kept_found (rows t) k m (row_of []) (omega arith) in
      sym (rw (start-at t m (row_of []) q, s, rows_at t m (row_of []) q, ← e) at f)

  -- no rows are left
  pub miss : hi ≤ lo → None ≡ find start (rows t)
  miss h = sym (none-missing (rows t) 0 start (row_of []) (λ j p x.
      let l : length (rows t) ≡ length t / 5 = rows-length t in
      let s : start_at t j ≡ start = sym (start-at t j (row_of []) (omega arith)) ∙ x in
      elim (dec_lt j lo) [ yes a ↦ omega (arith, b.low j a) | no a ↦ omega (arith, b.high j (omega arith) (omega arith)) ]))
