-- Computed examples: what the definitions answer at each bound. Assumes nothing.
use mathlib.Core.Path.{◌≡◌, refl}
use mathlib.Core.Bool.{Bool, true}
use mathlib.Core.List.{List, [], ◌∷◌, ◌++◌}
use Prim.Native.Nat.{ℕ, ◌+◌, ◌-◌, ◌*◌, ◌^◌}
use lib.Dec.{eqb}
use lib.ListN.{length}
use Rattle.std.specs.Prelude.{Some, None}
use Rattle.records.specs.Records.{chunks, records}
use Rattle.records.specs.Stages.{unless, every, neighbours}
use Rattle.table.proofs.Laws.{rows-length}
use Rattle.table.specs.Rows.{Found, row_of, rows, table_kept, find_from, find, one_more_reference}
use Rattle.table.specs.Raw.{table_sized}
use Rattle.table.specs.Windows.{window_inside}

-- a row of a table: start, length, keyed (1 reference, made by generation 7)
abbrev row : ℕ → ℕ → ℕ → List ℕ
row start length keyed = start ∷ length ∷ 1 ∷ 7 ∷ keyed ∷ []

abbrev verdict : List ℕ → ℕ
verdict t = unless (table_kept (rows t)) 3

-- a found row, as its number and its length; 999 for none
abbrev number : Found → ℕ
number (Some (k, r)) = k * 100 + r.length
number None = 999

abbrev three : List ℕ
three = row 10 5 0 ++ row 15 6 1 ++ row 30 8 0

-- what is computed, and what it should be
abbrev cases : List (ℕ × ℕ)
cases =
    (verdict [], 0)
    ∷ (verdict (row 1 1 0), 0)
    ∷ (verdict (row 0 5 0), 3)
    ∷ (verdict (row 5 0 0), 3)
    ∷ (verdict (row (2 ^ 64 - 2) 1 0), 0)
    ∷ (verdict (row (2 ^ 64 - 2) 2 0), 3)
    ∷ (verdict (row 1 5 1), 0)
    ∷ (verdict (row 1 5 2), 3)
    ∷ (verdict three, 0)
    ∷ (verdict (row 10 5 0 ++ row 15 1 0), 0)
    ∷ (verdict (row 10 6 0 ++ row 15 1 0), 3)
    ∷ (verdict (row 10 5 0 ++ row 10 5 0), 3)
    ∷ (verdict (row 15 1 0 ++ row 10 5 0), 3)
    ∷ (verdict (three ++ row 37 1 0), 3)
    ∷ (verdict (three ++ row 38 1 0), 0)
    ∷ (unless (table_sized []) 1, 0)
    ∷ (unless (table_sized (1 ∷ 2 ∷ 3 ∷ 4 ∷ [])) 1, 1)
    ∷ (unless (table_sized three) 1, 0)
    ∷ (number (find 10 (rows three)), 5)
    ∷ (number (find 15 (rows three)), 106)
    ∷ (number (find 30 (rows three)), 208)
    ∷ (number (find 9 (rows three)), 999)
    ∷ (number (find 16 (rows three)), 999)
    ∷ (number (find 31 (rows three)), 999)
    ∷ (number (find 0 (rows [])), 999)
    ∷ (one_more_reference 10 (rows three), 0)
    ∷ (one_more_reference 15 (rows three), 15)
    ∷ (one_more_reference 20 (rows three), 14)
    ∷ (unless (window_inside 10 5 10 5) 17, 0)
    ∷ (unless (window_inside 10 6 10 5) 17, 17)
    ∷ (unless (window_inside 9 5 10 5) 17, 17)
    ∷ (unless (window_inside 15 0 10 5) 17, 0)
    ∷ (unless (window_inside 16 0 10 5) 17, 17)
    ∷ (unless (window_inside (2 ^ 64 - 2) 1 10 (2 ^ 64 - 11)) 17, 0)
    ∷ (unless (window_inside (2 ^ 64 - 2) 2 10 (2 ^ 64 - 10)) 17, 17)
    ∷ (unless (window_inside 10 5 10 (2 ^ 64 - 10)) 17, 17)
    ∷ []

abbrev right : ℕ × ℕ → Bool
right c = eqb c.0 c.1

all_right : every right cases ≡ true
unfolding every neighbours records chunks row_of rows table_kept find_from
all_right = refl

-- 65,536 rows are allowed, and no more
most-rows : (t : List ℕ) → length t ≡ 65536 * 5 → unless (table_sized t) 1 ≡ 0
most-rows t h = rw (rows-length, h) refl

more_rows : (t : List ℕ) → length t ≡ 65537 * 5 → unless (table_sized t) 1 ≡ 1
more_rows t h = rw (rows-length, h) refl
