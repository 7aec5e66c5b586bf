-- The extents table (document 01, "What a call is lent"): "rows of five u64, starts rising strictly: start (not 0),
-- length (not 0; their sum fits and does not pass the next row's start), references, generation made, keyed (0 or 1)".
use Rattle.std.specs.Prelude.{Bool, cond, ◌&&◌, not, List, [], ◌∷◌, ℕ, ◌+◌, ◌%◌, ◌^◌, eqb, leb, ltb, length, get_or, Some, None, Option}
use Rattle.records.specs.Records.{records}
use Rattle.records.specs.Stages.{unless, every, neighbours}
use Rattle.table.specs.declared.Row.{Row}

-- the row in the first five numbers, and the rows of a table
unfoldable pub row_of : List ℕ → Row
row_of t = record { start = get_or t 0 0; length = get_or t 1 0; references = get_or t 2 0; made = get_or t 3 0; keyed = get_or t 4 0 }

-- a row's five numbers
abbrev pub row_numbers : Row → List ℕ
row_numbers r = r.start ∷ r.length ∷ r.references ∷ r.made ∷ r.keyed ∷ []

unfoldable pub rows : List ℕ → List Row
rows t = records row_of 5 t

-- refusal 1: "a .. table of broken length": "rows of five u64"
abbrev pub whole_rows : List ℕ → Bool
whole_rows t = eqb (length t % 5) 0

-- refusal 1: "over-long": "The extents table has 0 to 65,536 rows"
abbrev pub few_rows : List Row → Bool
few_rows rs = leb (length rs) 65536

-- one row: start and length are not 0, "their sum fits", keyed is 0 or 1
abbrev pub row_sound : Row → Bool
row_sound r = not (eqb r.start 0) && not (eqb r.length 0) && ltb (r.start + r.length) (2 ^ 64) && leb r.keyed 1

-- a row's end "does not pass the next row's start": so starts rise strictly, too
abbrev pub row_before : Row → Row → Bool
row_before r s = leb (r.start + r.length) s.start

-- refusal 3: "a table not as above"
unfoldable pub table_kept : List Row → Bool
table_kept rs = every row_sound rs && neighbours row_before rs

-- what a search finds: a row with its number, or none
abbrev pub Found : Type 0
Found = Option (ℕ × Row)

-- the first row, from number k on, that starts at `start`
unfoldable pub find_from : ℕ → ℕ → List Row → Found
find_from k start [] = None
find_from k start (r ∷ rs) = cond (eqb r.start start) (Some (k, r)) (find_from (k + 1) start rs)

abbrev pub find : ℕ → List Row → Found
find start rs = find_from 0 start rs

-- What a search's answer says: "An extent without a row ends the plan with 14"; the row that was found goes on to f
abbrev pub with_row : Found → (Row → ℕ) → ℕ
with_row (Some (k, r)) f = f r
with_row None f = 14

-- one more reference to the extent at `start`: 14 without a row, "15: keyed references"
abbrev pub one_more_reference : ℕ → List Row → ℕ
one_more_reference start rs = with_row (find start rs) (λ (r : Row). unless (eqb r.keyed 0) 15)
