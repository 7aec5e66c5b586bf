-- For the code only: 1 of a table in one test, a row as it is read, and the turn of `table_refusal`, a loop over
-- the rows whose state is where the row before ends.
use Rattle.std.specs.Prelude.{Bool, ◌&&◌, not, List, ℕ, ◌+◌, ◌^◌, eqb, leb, ltb, get_or}
use Rattle.records.specs.Stages.{unless}
use Rattle.table.specs.declared.Row.{Row}
use Rattle.table.specs.Rows.{rows, whole_rows, few_rows}

-- neither of broken length nor over-long
abbrev pub table_sized : List ℕ → Bool
table_sized t = whole_rows t && few_rows (rows t)

-- the row at place k of a table
abbrev pub row_at : List ℕ → ℕ → Row
row_at t k = record { start = get_or t k 0; length = get_or t (k + 1) 0; references = get_or t (k + 2) 0; made = get_or t (k + 3) 0; keyed = get_or t (k + 4) 0 }

-- a row that starts at `from` or later, and is sound but for its start
abbrev pub row_from : ℕ → Row → Bool
row_from from r = leb from r.start && not (eqb r.length 0) && ltb (r.start + r.length) (2 ^ 64) && leb r.keyed 1

-- the turn's refusal, and the state that it leaves: the row's end
abbrev pub row_refusal : ℕ → Row → ℕ
row_refusal from r = unless (row_from from r) 3

abbrev pub row_end : ℕ → Row → ℕ
row_end from r = r.start + r.length
