use Rattle.std.proofs.Common.{◌≡◌}
use Rattle.records.specs.Stages.{unless}
use Rattle.records.specs.Raw.{sieve}
use Rattle.table.specs.Rows.{rows, table_kept}
use Rattle.table.specs.Raw.{row_refusal, row_end}
use Rattle.table.specs.Reading.{left}
use Rattle.table.proofs.table_refusal.Given as goal

-- The loop is a sieve over the rows that are left, with the end of the row before as its state.
abbrev pub invariant-loop-row : goal.invariant-loop-row
invariant-loop-row l = sieve row_refusal row_end l.from (left l.row-iterator) ≡ unless (table_kept (rows l.table)) 3
