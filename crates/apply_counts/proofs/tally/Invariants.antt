use Rattle.table.specs.Rows.{rows}
use Rattle.apply_counts.proofs.Lines.{Tallying}
use Rattle.apply_counts.proofs.tally.Given as goal

abbrev pub invariant-loop-line : goal.invariant-loop-line
invariant-loop-line l = Tallying (rows l.table.numbers.now) l.lines l.by l.initial.changes l.line-index l.found l.changes
