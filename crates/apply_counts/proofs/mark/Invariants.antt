use Rattle.table.specs.Rows.{rows}
use Rattle.apply_counts.proofs.Lines.{Marking}
use Rattle.apply_counts.proofs.mark.Given as goal

abbrev pub invariant-loop-line : goal.invariant-loop-line
invariant-loop-line l = Marking (rows l.table.numbers.now) l.lines l.initial.gone l.line-index l.gone
