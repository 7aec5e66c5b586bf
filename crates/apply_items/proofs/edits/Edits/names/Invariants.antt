use Rattle.std.proofs.Common.{length}
use Rattle.apply_items.specs.Passes.{Passed}
use Rattle.apply_items.proofs.edits.Edits.names.Given as goal

abbrev pub invariant-loop-line : goal.invariant-loop-line
invariant-loop-line l = Passed l.key l.initial.self l.self

abbrev pub decreases-loop-line : goal.decreases-loop-line
decreases-loop-line l = length l.self.lines.now
