use Prim.Native.Nat.{◌-◌}
use Rattle.table.proofs.Halves.{Between}
use Rattle.table.proofs.Table.find_row.Given as goal

-- By halves: the rows below lo start before `start`, those from hi on after it.
abbrev pub invariant-loop-lo : goal.invariant-loop-lo
invariant-loop-lo l = Between l.table l.start l.lo l.hi

abbrev pub decreases-loop-lo : goal.decreases-loop-lo
decreases-loop-lo l = l.hi - l.lo
