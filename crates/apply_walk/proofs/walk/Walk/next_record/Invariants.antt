use Rattle.std.proofs.Common.{◌+◌, ◌-◌, ◌/◌, length}
use Rattle.apply_walk.proofs.Steps.{Passing}
use Rattle.apply_walk.proofs.walk.Walk.next_record.Given as goal

abbrev pub invariant-loop-self : goal.invariant-loop-self
invariant-loop-self l = Passing l.initial.self l.self

abbrev pub decreases-loop-self : goal.decreases-loop-self
decreases-loop-self l = let d = l.initial.self.edited in length d.list.now / 70 + length d.edits.now / 71 - (l.self.i + l.self.j)
