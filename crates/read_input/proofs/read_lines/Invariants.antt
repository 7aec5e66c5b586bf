use Rattle.std.proofs.Common.{length}
use Rattle.read_order.specs.Numbers.{numbers}
use Rattle.read_store.specs.Store.{buffers_in, Same}
use Rattle.read_input.proofs.Whole.{Onward}
use Rattle.read_input.proofs.read_lines.Given as goal

abbrev pub invariant-loop-rest : goal.invariant-loop-rest
invariant-loop-rest l = Onward l.input (buffers_in l.initial.store) l.rest (numbers l.read) (buffers_in l.store) × Same l.initial.store l.store

abbrev pub decreases-loop-rest : goal.decreases-loop-rest
decreases-loop-rest l = length l.rest
