use Rattle.std.proofs.Common.{◌≡◌, length, true}
use mathlib.Core.List.{map}
use Rattle.records.specs.Stages.{every}
use Rattle.drop_chains.specs.Chains.{byte, unshared}
use Rattle.drop_chains.proofs.is_freed.Given as goal

abbrev pub invariant-loop-byte : goal.invariant-loop-byte
invariant-loop-byte g l =
    (goal.iterator-loop-byte g).can_next l.byte-iterator
    × (goal.iterator-loop-byte g).is_finite l.byte-iterator
    × (l.drops ≡ length l.yielded)
    × (every unshared (map byte l.yielded) ≡ true)
