use Rattle.std.proofs.Common.{◌≡◌, map, length}
use Rattle.records.specs.Stages.{pairs}
use Rattle.plan_def.specs.ReadBack.{add_in}
use Rattle.apply_clear.specs.Clear.{adds_apart}
use Rattle.apply_clear.proofs.plain_apart.Given as goal

abbrev pub invariant-loop-add : goal.invariant-loop-add
invariant-loop-add l = pairs adds_apart (map add_in l.left) ≡ pairs adds_apart (map add_in l.adds)

abbrev pub decreases-loop-add : goal.decreases-loop-add
decreases-loop-add l = length l.left
