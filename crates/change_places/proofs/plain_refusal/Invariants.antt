use Rattle.std.proofs.Common.{◌≡◌, length}
use Rattle.records.specs.Stages.{pairs}
use Rattle.plan_def.specs.Places.{places_apart}
use Rattle.change_places.specs.Wishes.{ahead}
use Rattle.change_places.proofs.plain_refusal.Given as goal

abbrev pub invariant-loop-e : goal.invariant-loop-e
invariant-loop-e l = pairs places_apart (ahead l.rest) ≡ pairs places_apart (ahead l.fn.all)

abbrev pub decreases-loop-e : goal.decreases-loop-e
decreases-loop-e l = length (ahead l.rest)
