use Rattle.std.proofs.Common.{◌≡◌}
use Rattle.records.specs.Stages.{every}
use Rattle.plan_def.specs.Places.{places_apart}
use Rattle.change_places.specs.Wishes.{add_of, ahead}
use Rattle.change_places.proofs.apart_refusal.Given as goal

abbrev pub invariant-loop-e : goal.invariant-loop-e
invariant-loop-e l = every (places_apart (add_of l.one)) (ahead l.e-iterator) ≡ every (places_apart (add_of l.one)) (ahead l.fn.others)
