use Rattle.std.proofs.Common.{◌≡◌}
use Rattle.records.specs.Stages.{every}
use Rattle.table.specs.Rows.{rows}
use Rattle.plan_def.specs.Places.{place_sound}
use Rattle.change_places.specs.Wishes.{ahead}
use Rattle.change_places.proofs.each_refusal.Given as goal

abbrev pub invariant-loop-e : goal.invariant-loop-e
invariant-loop-e l = every (place_sound (rows l.table.numbers.now)) (ahead l.e-iterator) ≡ every (place_sound (rows l.table.numbers.now)) (ahead l.fn.all)
