use mathlib.Core.List.{map}
use Rattle.plan_def.specs.Outputs.{add_numbers}
use Rattle.plan_def.specs.Places.{placed}
use Rattle.plan_lines.proofs.Laws.{Going}
use Rattle.change_holes.specs.Walk.{wishes_of}
use Rattle.change_places.specs.Wishes.{wanted_of, ahead}
use Rattle.change_places.proofs.put_adds.Given as goal

abbrev pub invariant-loop-e : goal.invariant-loop-e
invariant-loop-e l = Going add_numbers 3 0 (placed l.fn.places (map wanted_of (wishes_of l.fn.w))) l.initial.out l.m (ahead l.e-iterator) l.out
