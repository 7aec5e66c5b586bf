use mathlib.Core.List.{map}
use Rattle.plan_apart.specs.Spacing.{extent_of}
use Rattle.ref_sort.proofs.Filling.{Filling}
use Rattle.change_places.specs.Wishes.{ahead}
use Rattle.change_places.proofs.sorted_refusal.Given as goal

abbrev pub invariant-loop-e : goal.invariant-loop-e
invariant-loop-e l = Filling (map extent_of (ahead l.fn.all)) l.n l.buffer (map extent_of (ahead l.e-iterator))
