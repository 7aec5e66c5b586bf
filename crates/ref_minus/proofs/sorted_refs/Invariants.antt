use Rattle.std.proofs.Common.{[], ◌∷◌}
use Rattle.item.specs.Items.{items}
use Rattle.item.specs.Reading.{left}
use Rattle.ref_sort.proofs.Filling.{Filling}
use Rattle.ref_minus.specs.Walk.{refs_named}
use Rattle.ref_minus.proofs.sorted_refs.Given as goal

abbrev pub invariant-loop-item : goal.invariant-loop-item
invariant-loop-item l = let e = l.one ∷ l.two ∷ [] in Filling (refs_named e (items l.list)) l.n l.buf (refs_named e (left l.item-iterator))
