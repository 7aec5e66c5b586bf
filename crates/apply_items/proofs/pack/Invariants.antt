use Rattle.apply_items.specs.Passes.{edits_of, Packing}
use Rattle.apply_items.proofs.pack.Given as goal

abbrev pub invariant-loop-i : goal.invariant-loop-i
invariant-loop-i l = Packing (edits_of l.fn.edits) (edits_of l.left) l.initial.list l.n l.i l.w l.list
