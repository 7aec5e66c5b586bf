use Rattle.item.specs.Items.{fields, items}
use lib.ListN.{length, take, drop}
use Prim.Native.Nat.{◌-◌, ◌≤◌}
use mathlib.Core.List.{◌∷◌, ◌++◌}
use mathlib.Core.Path.{◌≡◌}
use Rattle.cut_segment.proofs.slide.Given as goal

abbrev pub invariant-loop-i : goal.invariant-loop-i
invariant-loop-i l = (l.i ≤ l.n) × (length l.seg ≡ length l.initial.seg) × (take l.i (items l.seg) ++ fields l.carried ∷ drop l.i (take l.n (items l.seg)) ≡ take l.k (items l.initial.seg) ++ fields l.initial.carried ∷ drop l.k (take l.n (items l.initial.seg)))

abbrev pub decreases-loop-i : goal.decreases-loop-i
decreases-loop-i l = l.n - l.i
