use Rattle.item.specs.Items.{items}
use lib.ListN.{length, take, drop}
use Prim.Native.Nat.{◌+◌, ◌-◌, ◌≤◌}
use mathlib.Core.List.{◌++◌}
use mathlib.Core.Path.{◌≡◌}
use Rattle.cut_joins.proofs.remove.Given as goal

abbrev pub invariant-loop-i : goal.invariant-loop-i
invariant-loop-i l = (l.i + 1 ≤ l.n) × (length l.seg ≡ length l.initial.seg) × (take l.i (items l.seg) ++ drop (l.i + 1) (take l.n (items l.seg)) ≡ take l.k (items l.initial.seg) ++ drop (l.k + 1) (take l.n (items l.initial.seg)))

abbrev pub decreases-loop-i : goal.decreases-loop-i
decreases-loop-i l = l.n - l.i
