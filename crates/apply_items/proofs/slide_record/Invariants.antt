use Rattle.std.proofs.Common.{◌≡◌, ◌≤◌, ◌∷◌, [], ◌++◌, List, length, ℕ}
use Rattle.item.specs.Items.{Fields, fields}
use Rattle.cut_def.specs.Edits.{Edit, put}
use Rattle.apply_items.specs.Passes.{puts_in, Filling}
use Rattle.apply_items.proofs.slide_record.Given as goal

abbrev pub invariant-loop-i : goal.invariant-loop-i
invariant-loop-i l =
    (l.i ≤ l.n)
    × ((whole : List Fields) (left : List Edit) (before : List ℕ) (olds : List Fields) → length (puts_in left) ≡ l.skip
    → Filling whole (left ++ put (fields l.item) ∷ []) before olds l.n l.initial.list → Filling whole (left ++ put (fields l.item) ∷ []) before olds l.i l.list)

abbrev pub decreases-loop-i : goal.decreases-loop-i
decreases-loop-i l = l.i
