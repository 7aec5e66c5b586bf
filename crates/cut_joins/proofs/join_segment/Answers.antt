use Rattle.cut_joins.proofs.Joining.{around-told, last_told}
use mathlib.Core.Path.{refl, ◌∙◌}
use native.Mathlib.Omega.{arith}
use native.Mathlib.Nat.{zero-add}
use Rattle.cut_joins.proofs.join_segment.Goals as goal

pub overflow_sub-k : goal.overflow_sub-k
overflow_sub-k c = let p = c.requires in omega (arith, (last_told _ _ _ _ _ p.0 p.2 p.3 (c.starting_by-k.ensures ∙ zero-add _)).0)

pub join_behind-t-requires : goal.join_behind-t-requires
join_behind-t-requires c =
    let p = c.requires in
    let t = last_told _ _ _ _ _ p.0 p.2 p.3 (c.starting_by-k.ensures ∙ zero-add _) in
    (p.0, omega arith)

pub returns : goal.returns
returns c =
    let p = c.requires in
    around-told _ _ _ _ _ p.0 p.2 p.3 (c.starting_by-k.ensures ∙ zero-add _) p.1 _ refl _ _ _ _ _ c.join_behind-t.ensures c.join_before.ensures
