-- The edits where a part of a list makes way for others, and new items are put in everywhere. Assumes nothing.
use mathlib.Core.Path.{◌≡◌, ap, ◌∙◌, sym}
use mathlib.Core.Bool.{Bool, true, not}
use mathlib.Core.List.{List, ◌++◌, map}
use Prim.Native.Nat.{ℕ, ◌-◌, ◌≤◌}
use lib.Dec.{eqb}
use lib.ListN.{take, drop, take-append-drop}
use Rattle.records.specs.Stages.{every, pairs}
use Rattle.records.proofs.Tests.{every_map}
use Rattle.records.proofs.Lists.{every_parts, pairs_parts, every_take, every_drop, pairs-drop}
use Rattle.item.specs.Items.{Fields}
use Rattle.lists.specs.Lists.{rises}
use Rattle.cut_def.specs.Pieces.{built, items_of, insert_all}
use Rattle.cut_def.specs.Raw.{replaced}
use Rattle.cut_def.specs.Edits.{edits}
use Rattle.cut_def.proofs.Inserts.{place_edits, fresh, edits-placed}
use Rattle.cut_def.proofs.Mappings.{items_made}
use Rattle.edit_merge.proofs.Replaced.{items-replaced, all_rise, edits-replaced}

-- only the part that makes way and the new items need edits
pub edits-filled :
    (fs : List Fields) (from to : ℕ) (s ys : List Fields) → pairs rises fs ≡ true → from ≤ to → all_rise (take from fs) s ≡ true → all_rise s (drop to fs) ≡ true
    → pairs rises (items_of (replaced fs from to s)) ≡ true → pairs rises ys ≡ true
    → every (fresh fs) ys ≡ true → every (fresh (items_of (replaced fs from to s))) ys ≡ true
    → edits fs (insert_all ys (replaced fs from to s)) ≡ edits (take (to - from) (drop from fs)) (insert_all ys (map built s))
edits-filled fs from to s ys r l a b rp ry h k =
    let n : ℕ = to - from in
    let part : List Fields = drop from fs in
    let other : Fields → Fields → Bool = λ y f. not (eqb f.key y.key) in
    let rises-now : pairs rises (take from fs ++ (s ++ drop to fs)) ≡ true = rw (items-replaced fs from to s) at rp in
    edits-placed fs (replaced fs from to s) ys r rp ry h k
    ∙ ap (place_edits ys) (edits-replaced fs from to s r l a b)
    ∙ sym (edits-placed (take n part) (map built s) ys
    (pairs_parts rises (take n part) (drop n part) (rw (take-append-drop n part) (pairs-drop rises from fs r))).0
    (rw (items_made s) (pairs_parts rises s (drop to fs) (pairs_parts rises (take from fs) (s ++ drop to fs) rises-now).1).0)
    ry
    (every_map (fresh fs) (fresh (take n part)) (λ y e. every_take (other y) n part (every_drop (other y) from fs e)) ys h)
    (rw (items_made s)
    (every_map (fresh (items_of (replaced fs from to s))) (fresh s)
    (λ y e. (every_parts (other y) s (drop to fs) (every_parts (other y) (take from fs) (s ++ drop to fs) (rw (items-replaced fs from to s) at e)).1).0) ys k)))
