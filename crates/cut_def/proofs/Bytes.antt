-- The lengths of items that are no holes. Assumes nothing.
use mathlib.Core.Path.{◌≡◌, refl}
use mathlib.Core.Bool.{Bool, true, false, cond}
use mathlib.Core.List.{List, [], ◌∷◌, ◌++◌}
use Prim.Native.Nat.{ℕ, ◌+◌, ◌^◌, ◌≤◌}
use native.Mathlib.Omega.{arith}
use lib.Dec.{ltb}
use Rattle.records.specs.Stages.{every}
use Rattle.records.proofs.Tests.{both_left, both_right}
use Rattle.item.specs.Items.{Fields, ranged, hole, end}
use Rattle.lists.proofs.Order.{item-ranged}
use Rattle.lists.proofs.Laws.{Kept, kept-tail, kept-head, ranges_apart}
use Rattle.cut_def.specs.Pieces.{Piece, built, items_of, insert, insert_all, counted_bytes}

-- of two lists
pub bytes_append : (fs gs : List Fields) → counted_bytes (fs ++ gs) ≡ counted_bytes fs + counted_bytes gs
unfolding counted_bytes
bytes_append [] gs = omega arith
bytes_append (f ∷ fs) gs = omega (arith, bytes_append fs gs)

-- with a new item
insert-bytes : (x : Fields) (ps : List Piece) → counted_bytes (items_of (insert x ps)) ≡ cond (hole x) 0 x.length + counted_bytes (items_of ps)
unfolding counted_bytes insert
insert-bytes x [] = refl
insert-bytes x (q ∷ qs) = go (ltb x.key q.item.key) (insert-bytes x qs)
  where
    go : (b : Bool) → counted_bytes (items_of (insert x qs)) ≡ cond (hole x) 0 x.length + counted_bytes (items_of qs)
        → counted_bytes (items_of (cond b (built x ∷ q ∷ qs) (q ∷ insert x qs))) ≡ cond (hole x) 0 x.length + counted_bytes (items_of (q ∷ qs))
    go true h = refl
    go false h = omega arith

pub insert_all-bytes : (xs : List Fields) (ps : List Piece) → counted_bytes (items_of (insert_all xs ps)) ≡ counted_bytes xs + counted_bytes (items_of ps)
unfolding insert_all counted_bytes
insert_all-bytes [] ps = omega arith
insert_all-bytes (x ∷ xs) ps = omega (arith, insert_all-bytes xs (insert x ps), insert-bytes x ps)

-- ---- they fit: ranges do not overlap and end at 2^63 at most

at_most : (b : Bool) (n : ℕ) → cond b 0 n ≤ n
at_most true n = omega arith
at_most false n = omega arith

-- from the first key on
pub bytes-from : (file b : ℕ) (f : Fields) (fs : List Fields) → Kept file (f ∷ fs) → every ranged (f ∷ fs) ≡ true → b ≤ f.key → b + counted_bytes (f ∷ fs) ≤ 2 ^ 63
unfolding counted_bytes every
bytes-from file b f [] k r l =
    let s = item-ranged file f (kept-head file f [] k) (both_left (ranged f) true r) in
    let m = at_most (hole f) f.length in
    omega arith
bytes-from file b f (g ∷ gs) k r l =
    let t : every ranged (g ∷ gs) ≡ true = both_right (ranged f) (every ranged (g ∷ gs)) r in
    let a : end f ≤ g.key = ranges_apart file (f ∷ g ∷ gs) k f 0 1 (omega arith) (omega arith) (both_left (ranged f) (every ranged (g ∷ gs)) r) (both_left (ranged g) (every ranged gs) t) in
    let h = bytes-from file (end f) g gs (kept-tail file f (g ∷ gs) k) t a in
    let m = at_most (hole f) f.length in
    omega arith

-- all of them
pub bytes_fit : (file : ℕ) (fs : List Fields) → Kept file fs → every ranged fs ≡ true → counted_bytes fs ≤ 2 ^ 63
bytes_fit file [] k r = unfold counted_bytes in omega arith
bytes_fit file (f ∷ fs) k r = omega (arith, bytes-from file 0 f fs k r (omega arith))
