-- Two items of a segment joined: record k of n with the next one. Assumes nothing.
use mathlib.Core.Path.{◌≡◌, refl, ap, ◌∙◌, sym}
use mathlib.Core.Bool.{Bool, true, false, cond, ◌&&◌}
use mathlib.Core.List.{List, [], ◌∷◌, ◌++◌, map}
use Prim.Native.Nat.{ℕ, zero, suc, ◌+◌, ◌-◌, ◌^◌, ◌≤◌, ◌<◌}
use native.Mathlib.Omega.{arith}
use native.Mathlib.Numerals.{add-one}
use lib.ListN.{length, get_or, take, drop, set}
use lib.Seq.{take_at, drop_at, take-take, get_or-take, length-take-le, split_at, append_snoc}
use borrow.Author.Tests.{leb-true, le-leb}
use Rattle.records.specs.Stages.{every}
use Rattle.records.proofs.Tests.{both, both_left, both_right, every-at}
use Rattle.records.proofs.Lists.{every_append, every_take, every_drop}
use Rattle.item.specs.Items.{Fields, items, end, joined}
use Rattle.cut_def.specs.Pieces.{Piece, built}
use Rattle.cut_def.specs.Joins.{joinable, join_next}
use Rattle.cut_def.proofs.Mappings.{joint}
use Rattle.cut_segment.specs.Segments.{nothing, item_at, bounded}
use Rattle.cut_joins.specs.Joins.{join_items, Within}
use Rattle.cut_segment.proofs.Inserting.{took, left, drop-next}

-- ---- parts of a list

pub every_one : (p : Fields → Bool) (f : Fields) → p f ≡ true → every p (f ∷ []) ≡ true
unfolding every
every_one p f h = both (p f) true h refl

pub split-take : (l : List Fields) (n k : ℕ) → k < n → n ≤ length l → take n l ≡ take k l ++ get_or l k nothing ∷ drop (k + 1) (take n l)
split-take l n k h m =
    split_at (take n l) k nothing (omega (arith, length-take-le n l m))
    ∙ rw (take-take k n l (omega arith), get_or-take n l k nothing h, ← add-one k) refl

-- ---- two items joined

-- the joined item ends where the second did, so its length fits
pub joined-ends : (f g : Fields) (n : ℕ) → joinable f g ≡ true → bounded g ≡ true → bounded (joined f g n) ≡ true
joined-ends f g n j b =
    let t = (joint f g j).touch in
    let e = leb-true (end g) (2 ^ 63) b in
    le-leb (end (joined f g n)) (2 ^ 63) (omega arith)

pub bounded_of : (l : List Fields) (i : ℕ) (f : Fields) → every bounded l ≡ true → i < length l → f ≡ get_or l i nothing → bounded f ≡ true
bounded_of l i f h k e = rw e (every-at bounded l h i nothing k)

pub bounded_at : (l : List Fields) (n i : ℕ) (f : Fields) → every bounded (take n l) ≡ true → i < n → n ≤ length l → f ≡ get_or l i nothing → bounded f ≡ true
bounded_at l n i f h k m e = bounded_of (take n l) i f h (omega (arith, length-take-le n l m)) (e ∙ sym (get_or-take n l i nothing k))

-- a joined record's items, as pieces
pub join_made : (n : ℕ) (f g : Fields) (fs : List Fields) (ps : List Piece) → map built (join_items n f (g ∷ fs)) ++ ps ≡ join_next n (built f) (map built (g ∷ fs) ++ ps)
join_made n f g fs ps = go (joinable f g)
  where
    go : (t : Bool) → map built (cond t (joined f g n ∷ fs) (f ∷ g ∷ fs)) ++ ps ≡ cond t (built (joined f g n) ∷ (map built fs ++ ps)) (built f ∷ built g ∷ (map built fs ++ ps))
    go true = refl
    go false = refl

join_small : (n : ℕ) (f g : Fields) (fs : List Fields) → every bounded (f ∷ g ∷ fs) ≡ true → every bounded (join_items n f (g ∷ fs)) ≡ true
unfolding every
join_small n f g fs h = go (joinable f g) refl
  where
    k : (bounded g && every bounded fs) ≡ true
    k = both_right (bounded f) (bounded g && every bounded fs) h

    go : (t : Bool) → joinable f g ≡ t → every bounded (cond t (joined f g n ∷ fs) (f ∷ g ∷ fs)) ≡ true
    go true e = both (bounded (joined f g n)) (every bounded fs) (joined-ends f g n e (both_left (bounded g) (every bounded fs) k)) (both_right (bounded g) (every bounded fs) k)
    go false e = h

join_key : (n : ℕ) (f g : Fields) (fs : List Fields) → (get_or (join_items n f (g ∷ fs)) 0 nothing).key ≡ f.key
join_key n f g fs = go (joinable f g)
  where
    go : (t : Bool) → (get_or (cond t (joined f g n ∷ fs) (f ∷ g ∷ fs)) 0 nothing).key ≡ f.key
    go true = refl
    go false = refl

-- ---- record k of n joined with the next one

module _ (g k n : ℕ) (seg : List ℕ) (h : k + 1 < n) (m : n ≤ length (items seg)) where
  pub second : drop (k + 1) (take n (items seg)) ≡ item_at seg (k + 1) ∷ drop (k + 1 + 1) (take n (items seg))
  second = drop-next (items seg) n (k + 1) h m

  -- from what the calls give
  module _ (x y : Fields) (hx : x ≡ item_at seg k) (hy : y ≡ item_at seg (k + 1)) where
    pub within-not : joinable x y ≡ false → Within g k n seg n seg
    within-not e =
        let z : joinable (item_at seg k) (item_at seg (k + 1)) ≡ false = rw hy at (rw hx at e) in
        record {
          those = split-take (items seg) n k (omega arith) m ∙ ap (λ (l : List Fields). take k (items seg) ++ l) (rw second (rw z refl));
          some = omega arith;
          most = omega arith;
        }

    pub within-yes :
        (l' : List Fields) (seg'' : List ℕ) → joinable x y ≡ true → l' ≡ set (items seg) k (joined x y g)
        → take (n - 1) (items seg'') ≡ take (k + 1) l' ++ drop (k + 1 + 1) (take n l')
        → Within g k n seg (n - 1) seg''
    within-yes l' seg'' e p q =
        let z : joinable (item_at seg k) (item_at seg (k + 1)) ≡ true = rw hy at (rw hx at e) in
        let p' : l' ≡ set (items seg) k (joined (item_at seg k) (item_at seg (k + 1)) g) = rw hy at (rw hx at p) in
        record {
          those =
              q
              ∙ rw (took (items seg) l' n k _ (omega arith) m p', left (items seg) l' n k _ (omega arith) m p' (k + 1 + 1) (omega arith))
              (append_snoc (take k (items seg)) _ _ ∙ ap (λ (l : List Fields). take k (items seg) ++ l) (rw second (rw z refl)));
          some = omega arith;
          most = omega arith;
        }

  -- what follows
  module _ (j : ℕ) (seg' : List ℕ) (w : Within g k n seg j seg') where
    pub within-those : take j (items seg') ≡ take k (items seg) ++ join_items g (item_at seg k) (item_at seg (k + 1) ∷ drop (k + 1 + 1) (take n (items seg)))
    within-those = w.those ∙ rw second refl

    length_before : length (take k (items seg)) ≡ k
    length_before = length-take-le k (items seg) (omega arith)

    pub within-front : take k (items seg') ≡ take k (items seg)
    within-front =
        let s = w.some in
        sym (take-take k j (items seg') (omega arith)) ∙ ap (take k) within-those ∙ take_at (take k (items seg)) _ k length_before

    pub within-rest : drop k (take j (items seg')) ≡ join_items g (item_at seg k) (item_at seg (k + 1) ∷ drop (k + 1 + 1) (take n (items seg)))
    within-rest = ap (drop k) within-those ∙ drop_at (take k (items seg)) _ k length_before

    pub within-small : every bounded (take n (items seg)) ≡ true → every bounded (take j (items seg')) ≡ true
    within-small b =
        let a : every bounded (take k (items seg)) ≡ true = rw (take-take k n (items seg) (omega arith)) at (every_take bounded k (take n (items seg)) b) in
        let d = rw (drop-next (items seg) n k (omega arith) m, second) at (every_drop bounded k (take n (items seg)) b) in
        rw within-those (every_append bounded (take k (items seg)) _ a (join_small g (item_at seg k) (item_at seg (k + 1)) (drop (k + 1 + 1) (take n (items seg))) d))

    pub within_first : (item_at seg' 0).key ≡ (item_at seg 0).key
    within_first =
        let s = w.some in
        sym (ap (λ (f : Fields). f.key) (get_or-take j (items seg') 0 nothing (omega arith))) ∙ ap (λ (l : List Fields). (get_or l 0 nothing).key) within-those ∙ go k (items seg) m refl
      where
        go : (i : ℕ) (l : List Fields) → n ≤ length l → i ≡ k → (get_or (take i l ++ join_items g (get_or l i nothing) (item_at seg (k + 1) ∷ drop (k + 1 + 1) (take n (items seg)))) 0 nothing).key ≡ (get_or l 0 nothing).key
        go zero l a e = join_key g (get_or l 0 nothing) (item_at seg (k + 1)) (drop (k + 1 + 1) (take n (items seg)))
        go (suc i) [] a e = absurd (omega arith)
        go (suc i) (f ∷ l) a e = refl
