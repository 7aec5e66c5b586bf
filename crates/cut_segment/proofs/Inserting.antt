-- Putting an item among the records of a buffer, and taking one away. Assumes nothing.
use mathlib.Core.Path.{◌≡◌, refl, ap, ◌∙◌, sym}
use mathlib.Core.Bool.{Bool, true, false, cond, ◌&&◌}
use mathlib.Core.List.{List, [], ◌∷◌, ◌++◌, map, append-nil}
use Prim.Native.Nat.{ℕ, suc, ◌+◌, ◌-◌, ◌*◌, ◌≤◌, ◌<◌}
use native.Mathlib.Omega.{arith}
use native.Mathlib.Numerals.{add-one}
use lib.ListN.{length, get_or, take, drop, set, drop_of_length-le}
use lib.Seq.{take-suc-set, take-set-lt, drop-set-lt, drop-cons, get_or-take, length-take-le, append_snoc, take-take}
use lib.Dec.{ltb}
use borrow.Author.Tests.{leb-true, leb-false, ltb-true, ltb-false, lt-ltb, le-ltb}
use Rattle.records.specs.Stages.{every}
use Rattle.records.proofs.Tests.{both, both_left, both_right}
use Rattle.item.specs.Items.{Fields, items}
use Rattle.cut_def.specs.Pieces.{Piece, built, kept, insert, insert_all}
use Rattle.cut_def.specs.Raw.{replaced}
use Rattle.cut_segment.specs.declared.Segment.{Segment}
use Rattle.cut_segment.specs.Segments.{nothing, item_at, segment_of, pieces, leading, starts_by, starts_past, bounded, Good, Around, insert_item, Inserted}
use Rattle.cut_segment.proofs.Buffer.{items-room}
use Rattle.cut_segment.proofs.Cutting.{leading-most}

-- ---- the loops: what is left, done to the present buffer, is the whole. l is the buffer's items, the first n count.

-- the first n from i on
pub drop-next : (l : List Fields) (n i : ℕ) → i < n → n ≤ length l → drop i (take n l) ≡ get_or l i nothing ∷ drop (i + 1) (take n l)
drop-next l n i h m = drop-cons (take n l) i nothing (omega (arith, length-take-le n l m)) ∙ rw (get_or-take n l i nothing h, add-one) refl

module _ (l l' : List Fields) (n i : ℕ) (x : Fields) (h : i < n) (m : n ≤ length l) (e : l' ≡ set l i x) where
  pub took : take (i + 1) l' ≡ take i l ++ x ∷ []
  took = rw (e, add-one) (take-suc-set l i x (omega arith))

  pub left : (j : ℕ) → i < j → drop j (take n l') ≡ drop j (take n l)
  left j g = rw (e, take-set-lt n l i x h) (drop-set-lt j (take n l) i x g)

  -- a turn that lets x in and takes y on
  pub slide_turn : (y : Fields) → y ≡ get_or l i nothing → take (i + 1) l' ++ y ∷ drop (i + 1) (take n l') ≡ take i l ++ x ∷ drop i (take n l)
  slide_turn y p =
      rw (took, left (i + 1) (omega arith), drop-next l n i h m, p) (append_snoc (take i l) x _)

  -- a turn that moves a record down
  pub remove_turn : i + 1 < n → x ≡ get_or l (i + 1) nothing → take (i + 1) l' ++ drop (i + 1 + 1) (take n l') ≡ take i l ++ drop (i + 1) (take n l)
  remove_turn g p =
      rw (took, left (i + 1 + 1) (omega arith), drop-next l n (i + 1) g m, ← p) (append_snoc (take i l) x _)

pub slide_done : (l l' : List Fields) (n i : ℕ) (x : Fields) → i ≡ n → n < length l → l' ≡ set l n x → take (n + 1) l' ≡ take i l ++ x ∷ drop i (take n l)
slide_done l l' n i x e h p =
    let z : drop n (take n l) ≡ [] = drop_of_length-le (take n l) {i = n} (omega (arith, length-take-le n l (omega arith))) in
    rw (p, e, add-one, z) (take-suc-set l n x h)

pub remove_done : (l : List Fields) (n i : ℕ) → i + 1 ≡ n → n ≤ length l → take (n - 1) l ≡ take i l ++ drop (i + 1) (take n l)
remove_done l n i e h =
    let z : drop (i + 1) (take n l) ≡ [] = drop_of_length-le (take n l) {i = i + 1} (omega (arith, length-take-le n l h)) in
    let k : n - 1 ≡ i = omega arith in
    rw (z, k, append-nil) refl

-- ---- an item put at its key

insert_slide : (x : Fields) (xs : List Fields) → insert_item x xs ≡ take (leading (starts_by x.key) xs) xs ++ x ∷ drop (leading (starts_by x.key) xs) xs
unfolding insert_item leading
insert_slide x [] = refl
insert_slide x (f ∷ xs) = go (starts_by x.key f) refl (insert_slide x xs)
  where
    k : ℕ
    k = leading (starts_by x.key) xs

    go : (t : Bool) → starts_by x.key f ≡ t → insert_item x xs ≡ take k xs ++ x ∷ drop k xs
        → cond (ltb x.key f.key) (x ∷ f ∷ xs) (f ∷ insert_item x xs) ≡ take (cond t (suc k) 0) (f ∷ xs) ++ x ∷ drop (cond t (suc k) 0) (f ∷ xs)
    go true e ih = rw (le-ltb x.key f.key (leb-true f.key x.key e)) (ap (λ (l : List Fields). f ∷ l) ih)
    go false e ih = rw (lt-ltb x.key f.key (leb-false f.key x.key e)) refl

-- from what the calls give: l are the buffer's items before, l' after
pub insert-told :
    (x : Fields) (l l' : List Fields) (n k : ℕ) → n ≤ length l
    → k ≡ leading (starts_by x.key) (take n l)
    → take (n + 1) l' ≡ take k l ++ x ∷ drop k (take n l)
    → take (n + 1) l' ≡ insert_item x (take n l)
insert-told x l l' n k h e p =
    let q : k ≤ n = omega (arith, leading-most (starts_by x.key) (take n l), length-take-le n l h) in
    p ∙ rw (← take-take k n l q) (rw e (sym (insert_slide x (take n l))))

-- from what the calls give
pub slid : (x : Fields) (s : Segment) (seg : List ℕ) (k : ℕ) (seg' : List ℕ) → (s.count + 1) * 70 ≤ length seg → length seg' ≡ length seg
    → k ≡ leading (starts_by x.key) (take s.count (items seg)) → take (s.count + 1) (items seg') ≡ take k (items seg) ++ x ∷ drop k (take s.count (items seg))
    → Inserted x s seg (record { from = s.from; to = s.to; count = s.count + 1 }) seg'
slid x s seg k seg' r l e p =
    let n : s.count < length (items seg) = omega (arith, items-room (s.count + 1) seg r) in
    record { from = refl; to = refl; count = refl; room = items-room (s.count + 1) seg' (omega arith); those = insert-told x (items seg) (items seg') s.count k (omega arith) e p }

-- ---- the file's items

-- an item among those of the segment, if those before start at most at its key and those behind past it
insert-behind : (x : Fields) (bs : List Fields) → every (starts_past x.key) bs ≡ true → insert x (map kept bs) ≡ built x ∷ map kept bs
unfolding insert every
insert-behind x [] h = refl
insert-behind x (b ∷ bs) h = rw (both_left (starts_past x.key b) (every (starts_past x.key) bs) h) refl

insert-within : (x : Fields) (xs bs : List Fields) → every (starts_past x.key) bs ≡ true → insert x (map built xs ++ map kept bs) ≡ map built (insert_item x xs) ++ map kept bs
unfolding insert insert_item
insert-within x [] bs h = insert-behind x bs h
insert-within x (f ∷ xs) bs h = go (ltb x.key f.key) (insert-within x xs bs h)
  where
    go : (t : Bool) → insert x (map built xs ++ map kept bs) ≡ map built (insert_item x xs) ++ map kept bs
        → cond t (built x ∷ built f ∷ (map built xs ++ map kept bs)) (built f ∷ insert x (map built xs ++ map kept bs)) ≡ map built (cond t (x ∷ f ∷ xs) (f ∷ insert_item x xs)) ++ map kept bs
    go true ih = refl
    go false ih = ap (λ (l : List Piece). built f ∷ l) ih

insert-before : (x : Fields) (fs : List Fields) (ps : List Piece) → every (starts_by x.key) fs ≡ true → insert x (map kept fs ++ ps) ≡ map kept fs ++ insert x ps
unfolding insert every
insert-before x [] ps h = refl
insert-before x (f ∷ fs) ps h =
    rw (le-ltb x.key f.key (leb-true f.key x.key (both_left (starts_by x.key f) (every (starts_by x.key) fs) h)))
    (ap (λ (l : List Piece). kept f ∷ l) (insert-before x fs ps (both_right (starts_by x.key f) (every (starts_by x.key) fs) h)))

-- into a list where a segment stands for a part of it
insert-replaced : (x : Fields) (fs : List Fields) (from to : ℕ) (xs : List Fields) → every (starts_by x.key) (take from fs) ≡ true → every (starts_past x.key) (drop to fs) ≡ true → insert x (replaced fs from to xs) ≡ replaced fs from to (insert_item x xs)
insert-replaced x fs from to xs a b = insert-before x (take from fs) _ a ∙ ap (λ (l : List Piece). map kept (take from fs) ++ l) (insert-within x xs (drop to fs) b)

-- several
unfoldable pub insert_items : List Fields → List Fields → List Fields
insert_items [] xs = xs
insert_items (y ∷ ys) xs = insert_items ys (insert_item y xs)

pub insert_all_made : (ys xs : List Fields) → insert_all ys (map built xs) ≡ map built (insert_items ys xs)
unfolding insert_all insert_items
insert_all_made [] xs = refl
insert_all_made (y ∷ ys) xs =
    let e : insert y (map built xs) ≡ map built (insert_item y xs) = sym (ap (insert y) (append-nil (map built xs))) ∙ insert-within y xs [] (unfold every in refl) ∙ append-nil (map built (insert_item y xs)) in
    rw e (insert_all_made ys (insert_item y xs))

pub insert_all-replaced : (ys fs : List Fields) (from to : ℕ) (xs : List Fields) → every (λ (y : Fields). every (starts_by y.key) (take from fs)) ys ≡ true → every (λ (y : Fields). every (starts_past y.key) (drop to fs)) ys ≡ true → insert_all ys (replaced fs from to xs) ≡ replaced fs from to (insert_items ys xs)
unfolding insert_all insert_items every
insert_all-replaced [] fs from to xs a b = refl
insert_all-replaced (y ∷ ys) fs from to xs a b =
    let p : Fields → Bool = λ y. every (starts_by y.key) (take from fs) in
    let q : Fields → Bool = λ y. every (starts_past y.key) (drop to fs) in
    rw (insert-replaced y fs from to xs (both_left (p y) (every p ys) a) (both_left (q y) (every q ys) b))
    (insert_all-replaced ys fs from to (insert_item y xs) (both_right (p y) (every p ys) a) (both_right (q y) (every q ys) b))

every_inserted : (p : Fields → Bool) (x : Fields) (xs : List Fields) → p x ≡ true → every p xs ≡ true → every p (insert_item x xs) ≡ true
unfolding every insert_item
every_inserted p x [] h k = both (p x) true h refl
every_inserted p x (f ∷ xs) h k = go (ltb x.key f.key) (every_inserted p x xs h (both_right (p f) (every p xs) k))
  where
    go : (t : Bool) → every p (insert_item x xs) ≡ true → every p (cond t (x ∷ f ∷ xs) (f ∷ insert_item x xs)) ≡ true
    go true ih = both (p x) (p f && every p xs) h k
    go false ih = both (p f) (every p (insert_item x xs)) (both_left (p f) (every p xs) k) ih

insert-first : (x : Fields) (xs : List Fields) → (get_or (insert_item x xs) 0 nothing).key ≤ x.key
unfolding insert_item
insert-first x [] = omega arith
insert-first x (f ∷ xs) = go (ltb x.key f.key) refl
  where
    go : (t : Bool) → ltb x.key f.key ≡ t → (get_or (cond t (x ∷ f ∷ xs) (f ∷ insert_item x xs)) 0 nothing).key ≤ x.key
    go true e = omega arith
    go false e = ltb-false x.key f.key e

insert-lower : (x f : Fields) (xs : List Fields) → (get_or (insert_item x (f ∷ xs)) 0 nothing).key ≤ f.key
unfolding insert_item
insert-lower x f xs = go (ltb x.key f.key) refl
  where
    go : (t : Bool) → ltb x.key f.key ≡ t → (get_or (cond t (x ∷ f ∷ xs) (f ∷ insert_item x xs)) 0 nothing).key ≤ f.key
    go true e = omega (arith, ltb-true x.key f.key e)
    go false e = omega arith

-- ---- what callers have of an insertion

module _ (x : Fields) (list : List ℕ) (s : Segment) (seg : List ℕ) (r : Segment) (seg' : List ℕ) (i : Inserted x s seg r seg') where
  pub inserted_pieces : Around x.key list s → pieces list r seg' ≡ insert x (pieces list s seg)
  inserted_pieces a = rw (i.from, i.to, i.those) (sym (insert-replaced x (items list) s.from s.to (segment_of s seg) a.before a.behind))

  pub inserted_good : Good list s seg → bounded x ≡ true → Good list r seg'
  inserted_good g b =
      record {
        order = rw (i.from, i.to) g.order;
        inside = rw i.to g.inside;
        room = i.room;
        sound = g.sound;
        small = rw i.those (every_inserted bounded x (segment_of s seg) b g.small);
      }

  pub inserted_around : (k : ℕ) → Around k list s → Around k list r
  inserted_around k a = record { before = rw i.from a.before; behind = rw i.to a.behind }

  -- the segment's first item starts at most at the new one's key
  pub inserted_first : (0 < r.count) × ((item_at seg' 0).key ≤ x.key)
  inserted_first =
      let n = i.count in
      let e : get_or (segment_of r seg') 0 nothing ≡ item_at seg' 0 = get_or-take r.count (items seg') 0 nothing (omega arith) in
      (omega arith, rw (← e) (rw i.those (insert-first x (segment_of s seg))))

  -- and at most where it did
  pub inserted_lower : 0 < s.count → s.count ≤ length (items seg) → (item_at seg' 0).key ≤ (item_at seg 0).key
  inserted_lower h m =
      let n = i.count in
      let e : get_or (segment_of r seg') 0 nothing ≡ item_at seg' 0 = get_or-take r.count (items seg') 0 nothing (omega arith) in
      let d : segment_of s seg ≡ item_at seg 0 ∷ drop 1 (segment_of s seg) = drop-next (items seg) s.count 0 h m in
      rw (← e) (rw i.those (rw d (insert-lower x (item_at seg 0) (drop 1 (segment_of s seg)))))
