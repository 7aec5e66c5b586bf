-- A change that fills holes, by the same change without holes: what it cuts, rewrites and joins is the same, and the pieces of
-- the holes come in behind. Assumes nothing.
use mathlib.Core.Path.{◌≡◌, refl, ap, ◌∙◌, sym}
use mathlib.Core.Bool.{Bool, true, false, ◌&&◌, not}
use mathlib.Core.List.{List, [], ◌∷◌, ◌++◌, map, flat_map, append-nil}
use Prim.Native.Nat.{ℕ, zero, suc, ◌+◌, ◌-◌, ◌*◌, ◌<◌, ◌≤◌, ◌^◌}
use native.Mathlib.Omega.{arith}
use native.Mathlib.Nat.{add-mul, one-mul}
use lib.Dec.{eqb, leb, ltb}
use lib.ListN.{length, length-map}
use borrow.Author.Tests.{ne_eqb, not-true, le-leb, leb-true, lt-ltb}
use Rattle.records.specs.Select.{any}
use Rattle.records.specs.Stages.{every, pairs}
use Rattle.records.proofs.Tests.{both, both_left, both_right, every_map, every_both}
use Rattle.records.proofs.Lists.{every_true}
use mathlib.Core.Logic.{⊎_elim}
use Rattle.item.specs.Items.{Fields, ranged}
use Rattle.lists.specs.Lists.{item_sound, rises}
use Rattle.lists.proofs.Order.{item-ranged}
use Rattle.cut_def.proofs.Kept.{clear}
use Rattle.plan_def.specs.Plans.{Add}
use Rattle.cut_def.specs.Pieces.{Piece, items_of, insert, insert_all, counted_bytes}
use Rattle.cut_def.proofs.Bytes.{insert_all-bytes}
use Rattle.plan_def.specs.Plans.{Write}
use Rattle.plan_def.specs.Places.{Wanted}
use Rattle.change_def.specs.Preallocs.{Stretch, piece_count, nth_piece, pieces_from, prealloc_pieces, sum_of}
use Rattle.change_def.specs.declared.Rewrite.{Rewrite}
use Rattle.change_def.specs.Rewrites.{Ground, rewritten_anew}
use Rattle.change_def.specs.Changes.{Change, before, new_items, writes_anew, pieces_written, pieces_joined, drops, change_refusal, sectors_wanted, pieces_wanted, wanted, pieces_after}
use Rattle.change_def.proofs.Preallocs.{piece_some, piece_inside}
use Rattle.change_def.proofs.Rounding.{up_above}
use Rattle.change_def.proofs.Fair.{Fair, hole_inside, holes_rise}
use Rattle.change_def.proofs.Items.{hole_facts, clear_facts}
use Rattle.change_def.proofs.Each.{new_item, new-every, new-pairs}
use Rattle.change_def.proofs.News.{sector_wanted, piece_wanted, every_piece, pairs_piece}

-- ---- without its holes

-- the same change of a file of this size, without its holes
abbrev pub bare : ℕ → Change → Change
bare size c = record { lo = c.lo; hi = c.hi; rewrites = c.rewrites; holes = []; size = size }

pub bare_fair : (size : ℕ) (g : Ground) (c : Change) → Fair g c → Fair g (bare size c)
bare_fair size g c f =
    record {
      sound = f.sound;
      lower = f.lower;
      upper = f.upper;
      order = f.order;
      limit = f.limit;
      rewrites = f.rewrites;
      rising = f.rising;
      holes = unfold every in refl;
      free = unfold every in refl;
      apart = unfold pairs in refl;
    }

pub bare_joined : (size : ℕ) (g : Ground) (c : Change) → pieces_joined g (bare size c) ≡ pieces_joined g c
unfolding pieces_joined pieces_written
bare_joined size g c = refl

pub bare_refusal : (size : ℕ) (g : Ground) (c : Change) → change_refusal g (bare size c) ≡ change_refusal g c
unfolding change_refusal pieces_joined pieces_written drops
bare_refusal size g c = refl

pub bare_wanted : (size : ℕ) (g : Ground) (c : Change) (limit : ℕ) → wanted g (bare size c) limit ≡ sectors_wanted g c limit
unfolding flat_map
bare_wanted size g c limit = append-nil (sectors_wanted g c limit)

-- ---- items and writes at the first places, and at the others

module _ (g : Ground) where
  new_parts : (ps qs : List ℕ) (ws us : List Wanted) → length ps ≡ length ws → new_items g (ps ++ qs) (ws ++ us) ≡ new_items g ps ws ++ new_items g qs us
  unfolding new_items
  new_parts [] qs [] us h = refl
  new_parts [] qs (w ∷ ws) us h = absurd (omega arith)
  new_parts (p ∷ ps) qs [] us h = absurd (omega arith)
  new_parts (p ∷ ps) qs (w ∷ ws) us h = ap (λ (l : List Fields). new_item g p w ∷ l) (new_parts ps qs ws us (omega arith))

pub writes-part : (ps qs : List ℕ) (rs : List Rewrite) → length ps ≡ length rs → writes_anew (ps ++ qs) rs ≡ writes_anew ps rs
unfolding writes_anew
writes-part [] [] [] h = refl
writes-part [] (q ∷ qs) [] h = refl
writes-part [] qs (r ∷ rs) h = absurd (omega arith)
writes-part (p ∷ ps) qs [] h = absurd (omega arith)
writes-part (p ∷ ps) qs (r ∷ rs) h = ap (λ (l : List Write). record { key = r.sector; at = p; first = r.first; end = r.end } ∷ l) (writes-part ps qs rs (omega arith))

pub insert_parts : (xs ys : List Fields) (ps : List Piece) → insert_all (xs ++ ys) ps ≡ insert_all ys (insert_all xs ps)
unfolding insert_all
insert_parts [] ys ps = refl
insert_parts (x ∷ xs) ys ps = insert_parts xs ys (insert x ps)

-- the pieces of the holes come in last
pub after_parts : (size : ℕ) (g : Ground) (c : Change) (limit : ℕ) (ps qs : List ℕ) → length ps ≡ length (sectors_wanted g c limit)
    → pieces_after g c limit (ps ++ qs) ≡ insert_all (new_items g qs (pieces_wanted g c limit)) (pieces_after g (bare size c) limit ps)
unfolding pieces_after
after_parts size g c limit ps qs h =
    rw (new_parts g ps qs (sectors_wanted g c limit) (pieces_wanted g c limit) h, insert_parts (new_items g ps (sectors_wanted g c limit)) (new_items g qs (pieces_wanted g c limit)) (pieces_joined g c), bare_wanted size g c limit, bare_joined size g c) refl

-- ---- bytes

pub sum_append : (ss ts : List Stretch) → sum_of (ss ++ ts) ≡ sum_of ss + sum_of ts
unfolding sum_of
sum_append [] ts = omega arith
sum_append (s ∷ ss) ts = omega (arith, sum_append ss ts)

module _ (limit : ℕ) (pos : 0 < limit) where
  -- the pieces of a hole are as long as it
  from_sum : (s : Stretch) (n k : ℕ) → n + k ≡ piece_count limit s.length → sum_of (pieces_from limit s n k) ≡ s.length - n * limit
  unfolding sum_of pieces_from
  from_sum s n zero e = let m : n ≡ piece_count limit s.length = omega (arith, e) in rw m (omega (arith, up_above limit pos s.length))
  from_sum s n (suc k) e =
      let m : (n + 1) * limit ≡ n * limit + limit = rw (add-mul, one-mul) refl in
      omega (arith, m, from_sum s (n + 1) k (omega (arith, e)))

  pub pieces_sum : (ss : List Stretch) → sum_of (flat_map (prealloc_pieces limit) ss) ≡ sum_of ss
  unfolding sum_of flat_map
  pieces_sum [] = refl
  pieces_sum (s ∷ ss) =
      omega (
        arith,
        sum_append (prealloc_pieces limit s) (flat_map (prealloc_pieces limit) ss),
        from_sum s 0 (piece_count limit s.length) (omega arith),
        pieces_sum ss,
      )

-- items over pieces, at places that are not 0, count their lengths
new-bytes : (g : Ground) (qs : List ℕ) (ss : List Stretch) → length qs ≡ length ss → every (λ (p : ℕ). not (eqb p 0)) qs ≡ true → counted_bytes (new_items g qs (map piece_wanted ss)) ≡ sum_of ss
unfolding counted_bytes new_items sum_of every
new-bytes g [] [] n h = refl
new-bytes g [] (s ∷ ss) n h = absurd (omega arith)
new-bytes g (q ∷ qs) [] n h = absurd (omega arith)
new-bytes g (q ∷ qs) (s ∷ ss) n h =
    let e : eqb q 0 ≡ false = not-true (eqb q 0) (both_left (not (eqb q 0)) (every (λ (p : ℕ). not (eqb p 0)) qs) h) in
    rw e (omega (arith, new-bytes g qs ss (omega arith) (both_right (not (eqb q 0)) (every (λ (p : ℕ). not (eqb p 0)) qs) h)))

-- the byte count: the holes' bytes come in
pub bytes-filled : (size : ℕ) (g : Ground) (c : Change) (limit : ℕ) → 0 < limit → (ps qs : List ℕ) → length ps ≡ length (sectors_wanted g c limit) → length qs ≡ length (pieces_wanted g c limit)
    → every (λ (p : ℕ). not (eqb p 0)) qs ≡ true
    → counted_bytes (items_of (pieces_after g c limit (ps ++ qs))) ≡ counted_bytes (items_of (pieces_after g (bare size c) limit ps)) + sum_of c.holes
bytes-filled size g c limit pos ps qs m n h =
    let ss : List Stretch = flat_map (prealloc_pieces limit) c.holes in
    let k : length qs ≡ length ss = n ∙ length-map ss piece_wanted in
    rw (after_parts size g c limit ps qs m)
    (omega (
      arith,
      insert_all-bytes (new_items g qs (pieces_wanted g c limit)) (pieces_after g (bare size c) limit ps),
      new-bytes g qs ss k h,
      pieces_sum limit pos c.holes,
    ))

-- ---- the mark

pub mark-filled : (g : Ground) (c : Change) (limit : ℕ) → any (λ (w : Wanted). eqb w.kind 2) (wanted g c limit) ≡ ltb 0 (length (pieces_wanted g c limit))
unfolding any
mark-filled g c limit = sectors (rewritten_anew g c.rewrites) ∙ pieces (flat_map (prealloc_pieces limit) c.holes)
  where
    sectors : (rs : List Rewrite) → any (λ (w : Wanted). eqb w.kind 2) (map (sector_wanted g) rs ++ pieces_wanted g c limit) ≡ any (λ (w : Wanted). eqb w.kind 2) (pieces_wanted g c limit)
    sectors [] = refl
    sectors (r ∷ rs) = sectors rs

    pieces : (ss : List Stretch) → any (λ (w : Wanted). eqb w.kind 2) (map piece_wanted ss) ≡ ltb 0 (length (map piece_wanted ss))
    pieces [] = refl
    pieces (s ∷ ss) = sym (lt-ltb 0 (suc (length (map piece_wanted ss))) (omega arith))

-- ---- the holes' bytes: holes rise below 2^63

sum_below : (b : ℕ) (ss : List Stretch) → b ≤ 2 ^ 63 → every (λ (s : Stretch). leb b s.start && leb (s.start + s.length) (2 ^ 63)) ss ≡ true → pairs holes_rise ss ≡ true → b + sum_of ss ≤ 2 ^ 63
unfolding sum_of every pairs
sum_below b [] l h r = omega arith
sum_below b (s ∷ ss) l h r =
    let q : Stretch → Bool = λ t. leb b t.start && leb (t.start + t.length) (2 ^ 63) in
    let e : ℕ = s.start + s.length in
    let here : q s ≡ true = both_left (q s) (every q ss) h in
    let low = leb-true b s.start (both_left (leb b s.start) (leb e (2 ^ 63)) here) in
    let high = leb-true e (2 ^ 63) (both_right (leb b s.start) (leb e (2 ^ 63)) here) in
    omega (arith, sum_below e ss high (rest ss (both_right (q s) (every q ss) h) (both_left (every (holes_rise s) ss) (pairs holes_rise ss) r)) (both_right (every (holes_rise s) ss) (pairs holes_rise ss) r))
  where
    rest : (ts : List Stretch) → every (λ (t : Stretch). leb b t.start && leb (t.start + t.length) (2 ^ 63)) ts ≡ true → every (holes_rise s) ts ≡ true → every (λ (t : Stretch). leb (s.start + s.length) t.start && leb (t.start + t.length) (2 ^ 63)) ts ≡ true
    rest [] h r = refl
    rest (t ∷ ts) h r =
        let q : Stretch → Bool = λ t. leb b t.start && leb (t.start + t.length) (2 ^ 63) in
        both _ _
        (both (leb (s.start + s.length) t.start) (leb (t.start + t.length) (2 ^ 63)) (both_left (holes_rise s t) (every (holes_rise s) ts) r) (both_right (leb b t.start) (leb (t.start + t.length) (2 ^ 63)) (both_left (q t) (every q ts) h)))
        (rest ts (both_right (q t) (every q ts) h) (both_right (holes_rise s t) (every (holes_rise s) ts) r))

module _ (g : Ground) (c : Change) (fair : Fair g c) where
  pub holes-below : sum_of c.holes ≤ 2 ^ 63
  holes-below =
      let inside : Stretch → Bool = λ s. leb 0 s.start && leb (s.start + s.length) (2 ^ 63) in
      let e : every inside c.holes ≡ true = every_map (hole_inside g c) inside (λ s h. both (leb 0 s.start) (leb (s.start + s.length) (2 ^ 63)) (le-leb 0 s.start (omega arith)) (le-leb _ _ (hole_facts g c s h).ends)) c.holes fair.holes in
      omega (arith, sum_below 0 c.holes (omega arith) e fair.apart)

  -- ---- the items over the pieces

  module _ (limit : ℕ) (pos : 0 < limit) (qs : List ℕ) where
    -- they rise
    pub pieces-rise : pairs rises (new_items g qs (pieces_wanted g c limit)) ≡ true
    pieces-rise =
        new-pairs g (λ (a d : Wanted). ltb a.key d.key) rises (λ p q a d h. h) qs (pieces_wanted g c limit)
        (pairs_piece g c fair limit pos (λ (a d : Wanted). ltb a.key d.key) (λ x y o l. lt-ltb x.start y.start (omega arith)))

    -- and have no key of the file's items
    pub pieces_fresh : every (λ (y : Fields). every (λ (f : Fields). not (eqb f.key y.key)) (before g c)) (new_items g qs (pieces_wanted g c limit)) ≡ true
    pieces_fresh =
        let other : ℕ → Fields → Bool = λ k f. not (eqb f.key k) in
        let sound : Fields → Bool = λ f. item_sound g.file f && ranged f in
        new-every g (λ (a : Add). true) (λ (w : Wanted). every (other w.key) (before g c)) (λ (y : Fields). every (other y.key) (before g c)) (λ p w v u. u) qs (pieces_wanted g c limit) (every_true _)
        (every_piece g c fair limit pos (λ (w : Wanted). every (other w.key) (before g c))
        (λ s i h free l.
        let k : ℕ = (nth_piece limit s i).start in
        let p = piece_inside limit pos s i l in
        let o = piece_some limit pos s i l in
        let away : Fields → Bool = clear s.start (s.start + s.length) in
        every_map (λ (f : Fields). sound f && away f) (other k)
        (λ f e. differs s k p.0 (omega (arith, p.1, o)) f (both_left (sound f) (away f) e) (both_right (sound f) (away f) e))
        (before g c) (every_both sound away (before g c) (every_both (item_sound g.file) ranged (before g c) fair.sound.kept.sound fair.sound.ranges) free)))
      where
        differs : (s : Stretch) (k : ℕ) → s.start ≤ k → k < s.start + s.length → (f : Fields) → (item_sound g.file f && ranged f) ≡ true → clear s.start (s.start + s.length) f ≡ true → not (eqb f.key k) ≡ true
        differs s k a b f i e =
            let r = item-ranged g.file f (both_left (item_sound g.file f) (ranged f) i) (both_right (item_sound g.file f) (ranged f) i) in
            let some = r.some in
            let z : f.key ≡ k → ⊥ = λ z. ⊎_elim (λ x. omega arith) (λ x. omega arith) (clear_facts s.start (s.start + s.length) f e) in
            rw (ne_eqb f.key k z) refl
