-- Joining the records of a segment around a sector. Assumes nothing.
use mathlib.Core.Path.{◌≡◌, refl, ap, ap₂, ◌∙◌, sym}
use mathlib.Core.Bool.{Bool, true, false, cond, ◌&&◌}
use mathlib.Core.List.{List, [], ◌∷◌, ◌++◌, map, tail, map-append, append_assoc, append-nil}
use Prim.Native.Nat.{ℕ, zero, suc, ◌+◌, ◌-◌, ◌/◌, ◌≤◌, ◌<◌}
use native.Mathlib.Omega.{arith}
use native.Mathlib.Numerals.{add-one}
use lib.ListN.{length, get_or, take, drop, set, length-set, drop_of_length-le}
use lib.Seq.{drop_at, take-take, get_or-take, length-take-le, drop-drop, append_snoc, take-suc, take-set-le, drop-cons, get_or-set_same}
use borrow.Author.Tests.{leb-true, leb-false, le-leb, le-ltb, lt-ltb}
use Rattle.records.specs.Stages.{every}
use Rattle.records.proofs.Tests.{both_left, both_right, every-at}
use Rattle.records.proofs.Lists.{every_append, every_take, every_drop, every-mapped}
use Rattle.item.specs.Items.{Fields, items, joined}
use Rattle.item.proofs.Laws.{items-length}
use Rattle.cut_def.specs.Pieces.{Piece, built, kept}
use Rattle.cut_def.specs.Joins.{joinable, join_next, past, join_around}
use Rattle.cut_def.proofs.Mappings.{joint}
use Rattle.cut_segment.specs.declared.Segment.{Segment}
use Rattle.cut_segment.specs.Segments.{nothing, item_at, pieces, leading, starts_by, starts_past, bounded, Good, Around}
use Rattle.cut_joins.specs.Joins.{join_items, join_last, Within, Behind, Before, Joining}
use Rattle.cut_segment.proofs.Cutting.{leading-most, every-leading}
use Rattle.cut_segment.proofs.Inserting.{took, left, drop-next}
use Rattle.cut_joins.proofs.Pairs.{every_one, split-take, joined-ends, join_made, within-those, within-front, within-rest, within-small, within_first, second, bounded_of, bounded_at}

-- ---- the law: around a sector is the last of those before it, over the one at it, over those behind it

abbrev pub at : ℕ → Piece → Bool
at s p = starts_by s p.item

not-past : (s : ℕ) (p : Piece) (ps : List Piece) → at s p ≡ true → past s (p ∷ ps) ≡ false
not-past s p ps h = le-ltb s p.item.key (leb-true p.item.key s h)

-- the definition's three ways on
module _ (g s : ℕ) (p : Piece) (ps : List Piece) (h : at s p ≡ true) where
  around_here : past s ps ≡ true → join_around g s (p ∷ ps) ≡ join_next g p ps
  unfolding join_around
  around_here e = rw (not-past s p ps h, e) refl

  around-next : past s ps ≡ false → past s (tail ps) ≡ true → join_around g s (p ∷ ps) ≡ join_next g p (join_around g s ps)
  unfolding join_around
  around-next e f = rw (not-past s p ps h, e, f) refl

  around-on : past s ps ≡ false → past s (tail ps) ≡ false → join_around g s (p ∷ ps) ≡ p ∷ join_around g s ps
  unfolding join_around
  around-on e f = rw (not-past s p ps h, e, f) refl

around-law :
    (g s : ℕ) (ps : List Piece) (x : Piece) (qs : List Piece) → every (at s) ps ≡ true → at s x ≡ true → past s qs ≡ true
    → join_around g s (ps ++ x ∷ qs) ≡ join_last g ps (join_next g x qs)
unfolding join_last every
around-law g s [] x qs h k l = around_here g s x qs k l
around-law g s (p ∷ []) x qs h k l = around-next g s p (x ∷ qs) (both_left (at s p) true h) (not-past s x qs k) l ∙ ap (join_next g p) (around_here g s x qs k l)
around-law g s (p ∷ (q ∷ ps)) x qs h k l =
    let t : Bool = every (at s) ps in
    let b : (at s q && t) ≡ true = both_right (at s p) (at s q && t) h in
    around-on g s p (q ∷ (ps ++ x ∷ qs)) (both_left (at s p) (at s q && t) h) (not-past s q (ps ++ x ∷ qs) (both_left (at s q) t b)) (go ps (both_right (at s q) t b))
    ∙ ap (λ (l : List Piece). p ∷ l) (around-law g s (q ∷ ps) x qs b k l)
  where
    go : (ps : List Piece) → every (at s) ps ≡ true → past s (ps ++ x ∷ qs) ≡ false
    go [] h = not-past s x qs k
    go (r ∷ ps) h = not-past s r (ps ++ x ∷ qs) (both_left (at s r) (every (at s) ps) h)

last_snoc : (g : ℕ) (ps : List Piece) (p : Piece) (qs : List Piece) → join_last g (ps ++ p ∷ []) qs ≡ ps ++ join_next g p qs
unfolding join_last
last_snoc g [] p qs = refl
last_snoc g (r ∷ []) p qs = refl
last_snoc g (r ∷ (s ∷ ps)) p qs = ap (λ (l : List Piece). r ∷ l) (last_snoc g (s ∷ ps) p qs)

-- ---- record k of a segment joined with what is behind it

-- a joined item keeps the first one's key
set_key : (l : List Fields) (k : ℕ) (f : Fields) → f.key ≡ (get_or l k nothing).key → (get_or (set l k f) 0 nothing).key ≡ (get_or l 0 nothing).key
set_key [] k f h = refl
set_key (x ∷ l) zero f h = h
set_key (x ∷ l) (suc k) f h = refl

module _ (g : ℕ) (list : List ℕ) (s : Segment) (seg : List ℕ) (k : ℕ) (good : Good list s seg) where
  pub behind-within :
      (j : ℕ) (seg' : List ℕ) → k + 1 < s.count → Within g k s.count seg j seg' → length (items seg') ≡ length (items seg)
      → Behind g list s seg k (record { from = s.from; to = s.to; count = j }) seg'
  behind-within j seg' h w e =
      let n = s.count in
      let m = good.room in
      let t = w.most in
      record {
        from = refl;
        to = omega arith;
        some = w.some;
        most = t;
        front = within-front g k n seg h m j seg' w;
        rest =
            rw (within-rest g k n seg h m j seg' w, second g k n seg h m)
            (join_made g (item_at seg k) (item_at seg (k + 1)) (drop (k + 1 + 1) (take n (items seg))) (map kept (drop s.to (items list))));
        first = within_first g k n seg h m j seg' w;
        good = record { order = good.order; inside = good.inside; room = omega arith; sound = good.sound; small = within-small g k n seg h m j seg' w good.small };
      }

  -- the last item of the segment
  module _ (h : k + 1 ≡ s.count) where
    last_rest : drop k (take s.count (items seg)) ≡ item_at seg k ∷ []
    last_rest =
        let r = good.room in
        drop-next (items seg) s.count k (omega arith) r
        ∙ ap (λ (l : List Fields). item_at seg k ∷ l) (drop_of_length-le (take s.count (items seg)) {i = k + 1} (omega (arith, length-take-le s.count (items seg) r)))

    last_none : drop (k + 1) (take s.count (items seg)) ≡ []
    last_none = let r = good.room in drop_of_length-le (take s.count (items seg)) {i = k + 1} (omega (arith, length-take-le s.count (items seg) r))

    end_stays : join_next g (built (item_at seg k)) (map kept (drop s.to (items list))) ≡ built (item_at seg k) ∷ map kept (drop s.to (items list)) → Behind g list s seg k s seg
    end_stays e =
        record { from = refl; to = omega arith; some = omega arith; most = omega arith; front = refl; rest = rw (last_rest, last_none) (sym e); first = refl; good = good }

    -- no record is behind it
    pub end_none : s.to ≡ length list / 70 → Behind g list s seg k s seg
    end_none e =
        let z : drop s.to (items list) ≡ [] = drop_of_length-le (items list) {i = s.to} (omega (arith, items-length list)) in
        end_stays (rw z refl)

    module _ (x y : Fields) (hx : x ≡ item_at seg k) (hy : y ≡ item_at list s.to) (lt : s.to < length (items list)) where
      behind_cons : drop s.to (items list) ≡ y ∷ drop (s.to + 1) (items list)
      behind_cons = drop-cons (items list) s.to nothing lt ∙ rw (add-one, hy) refl

      pub end-yes : (seg' : List ℕ) → joinable x y ≡ true → items seg' ≡ set (items seg) k (joined x y g) → Behind g list s seg k (record { from = s.from; to = s.to + 1; count = s.count }) seg'
      end-yes seg' e p =
          let r = good.room in
          let o = good.order in
          let z : joinable (item_at seg k) y ≡ true = rw hx at e in
          let q : items seg' ≡ set (items seg) k (joined (item_at seg k) y g) = rw hx at p in
          let t : take s.count (items seg') ≡ take k (items seg) ++ joined (item_at seg k) y g ∷ [] = rw (← h) (took (items seg) (items seg') s.count k _ (omega arith) r q) in
          let d : drop k (take s.count (items seg')) ≡ joined (item_at seg k) y g ∷ [] = ap (drop k) t ∙ drop_at (take k (items seg)) _ k (length-take-le k (items seg) (omega arith)) in
          let b : bounded y ≡ true = bounded_of (items list) s.to y good.sound lt hy in
          let a : every bounded (take k (items seg)) ≡ true = rw (take-take k s.count (items seg) (omega arith)) at (every_take bounded k (take s.count (items seg)) good.small) in
          record {
            from = refl;
            to = omega arith;
            some = omega arith;
            most = omega arith;
            front = rw q (take-set-le k (items seg) k _ (omega arith));
            rest = rw (d, last_none, behind_cons) (rw z refl);
            first = rw q (set_key (items seg) k _ refl);
            good =
                record {
                  order = omega arith;
                  inside = omega arith;
                  room = rw (q, length-set) r;
                  sound = good.sound;
                  small = rw t (every_append bounded (take k (items seg)) _ a (every_one bounded _ (joined-ends (item_at seg k) y g z b)));
                };
          }

-- ---- what is before record k of a segment joined with it

module _ (g : ℕ) (list : List ℕ) (s : Segment) (seg : List ℕ) (good : Good list s seg) where
  pub before-within :
      (k i j : ℕ) (seg' : List ℕ) → k ≡ i + 1 → k < s.count → Within g i s.count seg j seg' → length (items seg') ≡ length (items seg)
      → Before g list s seg k (record { from = s.from; to = s.to; count = j }) seg'
  before-within k i j seg' e lt w le =
      let n = s.count in
      let m = good.room in
      let h : i + 1 < n = omega arith in
      let t = w.most in
      let u = w.some in
      let A = map kept (take s.from (items list)) in
      let B = map kept (drop s.to (items list)) in
      let X = map built (take i (items seg)) in
      let c : take k (items seg) ≡ take i (items seg) ++ item_at seg i ∷ [] = rw (e, add-one) (take-suc (items seg) i nothing (omega arith)) in
      let d : drop k (take n (items seg)) ≡ item_at seg (i + 1) ∷ drop (i + 1 + 1) (take n (items seg)) = rw e (second g i n seg h m) in
      let J = join_items g (item_at seg i) (item_at seg (i + 1) ∷ drop (i + 1 + 1) (take n (items seg))) in
      record {
        same =
            rw (within-those g i n seg h m j seg' w, c, d, map-append built (take i (items seg)) (item_at seg i ∷ []), map-append built (take i (items seg)) J, append_assoc X (map built J) B)
            (sym (append_assoc A X (map built J ++ B))
            ∙ ap (λ (l : List Piece). A ++ X ++ l) (join_made g (item_at seg i) (item_at seg (i + 1)) (drop (i + 1 + 1) (take n (items seg))) B)
            ∙ sym (last_snoc g (A ++ X) (built (item_at seg i)) _)
            ∙ ap (λ (l : List Piece). join_last g l (map built (item_at seg (i + 1) ∷ drop (i + 1 + 1) (take n (items seg))) ++ B)) (append_assoc A X (built (item_at seg i) ∷ [])));
        from = omega arith;
        to = refl;
        some = omega arith;
        most = t;
        first = let f = within_first g i n seg h m j seg' w in omega arith;
        good = record { order = good.order; inside = good.inside; room = omega arith; sound = good.sound; small = within-small g i n seg h m j seg' w good.small };
      }

  -- the first item of the segment
  module _ (some : 0 < s.count) where
    pub start_none : s.from ≡ 0 → Before g list s seg 0 s seg
    unfolding join_last
    start_none e = record { same = rw e refl; from = omega arith; to = refl; some = some; most = omega arith; first = omega arith; good = good }

    module _ (x y : Fields) (hx : x ≡ item_at list (s.from - 1)) (hy : y ≡ item_at seg 0) (lt : 0 < s.from) where
      -- the list's record before it, apart
      before_snoc : map kept (take s.from (items list)) ≡ map kept (take (s.from - 1) (items list)) ++ kept x ∷ []
      before_snoc =
          let o = good.order in
          let i = good.inside in
          let e : s.from ≡ suc (s.from - 1) = omega arith in
          let t : take s.from (items list) ≡ take (s.from - 1) (items list) ++ x ∷ [] = ap (λ (i : ℕ). take i (items list)) e ∙ take-suc (items list) (s.from - 1) nothing (omega arith) ∙ rw hx refl in
          ap (map kept) t
          ∙ map-append kept (take (s.from - 1) (items list)) (x ∷ [])

      segment_cons : take s.count (items seg) ≡ y ∷ drop 1 (take s.count (items seg))
      segment_cons = drop-next (items seg) s.count 0 some good.room ∙ rw hy refl

      start-law :
          join_last g (map kept (take s.from (items list)) ++ map built (take 0 (items seg))) (map built (drop 0 (take s.count (items seg))) ++ map kept (drop s.to (items list)))
          ≡ map kept (take (s.from - 1) (items list)) ++ join_next g (kept x) (built y ∷ (map built (drop 1 (take s.count (items seg))) ++ map kept (drop s.to (items list))))
      start-law =
          ap₂ (join_last g) (append-nil (map kept (take s.from (items list))) ∙ before_snoc) (ap (λ (l : List Fields). map built l ++ map kept (drop s.to (items list))) segment_cons)
          ∙ last_snoc g (map kept (take (s.from - 1) (items list))) (kept x) _

      pub start-not : joinable x y ≡ false → Before g list s seg 0 s seg
      start-not e =
          let B = map kept (drop s.to (items list)) in
          record {
            same =
                ap₂ (λ (l k : List Piece). l ++ k) before_snoc (ap (λ (l : List Fields). map built l ++ B) segment_cons)
                ∙ append_snoc (map kept (take (s.from - 1) (items list))) (kept x) _
                ∙ sym (start-law ∙ rw e refl);
            from = omega arith;
            to = refl;
            some = some;
            most = omega arith;
            first = omega arith;
            good = good;
          }

      pub start-yes : (seg' : List ℕ) → joinable x y ≡ true → items seg' ≡ set (items seg) 0 (joined x y g) → Before g list s seg 0 (record { from = s.from - 1; to = s.to; count = s.count }) seg'
      start-yes seg' e p =
          let r = good.room in
          let o = good.order in
          let B = map kept (drop s.to (items list)) in
          let m : s.count ≤ length (items seg') = rw (p, length-set) r in
          let f : item_at seg' 0 ≡ joined x y g = rw p (get_or-set_same (items seg) 0 (joined x y g) nothing (omega arith)) in
          let t : take s.count (items seg') ≡ joined x y g ∷ drop 1 (take s.count (items seg)) =
          drop-next (items seg') s.count 0 some m ∙ ap₂ (λ (h : Fields) (l : List Fields). h ∷ l) f (left (items seg) (items seg') s.count 0 _ some r p 1 (omega arith)) in
          let b : bounded y ≡ true = bounded_at (items seg) s.count 0 y good.small some r hy in
          record {
            same = ap (λ (l : List Fields). map kept (take (s.from - 1) (items list)) ++ (map built l ++ B)) t ∙ sym (start-law ∙ rw e refl);
            from = omega arith;
            to = refl;
            some = some;
            most = omega arith;
            first = let t = (joint x y e).touch in omega (arith, ap (λ (h : Fields). h.key) f, ap (λ (h : Fields). h.key) hy);
            good =
                record {
                  order = omega arith;
                  inside = good.inside;
                  room = m;
                  sound = good.sound;
                  small = rw t (every_append bounded (joined x y g ∷ []) _ (every_one bounded _ (joined-ends x y g e b)) (every_drop bounded 1 (take s.count (items seg)) good.small));
                };
          }

-- ---- around a sector

past-behind : (s : ℕ) (bs : List Fields) → every (starts_past s) bs ≡ true → past s (map kept bs) ≡ true
unfolding every
past-behind s [] h = refl
past-behind s (b ∷ bs) h = both_left (starts_past s b) (every (starts_past s) bs) h

-- behind the leading ones that start at most at s
past_lead : (s : ℕ) (xs bs : List Fields) → every (starts_past s) bs ≡ true → past s (map built (drop (leading (starts_by s) xs) xs) ++ map kept bs) ≡ true
unfolding leading
past_lead s [] bs h = past-behind s bs h
past_lead s (f ∷ xs) bs h = go (starts_by s f) refl (past_lead s xs bs h)
  where
    go : (t : Bool) → starts_by s f ≡ t → past s (map built (drop (leading (starts_by s) xs) xs) ++ map kept bs) ≡ true → past s (map built (drop (cond t (suc (leading (starts_by s) xs)) 0) (f ∷ xs)) ++ map kept bs) ≡ true
    go true e ih = ih
    go false e ih = lt-ltb s f.key (leb-false f.key s e)

leading-some : (p : Fields → Bool) (f : Fields) (fs : List Fields) → p f ≡ true → 0 < leading p (f ∷ fs)
unfolding leading
leading-some p f fs h = rw h (omega arith)

module _ (sector : ℕ) (list : List ℕ) (s : Segment) (seg : List ℕ) (j : ℕ) (good : Good list s seg) (some : 0 < s.count) (first : (item_at seg 0).key ≤ sector)
    (lead_told : j ≡ leading (starts_by sector) (take s.count (items seg))) where
  -- the item at or before the sector is one of the segment's
  pub last_told : (0 < j) × (j ≤ s.count)
  last_told =
      let d : take s.count (items seg) ≡ item_at seg 0 ∷ drop 1 (take s.count (items seg)) = drop-next (items seg) s.count 0 some good.room in
      let l : 0 < leading (starts_by sector) (take s.count (items seg)) = rw d (leading-some (starts_by sector) (item_at seg 0) (drop 1 (take s.count (items seg))) (le-leb (item_at seg 0).key sector first)) in
      (omega (arith, lead_told), omega (arith, lead_told, leading-most (starts_by sector) (take s.count (items seg)), length-take-le s.count (items seg) good.room))

  module _ (around : Around sector list s) (k : ℕ) (hk : k ≡ j - 1) where
    abbrev xs : List Fields
    xs = take s.count (items seg)

    abbrev before : List Piece
    before = map kept (take s.from (items list)) ++ map built (take k (items seg))

    abbrev behind : List Piece
    behind = map built (drop (k + 1) xs) ++ map kept (drop s.to (items list))

    -- the file's items, apart at that item
    parted : pieces list s seg ≡ before ++ built (item_at seg k) ∷ behind
    parted =
        let o = last_told in
        let A = map kept (take s.from (items list)) in
        let X = map built (take k (items seg)) in
        let B = map kept (drop s.to (items list)) in
        ap (λ (l : List Fields). A ++ (map built l ++ B)) (split-take (items seg) s.count k (omega arith) good.room)
        ∙ ap (λ (l : List Piece). A ++ (l ++ B)) (map-append built (take k (items seg)) (item_at seg k ∷ drop (k + 1) xs))
        ∙ ap (λ (l : List Piece). A ++ l) (append_assoc X (map built (item_at seg k ∷ drop (k + 1) xs)) B)
        ∙ sym (append_assoc A X (built (item_at seg k) ∷ behind))

    led : every (starts_by sector) (take j xs) ≡ true
    led = rw lead_told (every-leading (starts_by sector) xs)

    before_at : every (at sector) before ≡ true
    before_at =
        let o = last_told in
        let t : every (starts_by sector) (take k (items seg)) ≡ true =
        rw (take-take k s.count (items seg) (omega arith)) at (rw (take-take k j xs (omega arith)) at (every_take (starts_by sector) k (take j xs) led)) in
        every_append (at sector) (map kept (take s.from (items list))) (map built (take k (items seg)))
        (every-mapped (at sector) kept (take s.from (items list)) ∙ around.before) (every-mapped (at sector) built (take k (items seg)) ∙ t)

    one_at : at sector (built (item_at seg k)) ≡ true
    one_at =
        let o = last_told in
        let r = good.room in
        let l = length-take-le s.count (items seg) r in
        let e : get_or (take j xs) k nothing ≡ item_at seg k = get_or-take j xs k nothing (omega arith) ∙ get_or-take s.count (items seg) k nothing (omega arith) in
        rw (← e) (every-at (starts_by sector) (take j xs) led k nothing (omega (arith, length-take-le j xs (omega arith))))

    behind-past : past sector behind ≡ true
    behind-past =
        let o = last_told in
        let e : k + 1 ≡ leading (starts_by sector) xs = omega (arith, lead_told) in
        rw e (past_lead sector xs (drop s.to (items list)) around.behind)

    pub around-told :
        (g : ℕ) (t : Segment) (seg' : List ℕ) (r : Segment) (seg'' : List ℕ)
        → Behind g list s seg k t seg' → Before g list t seg' k r seg'' → Joining g sector list s seg r seg''
    around-told g t seg' r seg'' b f =
        record {
          same =
              f.same ∙ rw (b.from, b.front, b.rest) refl
              ∙ sym (ap (join_around g sector) parted ∙ around-law g sector before (built (item_at seg k)) behind before_at one_at behind-past);
          good = f.good;
          from = omega (arith, f.from, b.from);
          to = omega (arith, f.to, b.to);
          some = f.some;
          most = omega (arith, f.most, b.most);
          first = omega (arith, f.first, b.first);
        }

-- ---- what callers have of a join: the items around stay on their sides

pub joining_around : (g sector k : ℕ) (list : List ℕ) (s : Segment) (seg : List ℕ) (r : Segment) (seg' : List ℕ) → Joining g sector list s seg r seg' → Around k list s → Around k list r
joining_around g sector k list s seg r seg' j a =
    let t = j.to in
    let e : s.to + (r.to - s.to) ≡ r.to = omega arith in
    let d : drop (r.to - s.to) (drop s.to (items list)) ≡ drop r.to (items list) = drop-drop (r.to - s.to) s.to (items list) ∙ rw e refl in
    record {
      before = rw (take-take r.from s.from (items list) j.from) at (every_take (starts_by k) r.from (take s.from (items list)) a.before);
      behind = rw d at (every_drop (starts_past k) (r.to - s.to) (drop s.to (items list)) a.behind);
    }
