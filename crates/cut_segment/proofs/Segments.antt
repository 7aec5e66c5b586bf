-- A cut's segment, from what the calls of the code give. Assumes nothing.
use mathlib.Core.Path.{◌≡◌, refl, ap, ◌∙◌, sym}
use mathlib.Core.Bool.{Bool, true, false, cond}
use mathlib.Core.List.{List, [], ◌∷◌, ◌++◌, append_assoc}
use Prim.Native.Nat.{ℕ, zero, suc, ◌+◌, ◌-◌, ◌^◌, ◌≤◌, ◌<◌}
use Rattle.std.specs.declared.ops.Range.{Range}
use Rattle.std.proofs.Common.{inl, inr}
use Rattle.std.proofs.lemmas.Bool.{cases_lt}
use native.Mathlib.Omega.{arith}
use native.Mathlib.Nat.{add-zero}
use lib.Dec.{ltb}
use lib.ListN.{length, get_or, take, drop, length-drop, length-append}
use lib.Seq.{drop-drop, get_or-drop}
use borrow.Author.Tests.{leb-true, leb-false, ltb-true, le-leb, lt-ltb}
use Rattle.records.specs.Stages.{every}
use Rattle.records.specs.Select.{only}
use Rattle.records.proofs.Tests.{both, every_map}
use Rattle.records.proofs.Lists.{every_append}
use Rattle.item.specs.Items.{Fields, ranged, items, end}
use Rattle.cut_def.specs.Cuts.{front, back}
use Rattle.cut_def.specs.Pieces.{cut_pieces}
use Rattle.cut_def.specs.Raw.{replaced}
use Rattle.lists.specs.Lists.{list_kept}
use Rattle.lists.proofs.Laws.{kept}
use Rattle.cut_def.proofs.Kept.{From, kept_from}
use Rattle.cut_segment.specs.Segments.{nothing, item_at, leading, ends_by, starts_by, starts_past, bounded, Runs, Added, Around, Touching, Cutting}
use Rattle.cut_segment.proofs.Buffer.{added-few}
use Rattle.cut_segment.proofs.Halves.{leading-on}
use Rattle.cut_segment.proofs.Cutting.{leading-most, every-leading, cut_empty, cut_whole, leaves}

-- ---- items that run one behind the other

-- a well_kept_lem list of kinds 1 and 2 is one
from-runs : (file b : ℕ) (fs : List Fields) → From file b fs → Runs b fs
from-runs file b [] h = tt
from-runs file b (f ∷ fs) h = (h.0, h.1.range.some, h.1.range.ends, h.1.range.fits, from-runs file (end f) fs h.2)

pub kept-runs : (file : ℕ) (fs : List Fields) → list_kept file fs ≡ true → every ranged fs ≡ true → Runs 0 fs
kept-runs file fs h r = from-runs file 0 fs (kept_from file fs (kept file fs h) r)

runs-zero : (b : ℕ) (fs : List Fields) → Runs b fs → Runs 0 fs
runs-zero b [] r = tt
runs-zero b (f ∷ fs) r = (omega arith, r.1, r.2, r.3, r.4)

runs-drop : (n b : ℕ) (fs : List Fields) → Runs b fs → Runs 0 (drop n fs)
runs-drop zero b fs r = runs-zero b fs r
runs-drop (suc n) b [] r = tt
runs-drop (suc n) b (f ∷ fs) r = runs-drop n (end f) fs r.4

runs_past : (k b : ℕ) (fs : List Fields) → Runs b fs → k < b → every (starts_past k) fs ≡ true
unfolding every
runs_past k b [] r h = refl
runs_past k b (f ∷ fs) r h = both (starts_past k f) (every (starts_past k) fs) (lt-ltb k f.key (omega (arith, r.0))) (runs_past k (end f) fs r.4 (omega (arith, r.0)))

pub runs-bounded : (b : ℕ) (fs : List Fields) → Runs b fs → every bounded fs ≡ true
unfolding every
runs-bounded b [] r = refl
runs-bounded b (f ∷ fs) r = both (bounded f) (every bounded fs) (le-leb (end f) (2 ^ 63) r.2) (runs-bounded (end f) fs r.4)

runs-at : (b : ℕ) (fs : List Fields) (i : ℕ) → Runs b fs → i < length fs → (end (get_or fs i nothing) ≤ 2 ^ 63) × ((get_or fs i nothing).position + (get_or fs i nothing).length < 2 ^ 64)
runs-at b [] i r h = absurd (omega arith)
runs-at b (f ∷ fs) zero r h = (r.2, r.3)
runs-at b (f ∷ fs) (suc i) r h = runs-at (end f) fs i r.4 (omega arith)

pub runs-item : (list : List ℕ) (i : ℕ) (x : Fields) → Runs 0 (items list) → i < length (items list) → x ≡ item_at list i → (end x ≤ 2 ^ 63) × (x.position + x.length < 2 ^ 64)
runs-item list i x r h e = rw e (runs-at 0 (items list) i r h)

-- behind the leading ones that start at most at j, all start past k ≤ j
pub past-leading : (j k b : ℕ) (fs : List Fields) → Runs b fs → k ≤ j → every (starts_past k) (drop (leading (starts_by j) fs) fs) ≡ true
unfolding leading
past-leading j k b [] r h = unfold every in refl
past-leading j k b (f ∷ fs) r h = go (starts_by j f) refl (past-leading j k (end f) fs r.4 h)
  where
    go : (t : Bool) → starts_by j f ≡ t → every (starts_past k) (drop (leading (starts_by j) fs) fs) ≡ true → every (starts_past k) (drop (cond t (suc (leading (starts_by j) fs)) 0) (f ∷ fs)) ≡ true
    go true e ih = ih
    go false e ih = let l = leb-false f.key j e in runs_past k f.key (f ∷ fs) (omega arith, r.1, r.2, r.3, r.4) (omega arith)

-- ---- a cut, from what the calls of the code give

every-only : (p : Fields → Bool) (t : Bool) (f : Fields) → (t ≡ true → p f ≡ true) → every p (only t f) ≡ true
unfolding every
every-only p true f h = both (p f) true (h refl) refl
every-only p false f h = refl

-- what is behind n records and then behind those
added_both : (n m k : ℕ) (xs ys : List Fields) (s s' s'' : List ℕ) → Added n xs s m s' → Added m ys s' k s'' → Added n (xs ++ ys) s k s''
added_both n m k xs ys s s' s'' p q =
    record {
      many = rw length-append (omega (arith, p.many, q.many));
      those = q.those ∙ rw p.those (append_assoc (take n (items s)) xs ys);
    }

-- no item, in place of none
cut-nothing : (lo hi : ℕ) (list seg : List ℕ) → hi ≤ lo → Runs 0 (items list) → Cutting lo hi list (record { from = 0; to = 0; count = 0 }) seg
unfolding every
cut-nothing lo hi list seg h r =
    record {
      same = sym (cut_empty lo hi h (items list));
      few = omega arith;
      good = record { order = omega arith; inside = omega arith; room = omega arith; sound = runs-bounded 0 (items list) r; small = refl };
      around = λ k p q. absurd (omega arith);
    }

module _ (lo hi : ℕ) (list : List ℕ) (from to : ℕ) (some : lo < hi) (r : Runs 0 (items list))
    (hf : from ≡ leading (ends_by lo) (items list))
    (ht : to ≡ leading (starts_by (hi - 1)) (items list)) where
  to-told : to ≡ from + leading (starts_by (hi - 1)) (drop from (items list))
  to-told = ht ∙ rw hf (leading-on (ends_by lo) (starts_by (hi - 1)) (λ f e. le-leb f.key (hi - 1) (omega (arith, leb-true (end f) lo e))) (items list))

  whole : cut_pieces lo hi (items list) ≡ replaced (items list) from to (leaves lo hi some (drop from (items list)) (to - from))
  whole =
      let c = cut_whole lo hi some 0 (items list) r in
      let k : leading (starts_by (hi - 1)) (drop from (items list)) ≡ to - from = omega (arith, to-told) in
      let e : from + (to - from) ≡ to = omega (arith, to-told) in
      rw e at (rw k at (rw (← hf) at c))

  from-most : from ≤ length (items list)
  from-most = omega (arith, leading-most (ends_by lo) (items list))

  from-to : from ≤ to
  from-to = omega (arith, to-told)

  to-most : to ≤ length (items list)
  to-most =
      let l : length (drop from (items list)) ≡ length (items list) - from = length-drop from (items list) in
      omega (arith, from-most, to-told, leading-most (starts_by (hi - 1)) (drop from (items list)))

  cut_around : (n k : ℕ) → lo ≤ k → k < hi → Around k list (record { from = from; to = to; count = n })
  cut_around n k p q =
      let b = every-leading (ends_by lo) (items list) in
      let m : (f : Fields) → ends_by lo f ≡ true → starts_by k f ≡ true = λ f e. (let l = leb-true (end f) lo e in le-leb f.key k (omega arith)) in
      let d = past-leading (hi - 1) k 0 (drop from (items list)) (runs-drop from 0 (items list) r) (omega arith) in
      record {
        before = rw hf (every_map (ends_by lo) (starts_by k) m (take (leading (ends_by lo) (items list)) (items list)) b);
        behind = rw (to-told, ← drop-drop (leading (starts_by (hi - 1)) (drop from (items list))) from (items list)) d;
      }

  -- where none is touched
  pub cut-none : (seg : List ℕ) → from ≡ to → Cutting lo hi list (record { from = from; to = to; count = 0 }) seg
  unfolding every
  cut-none seg e =
      let z : to - from ≡ 0 = omega arith in
      record {
        same = sym (rw z at whole);
        few = omega arith;
        good = record { order = from-to; inside = to-most; room = omega arith; sound = runs-bounded 0 (items list) r; small = refl };
        around = cut_around 0;
      }

  -- the first that is touched, and the last
  module _ (x y : Fields) (lt : from < to) (hx : x ≡ item_at list from) (hy : y ≡ item_at list (to - 1)) where
    leaves-told : leaves lo hi some (drop from (items list)) (to - from) ≡ only (ltb x.key lo) (front lo x) ++ only (ltb hi (end y)) (back hi y)
    leaves-told =
        let e : to - from ≡ suc (to - 1 - from) = omega arith in
        let i : from + (to - 1 - from) ≡ to - 1 = omega arith in
        let a : get_or (drop from (items list)) 0 nothing ≡ x = get_or-drop from (items list) 0 nothing ∙ rw add-zero (sym hx) in
        let b : get_or (drop from (items list)) (to - 1 - from) nothing ≡ y = get_or-drop from (items list) (to - 1 - from) nothing ∙ rw i (sym hy) in
        rw (e, a, b) refl

    pub cut-some :
        (n m : ℕ) (s s' s'' : List ℕ)
        → Added 0 (only (ltb x.key lo) (front lo x)) s n s'
        → Added n (only (ltb hi (end y)) (back hi y)) s' m s''
        → 2 ≤ length (items s'')
        → Cutting lo hi list (record { from = from; to = to; count = m }) s''
    cut-some n m s s' s'' p q h =
        let u = runs-item list from x r (omega (arith, to-most)) hx in
        let v = runs-item list (to - 1) y r (omega (arith, to-most)) hy in
        let f : m ≤ 2 = omega (arith, added-few (ltb x.key lo) 0 n (front lo x) s s' p, added-few (ltb hi (end y)) n m (back hi y) s' s'' q) in
        let t : take m (items s'') ≡ only (ltb x.key lo) (front lo x) ++ only (ltb hi (end y)) (back hi y) = (added_both 0 n m _ _ s s' s'' p q).those in
        record {
          same = sym (whole ∙ ap (replaced (items list) from to) (leaves-told ∙ sym t));
          few = f;
          good =
              record {
                order = from-to;
                inside = to-most;
                room = omega arith;
                sound = runs-bounded 0 (items list) r;
                small =
                    rw t
                    (every_append bounded (only (ltb x.key lo) (front lo x)) (only (ltb hi (end y)) (back hi y))
                    (every-only bounded (ltb x.key lo) (front lo x) (λ e. le-leb (end (front lo x)) (2 ^ 63) (omega (arith, u.0))))
                    (every-only bounded (ltb hi (end y)) (back hi y) (λ e. le-leb (end (back hi y)) (2 ^ 63) (omega (arith, v.0, ltb-true hi (end y) e)))));
              };
          around = cut_around m;
        }

-- ---- the same, from what `touched` gives

module _ (lo hi : ℕ) (list : List ℕ) (found : Range ℕ) (r : Runs 0 (items list)) (t : Touching lo hi (items list) found) where
  pub cut-untouched : (seg : List ℕ) → found.start ≡ found.end → Cutting lo hi list (record { from = found.start; to = found.end; count = 0 }) seg
  cut-untouched seg e =
      elim (cases_lt lo hi) [
        | inl some ↦ cut-none lo hi list found.start found.end some r (t.first some) (t.last some) seg e
        | inr none ↦ rw ((t.none none).0, (t.none none).1) (cut-nothing lo hi list seg none r)
      ]

  -- where records are touched the range is not empty
  pub cut-range : found.start < found.end → lo < hi
  cut-range h = elim (cases_lt lo hi) [ inl some ↦ some | inr none ↦ absurd (omega (arith, (t.none none).1)) ]
