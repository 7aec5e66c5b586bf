-- What a test picks from a list it picks from a part of it, if what stands before and behind the part does not pass. Assumes
-- nothing.
use mathlib.Core.Path.{◌≡◌, refl, ap, ◌∙◌, sym}
use mathlib.Core.Bool.{Bool, true, false, ◌&&◌, not}
use mathlib.Core.List.{List, [], ◌∷◌, append-nil}
use Prim.Native.Nat.{ℕ, zero, suc, ◌+◌, ◌-◌, ◌≤◌}
use native.Mathlib.Omega.{arith}
use lib.Dec.{leb, ltb}
use lib.ListN.{length, take, drop, take-append-drop, length-take, length-drop}
use lib.Seq.{drop-drop}
use borrow.Author.Tests.{ltb-true, lt-ltb}
use Rattle.records.specs.Stages.{every}
use Rattle.records.specs.Select.{keep}
use Rattle.records.proofs.Tests.{both, both_left, both_right, every_map}
use Rattle.records.proofs.Picks.{keep_append, keep-none}
use Rattle.item.specs.Items.{Fields, hole, end}
use Rattle.cut_def.specs.Cuts.{touched, covered, split}
use Rattle.std.specs.declared.ops.Range.{Range}
use Rattle.cut_segment.specs.Segments.{untouched, Touching}
use Rattle.ref_def.specs.Compared.{among}
use Rattle.ref_def.specs.Drops.{InLeaf, in_leaves}
use Rattle.drop_lines.specs.declared.Cut.{Cut}
use Rattle.cut_touched.specs.Parts.{part, TouchedPart}
use Rattle.drop_lines.specs.Dropped.{taken, dropped, drops_in}

-- ---- general

module _ {A : Type 0} (p : A → Bool) (l : List A) (a b : ℕ) (h : a ≤ b) where
  pub keep-part : every (λ (x : A). not (p x)) (take a l) ≡ true → every (λ (x : A). not (p x)) (drop b l) ≡ true → keep p (part a b l) ≡ keep p l
  keep-part before behind =
      let e : a + (b - a) ≡ b = omega arith in
      let d : drop (b - a) (drop a l) ≡ drop b l = drop-drop (b - a) a l ∙ rw e refl in
      let m : keep p (drop a l) ≡ keep p (part a b l) =
      ap (keep p) (sym (take-append-drop (b - a) (drop a l))) ∙ keep_append p (part a b l) (drop (b - a) (drop a l)) ∙ rw (d, keep-none p (drop b l) behind, append-nil) refl in
      sym (ap (keep p) (sym (take-append-drop a l)) ∙ keep_append p (take a l) (drop a l) ∙ rw (keep-none p (take a l) before) m)

-- ---- items with their shared bytes

leaves_none : (fs : List Fields) → in_leaves fs [] ≡ []
unfolding in_leaves
leaves_none [] = refl
leaves_none (f ∷ fs) = refl

leaves-take : (n : ℕ) (fs : List Fields) (bs : List ℕ) → in_leaves (take n fs) (take n bs) ≡ take n (in_leaves fs bs)
unfolding in_leaves
leaves-take zero fs bs = refl
leaves-take (suc n) [] bs = refl
leaves-take (suc n) (f ∷ fs) [] = refl
leaves-take (suc n) (f ∷ fs) (b ∷ bs) = ap (λ (hs : List InLeaf). record { item = f; shared = b } ∷ hs) (leaves-take n fs bs)

leaves-drop : (n : ℕ) (fs : List Fields) (bs : List ℕ) → in_leaves (drop n fs) (drop n bs) ≡ drop n (in_leaves fs bs)
unfolding in_leaves
leaves-drop zero fs bs = refl
leaves-drop (suc n) [] bs = refl
leaves-drop (suc n) (f ∷ fs) [] = leaves_none (drop n fs)
leaves-drop (suc n) (f ∷ fs) (b ∷ bs) = leaves-drop n fs bs

leaves-every : (u : Fields → Bool) (fs : List Fields) (bs : List ℕ) → every u fs ≡ true → every (λ (h : InLeaf). u h.item) (in_leaves fs bs) ≡ true
unfolding in_leaves every
leaves-every u [] bs e = refl
leaves-every u (f ∷ fs) [] e = refl
leaves-every u (f ∷ fs) (b ∷ bs) e =
    both (u f) (every (λ (h : InLeaf). u h.item) (in_leaves fs bs)) (both_left (u f) (every u fs) e) (leaves-every u fs bs (both_right (u f) (every u fs) e))

-- ---- what a cut does not touch it neither drops nor splits

module _ (lo hi : ℕ) (f : Fields) where
  split-touched : split lo hi f ≡ true → touched lo hi f ≡ true
  split-touched e =
      let r = both_right (ltb lo hi) ((ltb f.key lo && ltb hi (end f)) && not (hole f)) e in
      let s = both_left (ltb f.key lo && ltb hi (end f)) (not (hole f)) r in
      let some = ltb-true lo hi (both_left (ltb lo hi) ((ltb f.key lo && ltb hi (end f)) && not (hole f)) e) in
      let low = ltb-true f.key lo (both_left (ltb f.key lo) (ltb hi (end f)) s) in
      let high = ltb-true hi (end f) (both_right (ltb f.key lo) (ltb hi (end f)) s) in
      both (ltb lo hi) (ltb lo (end f) && ltb f.key hi) (lt-ltb lo hi some) (both (ltb lo (end f)) (ltb f.key hi) (lt-ltb lo (end f) (omega arith)) (lt-ltb f.key hi (omega arith)))

taken-touched : (k : Cut) (f : Fields) → taken k f ≡ true → touched k.lo k.hi f ≡ true
taken-touched k f e =
    let c = both_left (covered k.lo k.hi f) (not (hole f) && not (among (k.one ∷ k.two ∷ []) f)) e in
    both_left (touched k.lo k.hi f) (leb k.lo f.key && leb (end f) k.hi) c

-- what implies b does not hold where b does not
unmet : (a b : Bool) → (a ≡ true → b ≡ true) → not b ≡ true → not a ≡ true
unmet true true h e = e
unmet true false h e = h refl
unmet false b h e = refl

-- ---- the touched part of a list

module _ (lo hi : ℕ) (fs : List Fields) (s : Range ℕ) (t : Touching lo hi fs s) where
  pub part_splits : keep (split lo hi) (part s.start s.end fs) ≡ keep (split lo hi) fs
  part_splits =
      let m : (f : Fields) → untouched lo hi f ≡ true → not (split lo hi f) ≡ true = λ f e. unmet (split lo hi f) (touched lo hi f) (split-touched lo hi f) e in
      keep-part (split lo hi) fs s.start s.end t.order
      (every_map (untouched lo hi) (λ (f : Fields). not (split lo hi f)) m (take s.start fs) t.before)
      (every_map (untouched lo hi) (λ (f : Fields). not (split lo hi f)) m (drop s.end fs) t.behind)

-- one shared byte a record
pub part_sized : (fs : List Fields) (s : Range ℕ) (bs : List ℕ) → length bs ≡ length fs → length (part s.start s.end bs) ≡ length (part s.start s.end fs)
part_sized fs s bs e = simp (length-take, length-drop) (omega arith)

module _ (k : Cut) (fs : List Fields) (s : Range ℕ) (t : Touching k.lo k.hi fs s) where
  pub part-drops : (bs : List ℕ) → drops_in k (part s.start s.end fs) (part s.start s.end bs) ≡ drops_in k fs bs
  part-drops bs =
      let u : InLeaf → Bool = λ h. untouched k.lo k.hi h.item in
      let m : (h : InLeaf) → untouched k.lo k.hi h.item ≡ true → not (dropped k h) ≡ true = λ h e. unmet (dropped k h) (touched k.lo k.hi h.item) (taken-touched k h.item) e in
      let e : in_leaves (part s.start s.end fs) (part s.start s.end bs) ≡ part s.start s.end (in_leaves fs bs) =
      leaves-take (s.end - s.start) (drop s.start fs) (drop s.start bs) ∙ ap (take (s.end - s.start)) (leaves-drop s.start fs bs) in
      ap (keep (dropped k)) e
      ∙ keep-part (dropped k) (in_leaves fs bs) s.start s.end t.order
      (every_map (λ (h : InLeaf). untouched k.lo k.hi h.item) (λ (h : InLeaf). not (dropped k h)) m (take s.start (in_leaves fs bs))
      (rw leaves-take at (leaves-every (untouched k.lo k.hi) (take s.start fs) (take s.start bs) t.before)))
      (every_map (λ (h : InLeaf). untouched k.lo k.hi h.item) (λ (h : InLeaf). not (dropped k h)) m (drop s.end (in_leaves fs bs))
      (rw leaves-drop at (leaves-every (untouched k.lo k.hi) (drop s.end fs) (drop s.end bs) t.behind)))

-- ---- the same of what `touched_part` gives

module _ (lo hi : ℕ) (fs gs : List Fields) (p : TouchedPart lo hi fs gs) where
  pub touched_splits : keep (split lo hi) gs ≡ keep (split lo hi) fs
  touched_splits = ap (keep (split lo hi)) p.those ∙ part_splits lo hi fs p.range p.all

-- a refusal of the part's drops is one of all
pub touched-drops :
    (k : Cut) (fs gs : List Fields) → TouchedPart k.lo k.hi fs gs → (f : List InLeaf → ℕ) (r : ℕ)
    → ((bs : List ℕ) → length bs ≡ length gs → r ≡ f (drops_in k gs bs)) → (bs : List ℕ) → length bs ≡ length fs → r ≡ f (drops_in k fs bs)
touched-drops k fs gs p f r h bs e =
    let s = p.range in
    let n : length (part s.start s.end bs) ≡ length gs = part_sized fs s bs e ∙ ap length (sym p.those) in
    h (part s.start s.end bs) n ∙ ap (λ (l : List Fields). f (drops_in k l (part s.start s.end bs))) p.those ∙ ap f (part-drops k fs s p.all bs)
