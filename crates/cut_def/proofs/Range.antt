-- `cut_range`, the leaf that the paper names, is what the pieces of a cut say. Assumes nothing.
use mathlib.Core.Path.{◌≡◌, refl, ap, ap₂, ◌∙◌, sym}
use mathlib.Core.Bool.{Bool, true, false, cond, ◌&&◌}
use mathlib.Core.List.{List, [], ◌∷◌, ◌++◌, flat_map}
use Prim.Native.Nat.{ℕ, ◌+◌, ◌-◌, ◌<◌, ◌≤◌, min, max}
use native.Mathlib.Omega.{arith}
use lib.Dec.{ltb}
use borrow.Author.Tests.{ltb-true, ltb-false, lt-ltb, le-ltb}
use Rattle.records.specs.Stages.{every}
use Rattle.records.proofs.Tests.{both_left, both_right}
use Rattle.item.specs.Items.{Fields, end}
use Rattle.cut_def.specs.Cuts.{front, back, cut, cut_range}
use Rattle.cut_def.specs.Pieces.{items_of, cut_pieces}
use Rattle.cut_def.proofs.Mappings.{left, items-cut}

-- a front of all, and a back of all
front_whole : (lo : ℕ) (f : Fields) → end f ≤ lo → front lo f ≡ f
front_whole lo f h = let n : min (end f) lo - f.key ≡ f.length = omega arith in rw n refl

back_whole : (hi : ℕ) (f : Fields) → hi ≤ f.key → back hi f ≡ f
back_whole hi f h =
    let m : max f.key hi ≡ f.key = omega arith in
    let p : f.position + (f.key - f.key) ≡ f.position = omega arith in
    let n : end f - f.key ≡ f.length = omega arith in
    rw m (rw (p, n) refl)

-- one item: what a cut does not touch stays
left_cut : (lo hi : ℕ) (f : Fields) → lo < hi → 0 < f.length → left lo hi f ≡ cut lo hi f
left_cut lo hi f h l = rw (lt-ltb lo hi h) (go (ltb lo (end f)) refl (ltb f.key hi) refl)
  where
    go : (a : Bool) → ltb lo (end f) ≡ a → (b : Bool) → ltb f.key hi ≡ b → cond (a && b) (cut lo hi f) (f ∷ []) ≡ cut lo hi f
    go true p true q = refl
    go true p false q =
        let k = ltb-false f.key hi q in
        rw (le-ltb f.key lo (omega arith), lt-ltb hi (end f) (omega arith)) (ap (λ (x : Fields). x ∷ []) (sym (back_whole hi f (omega arith))))
    go false p b q =
        let k = ltb-false lo (end f) p in
        rw (lt-ltb f.key lo (omega arith), le-ltb hi (end f) (omega arith)) (ap (λ (x : Fields). x ∷ []) (sym (front_whole lo f (omega arith))))

nothing-cut : (lo hi : ℕ) (fs : List Fields) → ltb lo hi ≡ false → items_of (cut_pieces lo hi fs) ≡ fs
nothing-cut lo hi [] e = unfold cut_pieces flat_map in refl
nothing-cut lo hi (f ∷ fs) e = items-cut lo hi f fs ∙ rw e (ap (λ (l : List Fields). f ∷ l) (nothing-cut lo hi fs e))

range-cut : (lo hi : ℕ) (fs : List Fields) → lo < hi → every (λ (f : Fields). ltb 0 f.length) fs ≡ true → items_of (cut_pieces lo hi fs) ≡ flat_map (cut lo hi) fs
unfolding every flat_map
range-cut lo hi [] h l = unfold cut_pieces in refl
range-cut lo hi (f ∷ fs) h l =
    items-cut lo hi f fs
    ∙ ap₂ (λ (x y : List Fields). x ++ y) (left_cut lo hi f h (ltb-true 0 f.length (both_left (ltb 0 f.length) _ l))) (range-cut lo hi fs h (both_right (ltb 0 f.length) _ l))

-- of items with lengths, as all of kinds 1 and 2 in a well_kept_lem list have
pub cut_range_lem : (lo hi : ℕ) (fs : List Fields) → every (λ (f : Fields). ltb 0 f.length) fs ≡ true → items_of (cut_pieces lo hi fs) ≡ cut_range lo hi fs
unfolding cut_range
cut_range_lem lo hi fs l = go (ltb lo hi) refl
  where
    go : (t : Bool) → ltb lo hi ≡ t → items_of (cut_pieces lo hi fs) ≡ cond t (flat_map (cut lo hi) fs) fs
    go true e = range-cut lo hi fs (ltb-true lo hi e) l
    go false e = nothing-cut lo hi fs e
