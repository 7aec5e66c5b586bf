-- The edits by cases of the first old and the first new item, where both lists rise. Assumes nothing.
use mathlib.Core.Path.{◌≡◌, refl, ◌∙◌, sym}
use mathlib.Core.Bool.{Bool, true, false, cond}
use mathlib.Core.List.{List, [], ◌∷◌, map}
use Prim.Native.Nat.{◌<◌, ◌≤◌}
use Rattle.std.specs.Prelude.{Some}
use native.Mathlib.Omega.{arith}
use lib.Dec.{eqb}
use borrow.Author.Tests.{ltb-true, ltb-false, lt-ltb, eqb-true, eqb-false}
use Rattle.records.specs.Stages.{every, pairs}
use Rattle.records.proofs.Tests.{both, both_left, every_map}
use Rattle.records.proofs.Lists.{every-mapped}
use Rattle.item.specs.Items.{Fields}
use Rattle.lists.specs.Lists.{rises}
use Rattle.cut_def.specs.Pieces.{Piece, built, items_of}
use Rattle.cut_def.specs.Edits.{put, delete, edits}
use Rattle.cut_def.proofs.Cases.{over, edits-gone, edits-first, edits-same}
use Rattle.edit_merge.specs.Merge.{gone, behind}

rises-from : (f g : Fields) (l : List Fields) → g.key ≤ f.key → every (rises f) l ≡ true → every (rises g) l ≡ true
rises-from f g l h e = every_map (rises f) (rises g) (λ x r. let t = ltb-true f.key x.key r in lt-ltb g.key x.key (omega arith)) l e

-- pieces past an item, as a test of their items
pub pieces-over : (f : Fields) (ps : List Piece) → every (rises f) (items_of ps) ≡ true → every (over f.key) ps ≡ true
pieces-over f ps h = sym (every-mapped (rises f) (λ (p : Piece). p.item) ps) ∙ h

-- new items past an old one
pub made_over : (f : Fields) (gs : List Fields) → every (rises f) gs ≡ true → every (over f.key) (map built gs) ≡ true
made_over f gs h = rw (every-mapped (over f.key) built gs) h

pub merge_gone : (f : Fields) (fs : List Fields) (g : Fields) (ps : List Piece) → gone (Some g.key) (f ∷ fs) ≡ true → pairs rises (items_of (built g ∷ ps)) ≡ true → edits (f ∷ fs) (built g ∷ ps) ≡ delete f.key ∷ edits fs (built g ∷ ps)
unfolding pairs every
merge_gone f fs g ps h r =
    let l = ltb-true f.key g.key h in
    edits-gone f fs (built g ∷ ps) (pieces-over f (built g ∷ ps) (both (rises f g) (every (rises f) (items_of ps)) h (rises-from g f (items_of ps) (omega arith) (both_left (every (rises g) (items_of ps)) (pairs rises (items_of ps)) r))))

pub merge_put : (fs : List Fields) (g : Fields) (ps : List Piece) → gone (Some g.key) fs ≡ false → pairs rises fs ≡ true → pairs rises (items_of (built g ∷ ps)) ≡ true → edits fs (built g ∷ ps) ≡ put g ∷ edits (behind g.key fs) ps
unfolding pairs every
merge_put [] g ps h u v = edits-first [] (built g) ps refl
merge_put (f ∷ fs) g ps h u v = go (eqb f.key g.key) refl
  where
    k : g.key ≤ f.key
    k = ltb-false f.key g.key h

    behind_f : every (rises f) fs ≡ true
    behind_f = both_left (every (rises f) fs) (pairs rises fs) u

    behind_g : every (rises g) (items_of ps) ≡ true
    behind_g = both_left (every (rises g) (items_of ps)) (pairs rises (items_of ps)) v

    go : (b : Bool) → eqb f.key g.key ≡ b → edits (f ∷ fs) (built g ∷ ps) ≡ put g ∷ edits (cond b fs (f ∷ fs)) ps
    go true e =
        let q = eqb-true f.key g.key e in
        edits-same f fs (built g) ps q (pieces-over f ps (rises-from g f (items_of ps) (omega arith) behind_g))
        ∙ edits-first fs (built g) ps (rises-from f g fs (omega arith) behind_f)
    go false e =
        let l : g.key < f.key = let q = eqb-false f.key g.key e in omega (arith, k) in
        edits-first (f ∷ fs) (built g) ps (both (rises g f) (every (rises g) fs) (lt-ltb g.key f.key l) (rises-from f g fs (omega arith) behind_f))
