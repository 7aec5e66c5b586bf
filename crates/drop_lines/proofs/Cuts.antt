-- Which drops a cut without extents written in place has, or with one. Assumes nothing.
use mathlib.Core.Path.{◌≡◌, ap, ◌∙◌, sym}
use mathlib.Core.Bool.{Bool, ◌&&◌, not, and-true}
use mathlib.Core.List.{List, [], ◌∷◌}
use Prim.Native.Nat.{ℕ}
use Rattle.records.specs.Select.{keep, any}
use Rattle.records.proofs.Picks.{keep_same}
use Rattle.item.specs.Items.{Fields, hole}
use Rattle.cut_def.specs.Cuts.{covered}
use Rattle.ref_def.specs.Compared.{among}
use Rattle.ref_def.specs.Drops.{InLeaf, in_leaves}
use Rattle.ref_def.proofs.Among.{among_none}
use Rattle.drop_lines.specs.declared.Cut.{Cut}
use Rattle.drop_lines.specs.Dropped.{dropped, drops_in}

-- the drops of a cut, with the extents in any list that says the same
pub drops-among : (c : Cut) (extents : List ℕ) → ((f : Fields) → among extents f ≡ among (c.one ∷ c.two ∷ []) f) → (fs : List Fields) (bs : List ℕ)
    → keep (λ (h : InLeaf). covered c.lo c.hi h.item && (not (hole h.item) && not (among extents h.item))) (in_leaves fs bs) ≡ drops_in c fs bs
drops-among c extents e fs bs =
    keep_same (λ (h : InLeaf). covered c.lo c.hi h.item && (not (hole h.item) && not (among extents h.item))) (dropped c)
    (λ h. ap (λ (b : Bool). covered c.lo c.hi h.item && (not (hole h.item) && not b)) (e h.item)) (in_leaves fs bs)

-- without extents written in place
pub drops-plain : (lo hi : ℕ) (fs : List Fields) (bs : List ℕ) → keep (λ (h : InLeaf). covered lo hi h.item && not (hole h.item)) (in_leaves fs bs) ≡ drops_in (record { lo = lo; hi = hi; one = 0; two = 0 }) fs bs
unfolding any
drops-plain lo hi fs bs =
    keep_same (λ (h : InLeaf). covered lo hi h.item && not (hole h.item)) (dropped (record { lo = lo; hi = hi; one = 0; two = 0 }))
    (λ h. ap (λ (b : Bool). covered lo hi h.item && b) (sym (and-true (not (hole h.item))) ∙ ap (λ (b : Bool). not (hole h.item) && not b) (among_none h.item))) (in_leaves fs bs)
