-- What the code says of a punch's sectors is what the definitions say. Assumes nothing.
use mathlib.Core.Path.{◌≡◌, refl, ap, ◌∙◌, sym}
use mathlib.Core.List.{List}
use mathlib.Core.Option.{none, some}
use Prim.Native.Nat.{ℕ}
use lib.ListN.{length}
use Rattle.std.specs.Prelude.{Option, Some, None, is_some}
use Rattle.item.specs.Items.{Fields}
use Rattle.cut_def.specs.Mappings.{holder}
use Rattle.ref_def.specs.Drops.{InLeaf, in_leaves}
use Rattle.ref_def.proofs.Drops.{leaves-items}
use Rattle.change_def.specs.Rewrites.{holder_of, when_held}
use Rattle.change_def.proofs.Rewrites.{holder-item}
use Rattle.change_rewrites.specs.declared.Holder.{Holder}
use Rattle.change_rewrites.specs.Raw.{holder_in}
use Rattle.punch_def.specs.Punch.{held_by}

-- whether a search finds an item
pub found_held :
    (o : ℕ) (fs : List Fields) (shared : List ℕ) (h : Option Holder) → length shared ≡ length fs → holder_in h ≡ holder_of o (in_leaves fs shared) → is_some h ≡ held_by (holder o fs)
found_held o fs shared h l e =
    let p : holder o fs ≡ when_held (holder_in h) none (λ (q : InLeaf). some q.item) = sym (ap (holder o) (leaves-items fs shared l)) ∙ holder-item o (in_leaves fs shared) ∙ rw (← e) refl in
    rw p (go h)
  where
    go : (h : Option Holder) → is_some h ≡ held_by (when_held (holder_in h) none (λ (q : InLeaf). some q.item))
    go (Some h) = refl
    go None = refl
