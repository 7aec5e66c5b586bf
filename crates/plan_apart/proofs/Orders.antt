-- A test of every two that does not ask which comes first is the same in every order, so in the sorted one. Assumes nothing.
use mathlib.Core.Path.{◌≡◌, refl, ap, ap₂, ◌∙◌}
use mathlib.Core.Bool.{Bool, true, false, cond, ◌&&◌}
use mathlib.Core.List.{List, [], ◌∷◌}
use Rattle.records.specs.Stages.{every, pairs}
use Rattle.cut_def.specs.Refs.{Ref}
use Rattle.ref_def.specs.Compared.{ref_before, insert_ref, sorted}
use Rattle.ref_sort.proofs.Unique.{sorted-every}

-- tests change places
swap_heads : (a b c : Bool) → (a && (b && c)) ≡ (b && (a && c))
swap_heads true b c = refl
swap_heads false true c = refl
swap_heads false false c = refl

swap_inner : (a b c d : Bool) → ((a && b) && (c && d)) ≡ ((a && c) && (b && d))
swap_inner true b c d = swap_heads b c d
swap_inner false b c d = refl

insert-every : (p : Ref → Bool) (r : Ref) (rs : List Ref) → every p (insert_ref r rs) ≡ (p r && every p rs)
unfolding every insert_ref
insert-every p r [] = refl
insert-every p r (q ∷ qs) = go (ref_before q r) (insert-every p r qs)
  where
    go : (b : Bool) → every p (insert_ref r qs) ≡ (p r && every p qs) → every p (cond b (q ∷ insert_ref r qs) (r ∷ q ∷ qs)) ≡ (p r && (p q && every p qs))
    go true h = ap (λ (x : Bool). p q && x) h ∙ swap_heads (p q) (p r) (every p qs)
    go false h = refl

module _ (p : Ref → Ref → Bool) (symmetric : (r q : Ref) → p r q ≡ p q r) where
  insert-pairs : (r : Ref) (rs : List Ref) → pairs p (insert_ref r rs) ≡ (every (p r) rs && pairs p rs)
  unfolding every pairs insert_ref
  insert-pairs r [] = refl
  insert-pairs r (q ∷ qs) = go (ref_before q r) (insert-pairs r qs)
    where
      go : (b : Bool) → pairs p (insert_ref r qs) ≡ (every (p r) qs && pairs p qs)
          → pairs p (cond b (q ∷ insert_ref r qs) (r ∷ q ∷ qs)) ≡ ((p r q && every (p r) qs) && (every (p q) qs && pairs p qs))
      go true h =
          ap₂ (λ (x y : Bool). x && y) (insert-every (p q) r qs ∙ ap (λ (x : Bool). x && every (p q) qs) (symmetric q r)) h
          ∙ swap_inner (p r q) (every (p q) qs) (every (p r) qs) (pairs p qs)
      go false h = refl

  pub sorted-pairs : (rs : List Ref) → pairs p (sorted rs) ≡ pairs p rs
  unfolding pairs sorted
  sorted-pairs [] = refl
  sorted-pairs (r ∷ rs) = insert-pairs r (sorted rs) ∙ ap₂ (λ (x y : Bool). x && y) (sorted-every (p r) rs) (sorted-pairs rs)
