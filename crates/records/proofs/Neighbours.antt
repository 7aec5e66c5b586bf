-- The library's test of each two neighbours is the definition's. Assumes nothing.
use mathlib.Core.Path.{◌≡◌, refl, ap, ◌∙◌, sym}
use mathlib.Core.Bool.{Bool, true, false, ◌&&◌, false≢true}
use mathlib.Core.List.{List, [], ◌∷◌, map}
use Prim.Native.Nat.{ℕ, zero, suc, ◌+◌, ◌<◌}
use native.Mathlib.Omega.{arith}
use native.Mathlib.Numerals.{add-one}
use lib.ListN.{length, get_or}
use Rattle.std.specs.List.{AllAdjacentBelow, IsAllAdjacentAnswer}
use Rattle.records.specs.Stages.{neighbours}
use Rattle.records.proofs.Tests.{both, both_left, both_right, never}

module _ {A : Type 0} (p : A → A → Bool) where
  all_near : (l : List A) → AllAdjacentBelow (λ a b. true ≡ p a b) l (length l) → neighbours p l ≡ true
  unfolding neighbours
  all_near [] h = refl
  all_near (a ∷ []) h = refl
  all_near (a ∷ (b ∷ l)) h =
      let t : AllAdjacentBelow (λ a b. true ≡ p a b) (b ∷ l) (length (b ∷ l)) = λ k d j. rw add-one (rw add-one at (h (suc k) d (omega arith))) in
      both (p a b) (neighbours p (b ∷ l)) (sym (h 0 a (omega arith))) (all_near (b ∷ l) t)

  near_at : (l : List A) (k : ℕ) (d : A) → neighbours p l ≡ true → k + 1 < length l → p (get_or l k d) (get_or l (k + 1) d) ≡ true
  unfolding neighbours
  near_at [] k d h j = absurd (omega arith)
  near_at (a ∷ []) k d h j = absurd (omega arith)
  near_at (a ∷ (b ∷ l)) zero d h j = both_left (p a b) (neighbours p (b ∷ l)) h
  near_at (a ∷ (b ∷ l)) (suc k) d h j = rw add-one (rw add-one at (near_at (b ∷ l) k d (both_right (p a b) (neighbours p (b ∷ l)) h) (omega arith)))

  pub neighbours-is : (l : List A) (r : Bool) → IsAllAdjacentAnswer (λ a b t. t ≡ p a b) l r → r ≡ neighbours p l
  neighbours-is l true h = sym (all_near l h)
  neighbours-is [] false h = absurd (omega (arith, h.1))
  neighbours-is (a ∷ l) false h = sym (never (neighbours p (a ∷ l)) (λ e. false≢true (h.2 a ∙ near_at (a ∷ l) h.0 a e h.1)))

pub neighbours-mapped : {A B : Type 0} (p : B → B → Bool) (f : A → B) (l : List A) → neighbours p (map f l) ≡ neighbours (λ (a b : A). p (f a) (f b)) l
unfolding neighbours
neighbours-mapped p f [] = refl
neighbours-mapped p f (a ∷ []) = refl
neighbours-mapped p f (a ∷ (b ∷ l)) = ap (λ (t : Bool). p (f a) (f b) && t) (neighbours-mapped p f (b ∷ l))
