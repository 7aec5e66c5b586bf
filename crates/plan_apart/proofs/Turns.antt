-- What a test of each two neighbours says. Assumes nothing.
use mathlib.Core.Path.{◌≡◌, refl, ◌∙◌, sym}
use mathlib.Core.Bool.{Bool, true, false, false≢true}
use mathlib.Core.List.{List, [], ◌∷◌}
use Prim.Native.Nat.{ℕ, zero, suc, ◌+◌, ◌<◌}
use native.Mathlib.Omega.{arith}
use native.Mathlib.Numerals.{add-one}
use lib.ListN.{length, get_or}
use Rattle.std.specs.List.{AllAdjacentBelow, IsAllAdjacentAnswer}
use Rattle.records.specs.Stages.{neighbours}
use Rattle.records.proofs.Tests.{both, both_left, both_right, never}
use Rattle.ref_sort.specs.Order.{pair_ref, pair_refs}
use Rattle.plan_apart.specs.Spacing.{ends_by}

-- an extent ends at most where another starts
abbrev pub ends : ℕ × ℕ → ℕ × ℕ → Bool
ends a b = ends_by (pair_ref a) (pair_ref b)

all-spaced : (l : List (ℕ × ℕ)) → AllAdjacentBelow (λ a b. true ≡ ends a b) l (length l) → neighbours ends_by (pair_refs l) ≡ true
unfolding neighbours
all-spaced [] h = refl
all-spaced (a ∷ []) h = refl
all-spaced (a ∷ (b ∷ l)) h =
    let t : AllAdjacentBelow (λ a b. true ≡ ends a b) (b ∷ l) (length (b ∷ l)) = λ k d j. rw add-one (rw add-one at (h (suc k) d (omega arith))) in
    both (ends a b) (neighbours ends_by (pair_refs (b ∷ l))) (sym (h 0 a (omega arith))) (all-spaced (b ∷ l) t)

spaced_at : (l : List (ℕ × ℕ)) (k : ℕ) (d : ℕ × ℕ) → neighbours ends_by (pair_refs l) ≡ true → k + 1 < length l → ends (get_or l k d) (get_or l (k + 1) d) ≡ true
unfolding neighbours
spaced_at [] k d h j = absurd (omega arith)
spaced_at (a ∷ []) k d h j = absurd (omega arith)
spaced_at (a ∷ (b ∷ l)) zero d h j = both_left (ends a b) (neighbours ends_by (pair_refs (b ∷ l))) h
spaced_at (a ∷ (b ∷ l)) (suc k) d h j = rw add-one (rw add-one at (spaced_at (b ∷ l) k d (both_right (ends a b) (neighbours ends_by (pair_refs (b ∷ l))) h) (omega arith)))

-- so the answer of a test of all neighbours is the definition's
pub spaced-is : (l : List (ℕ × ℕ)) (r : Bool) → IsAllAdjacentAnswer (λ a b t. t ≡ ends a b) l r → r ≡ neighbours ends_by (pair_refs l)
spaced-is l true h = sym (all-spaced l h)
spaced-is l false h =
    sym (never (neighbours ends_by (pair_refs l)) (λ e. false≢true (h.2 (0, 0) ∙ spaced_at l h.0 (0, 0) e h.1)))
