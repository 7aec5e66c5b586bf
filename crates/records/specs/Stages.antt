-- Tests over all records, and refusals: a stage is 0 or the number of a refusal, and the first that is not 0 counts
-- (document 01, "When a plan is refused").
use Rattle.std.specs.Prelude.{Bool, true, cond, ◌&&◌, List, [], ◌∷◌, ℕ, zero, suc}

-- n unless b holds: a test with the number of its refusal
abbrev pub unless : Bool → ℕ → ℕ
unless b n = cond b 0 n

-- n when b holds
abbrev pub whenever : Bool → ℕ → ℕ
whenever b n = cond b n 0

-- the first of two stages that is not 0
unfoldable pub first : ℕ → ℕ → ℕ
first zero y = y
first (suc x) y = suc x

-- the first of several
unfoldable pub first_of : List ℕ → ℕ
first_of [] = 0
first_of (x ∷ xs) = first x (first_of xs)

module _ {A : Type 0} where
  -- the first refusal, record by record
  unfoldable pub stage : (A → ℕ) → List A → ℕ
  stage f [] = 0
  stage f (r ∷ rs) = first (f r) (stage f rs)

  -- every record passes
  unfoldable pub every : (A → Bool) → List A → Bool
  every p [] = true
  every p (r ∷ rs) = p r && every p rs

  -- every two records pass, an earlier one first
  unfoldable pub pairs : (A → A → Bool) → List A → Bool
  pairs p [] = true
  pairs p (r ∷ rs) = every (p r) rs && pairs p rs

  -- every two neighbours pass
  unfoldable pub neighbours : (A → A → Bool) → List A → Bool
  neighbours p [] = true
  neighbours p (r ∷ []) = true
  neighbours p (r ∷ (s ∷ rs)) = p r s && neighbours p (s ∷ rs)
