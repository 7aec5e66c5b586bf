-- Picking from lists by a test.
use Rattle.std.specs.Prelude.{Bool, true, false, cond, ◌||◌, List, [], ◌∷◌, ℕ, ◌+◌}

module _ {A : Type 0} where
  -- a list of one, or of none
  abbrev pub only : Bool → A → List A
  only true a = a ∷ []
  only false a = []

  -- those that pass, in order
  unfoldable pub keep : (A → Bool) → List A → List A
  keep p [] = []
  keep p (a ∷ l) = cond (p a) (a ∷ keep p l) (keep p l)

  -- whether one passes
  unfoldable pub any : (A → Bool) → List A → Bool
  any p [] = false
  any p (a ∷ l) = p a || any p l

  -- how many pass
  unfoldable pub count : (A → Bool) → List A → ℕ
  count p [] = 0
  count p (a ∷ l) = cond (p a) 1 0 + count p l
