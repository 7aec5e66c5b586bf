-- For the code only: a loop over records with a state.
use Rattle.std.specs.Prelude.{List, [], ◌∷◌, ℕ}
use Rattle.records.specs.Stages.{first}

module _ {A : Type 0} where
  -- the first refusal, record by record, with a state that each record moves on
  unfoldable pub sieve : {S : Type 0} → (S → A → ℕ) → (S → A → S) → S → List A → ℕ
  sieve f g a [] = 0
  sieve f g a (r ∷ rs) = first (f a r) (sieve f g (g a r) rs)
