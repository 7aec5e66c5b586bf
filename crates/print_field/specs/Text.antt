-- Numbers as text (document 01, "extplan": "decimal, a form a line").
use Rattle.std.specs.Prelude.{List, [], ◌∷◌, ◌++◌, ℕ, zero, suc, ◌+◌, ◌/◌, ◌%◌}

-- the character of a number below 10: 48 is that of 0
abbrev pub digit : ℕ → ℕ
digit n = 48 + n

-- the digits of q, none if it is 0, and then d; q has at most f digits
unfoldable pub digits : (f q d : ℕ) → List ℕ
digits zero q d = digit d ∷ []
digits (suc f) zero d = digit d ∷ []
digits (suc f) (suc q) d = digits f (suc q / 10) (suc q % 10) ++ digit d ∷ []

-- a number in decimal, its highest digit first: no zero leads but that of 0 itself
unfoldable pub decimal : ℕ → List ℕ
decimal n = digits n (n / 10) (n % 10)

-- parts one behind the other
unfoldable pub joined : List (List ℕ) → List ℕ
joined [] = []
joined (p ∷ ps) = p ++ joined ps
