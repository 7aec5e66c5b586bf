-- A decimal number at the start of a text (document 01, "extplan": "standard input, decimal"). A text is a list of bytes.
use Rattle.std.specs.Prelude.{Bool, true, false, cond, ◌&&◌, not, List, [], ◌∷◌, ℕ, ◌+◌, ◌*◌, ◌-◌, eqb, leb}

-- "0" to "9"
abbrev pub is_digit : ℕ → Bool
is_digit b = leb 48 b && leb b 57

-- the digits at a text's start, as many as there are
unfoldable pub digits : List ℕ → List ℕ
digits [] = []
digits (b ∷ s) = cond (is_digit b) (b ∷ digits s) []

-- the number that v becomes by one more digit, and by several
abbrev pub pushed : ℕ → ℕ → ℕ
pushed v d = v * 10 + (d - 48)

unfoldable pub value : ℕ → List ℕ → ℕ
value v [] = v
value v (d ∷ ds) = value (pushed v d) ds

-- digits that may be a number: there is one, and "0" stands before no other
unfoldable pub plain : List ℕ → Bool
plain [] = false
plain (d ∷ []) = true
plain (d ∷ (e ∷ ds)) = not (eqb d 48)

-- digits that are a number of at most `limit`
abbrev pub sound : ℕ → List ℕ → Bool
sound limit ds = plain ds && leb (value 0 ds) limit
