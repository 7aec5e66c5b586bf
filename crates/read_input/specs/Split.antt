-- The lines of a text (document 01, "extplan": "a form a line"). A line ends in LF; the last may lack it.
use Rattle.std.specs.Prelude.{cond, List, [], ◌∷◌, ℕ, ◌+◌, eqb}

-- one more byte before the first line
unfoldable pub onto : ℕ → List (List ℕ) → List (List ℕ)
onto b [] = (b ∷ []) ∷ []
onto b (l ∷ ls) = (b ∷ l) ∷ ls

unfoldable pub lines : List ℕ → List (List ℕ)
lines [] = []
lines (b ∷ s) = cond (eqb b 10) ([] ∷ lines s) (onto b (lines s))

-- how long the first line is
unfoldable pub line_length : List ℕ → ℕ
line_length [] = 0
line_length (b ∷ s) = cond (eqb b 10) 0 (line_length s + 1)
