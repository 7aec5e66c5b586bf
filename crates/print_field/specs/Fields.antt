-- What extplan's lines are made of (document 01, "extplan").
use Rattle.std.specs.Prelude.{cond, List, [], ◌∷◌, ℕ, eqb}
use Rattle.read_field.specs.Words.{bytes as text}
use Rattle.print_field.specs.Text.{decimal, joined}

-- " N"
unfoldable pub spaced : ℕ → List ℕ
spaced n = joined (text " " ∷ decimal n ∷ [])

-- " (name N)"
unfoldable pub field : List ℕ → ℕ → List ℕ
field name n = joined (text " (" ∷ name ∷ spaced n ∷ text ")" ∷ [])

-- " (name N M)"
unfoldable pub pair : List ℕ → ℕ → ℕ → List ℕ
pair name n m = joined (text " (" ∷ name ∷ spaced n ∷ spaced m ∷ text ")" ∷ [])

-- a field "where not 0"
unfoldable pub unless_zero : List ℕ → ℕ → List ℕ
unless_zero name n = cond (eqb n 0) [] (field name n)

-- how a line ends
abbrev pub end : List ℕ
end = text ")\n"
