-- A field of a line (document 01, "extplan"): "(NAME N)" or "(NAME N M)" behind one space.
use Rattle.std.specs.Prelude.{cond, List, [], ◌∷◌, ◌++◌, ℕ, length, drop}
use Prim.Native.String.{String}
use Rattle.read_field.specs.Words.{bytes, starts}
use Rattle.read_field.specs.Parts.{Parser, give, next, word, numbers}

-- A field: its name, the greatest value of each of its numbers, and what they are where it is not there.
pub record Field : Type 0 where
  pub name : String
  pub limits : List ℕ
  pub missing : List ℕ

-- "Fields not shown are 0."
abbrev pub one : String → ℕ → Field
one name limit = record { name = name; limits = limit ∷ []; missing = 0 ∷ [] }

abbrev pub two : String → ℕ → Field
two name limit = record { name = name; limits = limit ∷ limit ∷ []; missing = 0 ∷ 0 ∷ [] }

-- " (" and the name
abbrev pub field_opening : String → List ℕ
field_opening name = bytes " (" ++ bytes name

-- a field, or what it is where it is not there
abbrev pub field : Field → Parser
field f s =
    cond (starts (field_opening f.name) s)
    (next (numbers f.limits) (word (bytes ")")) (drop (length (field_opening f.name)) s))
    (give f.missing s)

-- fields in this order: one that is unknown, repeated or misplaced is not read, so that the line can't be
unfoldable pub fields : List Field → Parser
fields [] = give []
fields (f ∷ fs) = next (field f) (fields fs)
