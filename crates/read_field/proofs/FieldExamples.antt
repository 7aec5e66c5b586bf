-- Computed examples: numbers and fields at a text's start, and what is left. Assumes nothing.
use mathlib.Core.Path.{◌≡◌, refl}
use mathlib.Core.List.{List, [], ◌∷◌, map}
use mathlib.Core.Option.{Option, none, some}
use Prim.Native.Nat.{ℕ}
use Prim.Native.String.{String}
use lib.ListN.{length}
use Rattle.read_field.specs.Decimal.{digits, value, plain}
use Rattle.read_field.specs.Words.{bytes, starts}
use Rattle.read_field.specs.Parts.{Part, more, into, numbers, end}
use Rattle.read_field.specs.Fields.{one, two, fields}
use Rattle.read_field.specs.Raw.{or_kept, read_over, field_over}

-- what was read: how many bytes are left, and the numbers; nothing for an unreadable text
abbrev seen : Option Part → List ℕ
seen none = []
seen (some p) = length p.rest ∷ p.numbers

-- two fields, one of them with two numbers
abbrev read : String → List ℕ
read s = seen (fields (one "key" 9 ∷ two "window" 9 ∷ []) (bytes s))

abbrev cases : List (String × List ℕ)
cases =
    (" (key 1) (window 2 3)", 0 ∷ 1 ∷ 2 ∷ 3 ∷ [])
    ∷ (" (key 1) (window 3 2))", 1 ∷ 1 ∷ 3 ∷ 2 ∷ [])
    ∷ (" (key 1)", 0 ∷ 1 ∷ 0 ∷ 0 ∷ [])
    ∷ (" (window 2 3)", 0 ∷ 0 ∷ 2 ∷ 3 ∷ [])
    ∷ ("", 0 ∷ 0 ∷ 0 ∷ 0 ∷ [])
    ∷ (")", 1 ∷ 0 ∷ 0 ∷ 0 ∷ [])
    ∷ (" (window 2 3) (key 1)", 8 ∷ 0 ∷ 2 ∷ 3 ∷ [])
    ∷ (" (key 1) (key 1)", 8 ∷ 1 ∷ 0 ∷ 0 ∷ [])
    ∷ ("  (key 1)", 9 ∷ 0 ∷ 0 ∷ 0 ∷ [])
    ∷ (" (size 1)", 9 ∷ 0 ∷ 0 ∷ 0 ∷ [])
    ∷ (" (key)", [])
    ∷ (" (key )", [])
    ∷ (" (key  1)", [])
    ∷ (" (key 1 )", [])
    ∷ (" (key 1", [])
    ∷ (" (key 1 2)", [])
    ∷ (" (key 10)", [])
    ∷ (" (keys 1)", [])
    ∷ (" (window 2)", [])
    ∷ (" (window 2 3 4)", [])
    ∷ (" (window 2 10)", [])
    ∷ []

all_right : map (λ (c : String × List ℕ). read c.0) cases ≡ map (λ (c : String × List ℕ). c.1) cases
unfolding digits value plain starts more into numbers fields
all_right = refl

-- a line's end
ends : map seen (end [] ∷ end (41 ∷ []) ∷ []) ≡ (0 ∷ []) ∷ [] ∷ []
ends = refl

-- what two places that held 7 and 8 hold when a field was read over them
abbrev over_cases : List (String × List ℕ)
over_cases =
    (" (key 1 2)", 1 ∷ 2 ∷ [])
    ∷ (" (key 1 2", 1 ∷ 2 ∷ [])
    ∷ (" (key 1)", 1 ∷ 0 ∷ [])
    ∷ (" (key 1 10)", 1 ∷ 0 ∷ [])
    ∷ (" (key 10 2)", 0 ∷ 0 ∷ [])
    ∷ (" (keys 1 2)", 0 ∷ 0 ∷ [])
    ∷ (" (size 1 2)", 7 ∷ 8 ∷ [])
    ∷ ("", 7 ∷ 8 ∷ [])
    ∷ []

over_right : map (λ (c : String × List ℕ). field_over (bytes " (key") 9 (7 ∷ 8 ∷ []) (bytes c.0)) over_cases ≡ map (λ (c : String × List ℕ). c.1) over_cases
unfolding digits value plain starts more into or_kept read_over
over_right = refl
