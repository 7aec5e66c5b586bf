-- Texts and numbers, computed.
use mathlib.Core.Path.{◌≡◌, refl}
use mathlib.Core.List.{[], ◌∷◌, map}
use Rattle.read_field.specs.Words.{bytes as text}
use Rattle.print_field.specs.Text.{digits, decimal, joined}

letters : text "(put 0)\n" ≡ 40 ∷ 112 ∷ 117 ∷ 116 ∷ 32 ∷ 48 ∷ 41 ∷ 10 ∷ []
letters = refl

-- numbers, and how they are written
numbers : map decimal (0 ∷ 9 ∷ 10 ∷ 99 ∷ 100 ∷ 1048576 ∷ 18446744073709551615 ∷ []) ≡ text "0" ∷ text "9" ∷ text "10" ∷ text "99" ∷ text "100" ∷ text "1048576" ∷ text "18446744073709551615" ∷ []
unfolding digits decimal
numbers = refl

parts : joined (text "(" ∷ text "" ∷ decimal 7 ∷ text ")" ∷ []) ≡ text "(7)"
unfolding digits decimal joined
parts = refl
