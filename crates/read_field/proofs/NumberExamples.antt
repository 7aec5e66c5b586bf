-- Computed examples: what is a number, and how far it goes. Assumes nothing.
use mathlib.Core.Path.{◌≡◌, refl}
use mathlib.Core.Bool.{cond}
use mathlib.Core.List.{List, [], ◌∷◌, map}
use Prim.Native.Nat.{ℕ, ◌-◌, ◌^◌}
use Prim.Native.String.{String}
use lib.ListN.{length}
use Rattle.read_field.specs.Words.{bytes}
use Rattle.read_field.specs.Decimal.{digits, value, plain, sound}

-- how many digits a number has, and what it is; nothing for none
abbrev read : ℕ → List ℕ → List ℕ
read limit s = cond (sound limit (digits s)) (length (digits s) ∷ value 0 (digits s) ∷ []) []

-- a limit and a text, and what is read
abbrev cases : List (ℕ × String × List ℕ)
cases =
    (255, "0", 1 ∷ 0 ∷ [])
    ∷ (255, "7)", 1 ∷ 7 ∷ [])
    ∷ (255, "255 1", 3 ∷ 255 ∷ [])
    ∷ (255, "256", [])
    ∷ (255, "2550", [])
    ∷ (255, "", [])
    ∷ (255, ")", [])
    ∷ (255, "-1", [])
    ∷ (255, "+1", [])
    ∷ (255, "00", [])
    ∷ (255, "01", [])
    ∷ (255, "1/", 1 ∷ 1 ∷ [])
    ∷ (255, "1:", 1 ∷ 1 ∷ [])
    ∷ (255, "90", 2 ∷ 90 ∷ [])
    ∷ (1, "1", 1 ∷ 1 ∷ [])
    ∷ (1, "2", [])
    ∷ (0, "0", 1 ∷ 0 ∷ [])
    ∷ (0, "1", [])
    ∷ (2 ^ 64 - 1, "18446744073709551615", 20 ∷ (2 ^ 64 - 1) ∷ [])
    ∷ (2 ^ 64 - 1, "18446744073709551616", [])
    ∷ (2 ^ 64 - 1, "99999999999999999999", [])
    ∷ []

all_right : map (λ (c : ℕ × String × List ℕ). read c.0 (bytes c.1)) cases ≡ map (λ (c : ℕ × String × List ℕ). c.2) cases
unfolding digits value plain
all_right = refl
