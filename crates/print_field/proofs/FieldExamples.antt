-- Fields computed.
use mathlib.Core.Path.{◌≡◌, refl}
use mathlib.Core.List.{[], ◌∷◌}
use Rattle.read_field.specs.Words.{bytes as text}
use Rattle.print_field.specs.Text.{digits, decimal, joined}
use Rattle.print_field.specs.Fields.{spaced, field, pair, unless_zero}

fields :
    spaced 10
    ∷ field (text "key") 4096
    ∷ field (text "key") 0
    ∷ pair (text "window") 0 16384
    ∷ unless_zero (text "ram") 0
    ∷ unless_zero (text "ram") 1
    ∷ []
    ≡ text " 10"
    ∷ text " (key 4096)"
    ∷ text " (key 0)"
    ∷ text " (window 0 16384)"
    ∷ text ""
    ∷ text " (ram 1)"
    ∷ []
unfolding digits decimal joined spaced field pair unless_zero
fields = refl
