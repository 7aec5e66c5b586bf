-- Computed examples: which texts start with a word. Assumes nothing.
use mathlib.Core.Path.{◌≡◌, refl}
use mathlib.Core.Bool.{Bool, true, not}
use mathlib.Core.List.{[], ◌∷◌}
use Prim.Native.String.{String}
use Rattle.records.specs.Stages.{every}
use Rattle.read_field.specs.Words.{bytes, starts}

spelt : bytes "(punch" ≡ 40 ∷ 112 ∷ 117 ∷ 110 ∷ 99 ∷ 104 ∷ []
spelt = refl

abbrev has : String × String → Bool
has c = starts (bytes c.0) (bytes c.1)

abbrev has_not : String × String → Bool
has_not c = not (has c)

there : every has (("", "") ∷ ("", "a") ∷ ("a", "a") ∷ ("ab", "ab") ∷ ("ab", "abc") ∷ []) ≡ true
unfolding starts every
there = refl

missing : every has_not (("a", "") ∷ ("a", "b") ∷ ("a", "A") ∷ ("ab", "a") ∷ ("ab", "ac") ∷ ("ab", " ab") ∷ []) ≡ true
unfolding starts every
missing = refl
