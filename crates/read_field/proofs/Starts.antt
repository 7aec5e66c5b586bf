-- The laws of a word at a text's start. Assumes nothing.
use mathlib.Core.Path.{◌≡◌, refl}
use mathlib.Core.Bool.{true, false≢true}
use mathlib.Core.List.{List, [], ◌∷◌}
use Prim.Native.Nat.{ℕ, ◌≤◌}
use native.Mathlib.Omega.{arith}
use lib.Dec.{eqb}
use lib.ListN.{length, take}
use Rattle.std.specs.Cmp.Lexicographic.{pointwise}
use Rattle.records.proofs.Tests.{both_right}
use Rattle.read_field.specs.Words.{starts}

-- a word is no longer than a text that starts with it
pub starts-room : (w s : List ℕ) → starts w s ≡ true → length w ≤ length s
unfolding starts
starts-room [] s h = omega arith
starts-room (a ∷ w) [] h = absurd (false≢true h)
starts-room (a ∷ w) (b ∷ s) h = let r = starts-room w s (both_right (eqb b a) (starts w s) h) in omega arith

-- byte for byte
pub starts-pointwise : (w s : List ℕ) → starts w s ≡ pointwise eqb (take (length w) s) w
unfolding starts
starts-pointwise [] s = refl
starts-pointwise (a ∷ w) [] = refl
starts-pointwise (a ∷ w) (b ∷ s) = rw (starts-pointwise w s) refl
