-- How long fields are. Assumes nothing.
use mathlib.Core.Path.{◌≡◌}
use mathlib.Core.Bool.{Bool, true, false, cond}
use mathlib.Core.List.{List, []}
use Prim.Native.Nat.{ℕ, ◌+◌, ◌≤◌}
use native.Mathlib.Omega.{arith}
use lib.Dec.{eqb}
use lib.ListN.{length}
use Rattle.print_field.specs.Text.{decimal}
use Rattle.print_field.proofs.Parts.{length_parts, length_none}
use Rattle.print_field.specs.Fields.{spaced, field, pair, unless_zero}

pub length-spaced : (n : ℕ) → length (spaced n) ≡ length (decimal n) + 1
unfolding spaced
length-spaced n = simp (length_parts, length_none) (omega arith)

pub length-field : (name : List ℕ) (n : ℕ) → length (field name n) ≡ length name + length (decimal n) + 4
unfolding field
length-field name n = simp (length_parts, length_none, length-spaced) (omega arith)

pub length-pair : (name : List ℕ) (n m : ℕ) → length (pair name n m) ≡ length name + length (decimal n) + length (decimal m) + 5
unfolding pair
length-pair name n m = simp (length_parts, length_none, length-spaced) (omega arith)

pub length-unless-zero : (name : List ℕ) (n : ℕ) → length (unless_zero name n) ≤ length name + length (decimal n) + 4
unfolding unless_zero
length-unless-zero name n = go (eqb n 0)
  where
    go : (t : Bool) → length (cond t [] (field name n)) ≤ length name + length (decimal n) + 4
    go true = omega arith
    go false = omega (arith, length-field name n)
