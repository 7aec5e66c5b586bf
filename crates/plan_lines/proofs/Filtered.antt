-- Records that pass a test, as the library's `filter` keeps them. Assumes nothing.
use mathlib.Core.Path.{◌≡◌, refl, ap}
use mathlib.Core.Bool.{Bool, cond}
use mathlib.Core.List.{List, [], ◌∷◌}
use Prim.Native.Nat.{◌≤◌}
use native.Mathlib.Omega.{arith}
use lib.ListN.{length}
use Rattle.std.specs.List.{filter}
use Rattle.records.specs.Select.{keep}
use Rattle.records.proofs.Counts.{count-length, keep-length}

module _ {A : Type 0} (p : A → Bool) where
  -- what `filter` of the library keeps
  pub keep_filter : (l : List A) → keep p l ≡ filter p l
  unfolding keep
  keep_filter [] = refl
  keep_filter (x ∷ l) = ap (λ (k : List A). cond (p x) (x ∷ k) k) (keep_filter l)

  pub filter_few : (l : List A) → length (filter p l) ≤ length l
  filter_few l = rw (← keep_filter) (omega (arith, keep-length p l, count-length p l))
