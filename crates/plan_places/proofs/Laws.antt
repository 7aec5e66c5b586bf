-- What the test of places says by the code's numbers. Callers cite places_wrong. Assumes nothing.
use mathlib.Core.Path.{◌≡◌, refl, ◌∙◌}
use mathlib.Core.List.{List}
use Prim.Native.Nat.{ℕ}
use lib.ListN.{length}
use borrow.Author.Tests.{ne_eqb}
use Rattle.records.specs.Stages.{unless}
use Rattle.table.specs.declared.Row.{Row}
use Rattle.plan_def.specs.Places.{Wanted, places_sound}

-- a wrong number of places is refused
pub places_wrong : (rows : List Row) (ps : List ℕ) (wanted : ℕ) (ws : List Wanted) → (length ps ≡ wanted → ⊥) → length ws ≡ wanted → 26 ≡ unless (places_sound rows ps ws) 26
unfolding places_sound
places_wrong rows ps wanted ws h m = rw (ne_eqb (length ps) (length ws) (λ e. h (e ∙ m))) refl
