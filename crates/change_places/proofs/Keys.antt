-- Of extents wanted, places and their tests know only for which stretch they are. Callers cite placed_spans and sound_spans.
-- Assumes nothing.
use mathlib.Core.Path.{◌≡◌, refl, ap, ◌∙◌, sym}
use mathlib.Core.List.{List, [], ◌∷◌, map}
use Prim.Native.Nat.{ℕ, ◌≤◌}
use native.Mathlib.Omega.{arith}
use lib.ListN.{length, length-map}
use Rattle.table.specs.declared.Row.{Row}
use Rattle.plan_def.specs.Plans.{Add}
use Rattle.plan_def.specs.Places.{Wanted, placed, places_sound}
use Rattle.change_def.specs.Preallocs.{Stretch}
use Rattle.change_def.specs.Drafts.{stretch_for}
use Rattle.change_places.specs.Wishes.{wanted_of}

placed_for : (ps : List ℕ) (ws : List Wanted) → placed ps ws ≡ placed ps (map wanted_of (map stretch_for ws))
unfolding placed
placed_for [] ws = refl
placed_for (p ∷ ps) [] = refl
placed_for (p ∷ ps) (w ∷ ws) = ap (λ (l : List Add). record { start = p; length = w.length; key = w.key } ∷ l) (placed_for ps ws)

module _ (ps : List ℕ) (ws : List Wanted) (ss : List Stretch) (e : map stretch_for ws ≡ ss) where
  pub placed_spans : placed ps ws ≡ placed ps (map wanted_of ss)
  placed_spans = placed_for ps ws ∙ ap (λ (l : List Stretch). placed ps (map wanted_of l)) e

  pub length_spans : length ws ≡ length (map wanted_of ss)
  length_spans = sym (length-map ws stretch_for) ∙ ap (λ (l : List Stretch). length l) e ∙ sym (length-map ss wanted_of)

  pub sound_spans : (rows : List Row) → places_sound rows ps ws ≡ places_sound rows ps (map wanted_of ss)
  unfolding places_sound
  sound_spans rows = rw (placed_spans, length_spans) refl

-- at most as many as places
pub placed-most : (ps : List ℕ) (ws : List Wanted) → length (placed ps ws) ≤ length ps
unfolding placed
placed-most [] ws = omega arith
placed-most (p ∷ ps) [] = omega arith
placed-most (p ∷ ps) (w ∷ ws) = omega (arith, placed-most ps ws)
