-- New extents at their places: those that are ahead. Assumes nothing.
use mathlib.Core.Path.{◌≡◌, refl, ap, ◌∙◌, sym}
use mathlib.Core.Bool.{Bool, true, false}
use mathlib.Core.List.{List, [], ◌∷◌, map}
use Prim.Native.Nat.{ℕ, zero, suc}
use native.Mathlib.Omega.{arith}
use lib.ListN.{length, take, length-map}
use borrow.Author.Tests.{eq-eqb}
use Rattle.records.specs.Stages.{unless, first, every, pairs}
use Rattle.records.proofs.Tests.{first-unless}
use Rattle.records.proofs.Lists.{pairs-take}
use Rattle.table.specs.declared.Row.{Row}
use Rattle.plan_def.specs.Plans.{Add}
use Rattle.plan_def.specs.Places.{Wanted, placed, place_sound, places_apart, places_sound}
use Rattle.change_def.specs.Preallocs.{Stretch}
use Rattle.change_places.specs.Wishes.{wanted_of}

-- ---- a part of the places that is refused, refuses all

placed-take : (k : ℕ) (ps : List ℕ) (ws : List Wanted) → placed (take k ps) ws ≡ take k (placed ps ws)
unfolding placed
placed-take zero ps ws = refl
placed-take (suc k) [] ws = refl
placed-take (suc k) (p ∷ ps) [] = refl
placed-take (suc k) (p ∷ ps) (w ∷ ws) = ap (λ (l : List Add). record { start = p; length = w.length; key = w.key } ∷ l) (placed-take k ps ws)

pub part-refused : (k : ℕ) (ps : List ℕ) (ws : List Wanted) (x : ℕ) → x ≡ unless (pairs places_apart (placed (take k ps) ws)) 26 → (x ≡ 0 → ⊥) → x ≡ unless (pairs places_apart (placed ps ws)) 26
part-refused k ps ws x e z = go (pairs places_apart (placed ps ws)) refl
  where
    go : (b : Bool) → pairs places_apart (placed ps ws) ≡ b → x ≡ unless b 26
    go true q = e ∙ ap (λ (c : Bool). unless c 26) (ap (pairs places_apart) (placed-take k ps ws) ∙ pairs-take places_apart k (placed ps ws) q)
    go false q = twentysix (pairs places_apart (placed (take k ps) ws)) e
      where
        twentysix : (b : Bool) → x ≡ unless b 26 → x ≡ 26
        twentysix true y = absurd (z y)
        twentysix false y = y

-- ---- all of refusal 26, where the number of places is right
pub places_right : (rows : List Row) (ps : List ℕ) (ss : List Stretch) → length ss ≡ length ps
    → first (unless (every (place_sound rows) (placed ps (map wanted_of ss))) 26) (unless (pairs places_apart (placed ps (map wanted_of ss))) 26) ≡ unless (places_sound rows ps (map wanted_of ss)) 26
unfolding places_sound
places_right rows ps ss l =
    let ws : List Wanted = map wanted_of ss in
    rw (eq-eqb (length ps) (length ws) (sym (length-map ss wanted_of ∙ l)))
    (first-unless (every (place_sound rows) (placed ps ws)) (pairs places_apart (placed ps ws)) 26 (λ z. omega arith))
