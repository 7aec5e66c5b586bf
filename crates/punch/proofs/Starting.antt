-- Where a punch starts: in the first item that is no hole, of those that end past the offset. Assumes nothing.
use mathlib.Core.Path.{◌≡◌, refl, ap, ◌∙◌, sym}
use mathlib.Core.Bool.{Bool, true, false, cond, ◌&&◌, not, and-false}
use mathlib.Core.List.{List, [], ◌∷◌}
use mathlib.Core.Option.{none, some}
use Prim.Native.Nat.{ℕ, suc, ◌<◌, ◌≤◌, max}
use native.Mathlib.Omega.{arith}
use lib.Dec.{ltb}
use lib.ListN.{drop}
use borrow.Author.Tests.{leb-true, leb-false, ltb-false, lt-ltb, le-ltb}
use Rattle.records.specs.Stages.{every}
use Rattle.records.proofs.Tests.{both, both_left, both_right}
use Rattle.item.specs.Items.{Fields, hole, end}
use Rattle.cut_segment.specs.Segments.{leading, ends_by, Runs}
use Rattle.punch_def.specs.Punch.{lower, first_held}

module _ (offset : ℕ) where
  -- ---- what is found behind an item is not lower than in it

  least : (x y : ℕ) → x ≤ y → some (cond (ltb x y) x y) ≡ some x
  least x y h = go (ltb x y) refl
    where
      go : (t : Bool) → ltb x y ≡ t → some (cond t x y) ≡ some x
      go true e = refl
      go false e = let s : y ≡ x = omega (arith, ltb-false x y e) in ap some s

  lowest : (x b : ℕ) (fs : List Fields) → Runs b fs → x ≤ max b offset → lower (first_held offset fs) x ≡ some x
  unfolding first_held
  lowest x b [] r h = refl
  lowest x b (f ∷ fs) r h =
      go (not (hole f) && ltb offset (end f)) (lowest x (end f) fs r.4 (omega (arith, r.0))) (lowest (max f.key offset) (end f) fs r.4 (omega arith))
    where
      go : (t : Bool) → lower (first_held offset fs) x ≡ some x → lower (first_held offset fs) (max f.key offset) ≡ some (max f.key offset)
          → lower (cond t (lower (first_held offset fs) (max f.key offset)) (first_held offset fs)) x ≡ some x
      go true p q = rw q (least x (max f.key offset) (omega (arith, r.0)))
      go false p q = p

  -- ---- items from which the first is looked for: they run, end past the offset, and hold what all hold

  abbrev pub ends_past : Fields → Bool
  ends_past f = ltb offset (end f)

  pub record Left (fs ds : List Fields) : Type 0 where
    pub runs : Runs 0 ds
    pub past : every ends_past ds ≡ true
    pub same : first_held offset ds ≡ first_held offset fs

  runs-from : (b : ℕ) (fs : List Fields) → Runs b fs → Runs 0 fs
  runs-from b [] r = tt
  runs-from b (f ∷ fs) r = (omega arith, r.1, r.2, r.3, r.4)

  all_past : (b : ℕ) (fs : List Fields) → Runs b fs → offset < b → every ends_past fs ≡ true
  unfolding every
  all_past b [] r h = refl
  all_past b (f ∷ fs) r h = both (ends_past f) (every ends_past fs) (lt-ltb offset (end f) (omega (arith, r.0))) (all_past (end f) fs r.4 (omega (arith, r.0)))

  -- behind those that end at most at the offset
  pub left-first : (b : ℕ) (fs : List Fields) → Runs b fs → Left fs (drop (leading (ends_by offset) fs) fs)
  unfolding leading first_held every
  left-first b [] r = record { runs = tt; past = refl; same = refl }
  left-first b (f ∷ fs) r = go (ends_by offset f) refl (left-first (end f) fs r.4)
    where
      go : (t : Bool) → ends_by offset f ≡ t → Left fs (drop (leading (ends_by offset) fs) fs) → Left (f ∷ fs) (drop (cond t (suc (leading (ends_by offset) fs)) 0) (f ∷ fs))
      go true e ih =
          let l : (not (hole f) && ltb offset (end f)) ≡ false = rw (le-ltb offset (end f) (leb-true (end f) offset e), and-false (not (hole f))) refl in
          record { runs = ih.runs; past = ih.past; same = ih.same ∙ rw l refl }
      go false e ih =
          let l : offset < end f = leb-false (end f) offset e in
          record { runs = runs-from b (f ∷ fs) r; past = both (ends_past f) (every ends_past fs) (lt-ltb offset (end f) l) (all_past (end f) fs r.4 l); same = refl }

  module _ (fs : List Fields) (f : Fields) (ds : List Fields) (l : Left fs (f ∷ ds)) where
    -- a hole is passed over
    left-next : hole f ≡ true → Left fs ds
    unfolding first_held every
    left-next t =
        record { runs = runs-from (end f) ds l.runs.4; past = both_right (ends_past f) (every ends_past ds) l.past; same = sym (rw t refl) ∙ l.same }

    -- any other is the one
    left_found : hole f ≡ false → some (max f.key offset) ≡ first_held offset fs
    unfolding first_held every
    left_found t =
        let p = both_left (ends_past f) (every ends_past ds) l.past in
        sym (lowest (max f.key offset) (end f) ds l.runs.4 (omega arith)) ∙ sym (rw (t, p) refl) ∙ l.same

  -- ---- the loop: the next item, with what its calls say, and the end

  module _ (fs l l' : List Fields) (f : Fields) (h : Bool) (e : l ≡ f ∷ l') (q : h ≡ hole f) (from : Left fs l) where
    pub start-turn : h ≡ true → Left fs l'
    start-turn t = left-next fs f l' (rw e at from) (sym q ∙ t)

    pub start_stop : h ≡ false → some (max f.key offset) ≡ first_held offset fs
    start_stop t = left_found fs f l' (rw e at from) (sym q ∙ t)

  pub start_none : (fs l : List Fields) → l ≡ [] → Left fs l → none ≡ first_held offset fs
  unfolding first_held
  start_none fs l e from = ap (first_held offset) (sym e) ∙ from.same
