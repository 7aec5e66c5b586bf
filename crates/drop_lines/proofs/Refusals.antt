-- What is due for drops, item by item. Assumes nothing.
use mathlib.Core.Path.{◌≡◌, refl, ap, ◌∙◌, sym}
use mathlib.Core.Bool.{Bool, true, false, cond}
use mathlib.Core.List.{List, [], ◌∷◌}
use Prim.Native.Nat.{ℕ}
use native.Mathlib.Omega.{arith}
use lib.Dec.{eqb, ltb}
use lib.ListN.{length}
use borrow.Author.Tests.{eqb-true, ltb-true, ltb-false, lt-ltb, le-ltb}
use Rattle.records.specs.Select.{keep}
use Rattle.item.specs.Items.{Fields}
use Rattle.table.specs.declared.Row.{Row}
use Rattle.ref_def.specs.Drops.{in_leaves, Due, earlier, due_of, drops_refusal, drop_refusal}
use Rattle.drop_lines.specs.declared.Cut.{Cut}
use Rattle.drop_lines.specs.Dropped.{taken, drops_in}
use Rattle.drop_lines.specs.Raw.{none_due, refused_only, item_due, items_due}

-- which of three is due does not depend on which two are compared first
pub earlier_assoc : (a b c : Due) → earlier (earlier a b) c ≡ earlier a (earlier b c)
earlier_assoc a b c =
    go (eqb a.number 0) (eqb b.number 0) (eqb c.number 0) (ltb b.start a.start) (ltb c.start b.start) refl refl refl refl refl
  where
    go : (x y z u v : Bool) → eqb a.number 0 ≡ x → eqb b.number 0 ≡ y → eqb c.number 0 ≡ z → ltb b.start a.start ≡ u → ltb c.start b.start ≡ v → earlier (earlier a b) c ≡ earlier a (earlier b c)
    go true y z u v p q r s t = simp p
    go false true z u v p q r s t = simp (p, q)
    go false false true true v p q r s t = simp (p, q, r, s)
    go false false true false v p q r s t = simp (p, q, r, s)
    go false false false true true p q r s t =
        let m = ltb-true b.start a.start s in
        let k = ltb-true c.start b.start t in
        simp (p, q, r, s, t, lt-ltb c.start a.start (omega arith))
    go false false false true false p q r s t = simp (p, q, r, s, t)
    go false false false false true p q r s t = simp (p, q, r, s, t)
    go false false false false false p q r s t =
        let m = ltb-false b.start a.start s in
        let k = ltb-false c.start b.start t in
        simp (p, q, r, s, t, le-ltb c.start a.start (omega arith))

-- a drop that is not refused counts as none
only_earlier : (a b : Due) → refused_only (earlier a b) ≡ earlier (refused_only a) (refused_only b)
only_earlier a b =
    go (eqb a.number 0) (eqb b.number 0) (ltb b.start a.start) refl refl refl
  where
    go : (x y u : Bool) → eqb a.number 0 ≡ x → eqb b.number 0 ≡ y → ltb b.start a.start ≡ u → refused_only (earlier a b) ≡ earlier (refused_only a) (refused_only b)
    go true y u p q s = simp p
    go false true u p q s = simp (p, q)
    go false false true p q s = simp (p, q, s)
    go false false false p q s = simp (p, q, s)

only-number : (a : Due) → (refused_only a).number ≡ a.number
only-number a = go (eqb a.number 0) refl
  where
    go : (b : Bool) → eqb a.number 0 ≡ b → (cond b none_due a).number ≡ a.number
    go true e = sym (eqb-true a.number 0 e)
    go false e = refl

module _ (c : Cut) (rows : List Row) where
  -- the shared bytes do not count
  due-drops : (fs : List Fields) (bs : List ℕ) → length bs ≡ length fs → items_due c rows fs ≡ refused_only (due_of rows (drops_in c fs bs))
  unfolding items_due due_of in_leaves keep
  due-drops [] bs h = refl
  due-drops (f ∷ fs) [] h = absurd (omega arith)
  due-drops (f ∷ fs) (b ∷ bs) h = go (taken c f) (due-drops fs bs (omega arith))
    where
      d : Due
      d = record { start = f.extent_start; number = drop_refusal rows f }

      go : (t : Bool) → items_due c rows fs ≡ refused_only (due_of rows (drops_in c fs bs))
          → earlier (cond t (refused_only d) none_due) (items_due c rows fs) ≡ refused_only (due_of rows (cond t (record { item = f; shared = b } ∷ drops_in c fs bs) (drops_in c fs bs)))
      go true e = ap (earlier (refused_only d)) e ∙ sym (only_earlier d (due_of rows (drops_in c fs bs)))
      go false e = e

  pub due-refusal : (fs : List Fields) (bs : List ℕ) → length bs ≡ length fs → (items_due c rows fs).number ≡ drops_refusal rows (drops_in c fs bs)
  due-refusal fs bs h = ap (λ (d : Due). d.number) (due-drops fs bs h) ∙ only-number (due_of rows (drops_in c fs bs))

  -- a turn of the loop: what is due so far, and what is due for the rest
  pub due-turn : (f : Fields) (fs : List Fields) (a d e : Due) → d ≡ item_due c rows f → e ≡ earlier a d → earlier e (items_due c rows fs) ≡ earlier a (items_due c rows (f ∷ fs))
  unfolding items_due
  due-turn f fs a d e p q = rw (q, p) (earlier_assoc a (item_due c rows f) (items_due c rows fs))

  -- its end
  earlier-none : (a : Due) → a.number ≡ (earlier a none_due).number
  earlier-none a = go (eqb a.number 0) refl
    where
      go : (b : Bool) → eqb a.number 0 ≡ b → a.number ≡ (cond b none_due a).number
      go true e = eqb-true a.number 0 e
      go false e = refl

  pub due-done : (l fs : List Fields) (a : Due) → l ≡ [] → earlier a (items_due c rows l) ≡ items_due c rows fs → (bs : List ℕ) → length bs ≡ length fs → a.number ≡ drops_refusal rows (drops_in c fs bs)
  unfolding items_due
  due-done l fs a z e bs h = earlier-none a ∙ ap (λ (d : Due). d.number) (rw z at e) ∙ due-refusal fs bs h
