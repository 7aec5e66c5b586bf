-- A step of a walk; and the loop of the next record: it passes deletes, until a record comes or none is left. Assumes nothing.
use mathlib.Core.Path.{◌≡◌, ap, ◌∙◌, sym, subst}
use mathlib.Core.List.{List, [], ◌∷◌}
use Prim.Native.Nat.{ℕ, ◌+◌, ◌*◌, ◌/◌, ◌≤◌, ◌<◌}
use native.Mathlib.Omega.{arith}
use lib.ListN.{length, drop}
use Rattle.item.specs.declared.Item.{Item}
use Rattle.item.specs.Items.{fields, item_of}
use Rattle.cut_def.specs.Pieces.{kept}
use Rattle.apply_walk.specs.declared.walk.Edited.{Edited}
use Rattle.apply_walk.specs.declared.walk.Origin.{Origin}
use Rattle.apply_walk.specs.declared.walk.Origin.TheVariants.{Kept, Put}
use Rattle.apply_walk.specs.declared.walk.Step.{Step}
use Rattle.apply_walk.specs.declared.walk.Walk.{Walk}
use Rattle.apply_walk.specs.Merge.{left}
use Rattle.apply_walk.specs.Walks.{pieces_ahead, piece_of, IsFrom, Passes, Stepped, DeletePassed, Ended}
use Rattle.apply_walk.proofs.Merge.{old_at}

-- from v to w deletes alone were passed
abbrev pub Passing : Walk → Walk → Type 0
Passing v w =
    let list = v.edited.list.now in
    let edits = v.edited.edits.now in
    (w.edited ≡ v.edited) × (left list edits v.i v.j ≡ left list edits w.i w.j) × (v.i ≤ w.i) × (v.j ≤ w.j)

-- ---- one step

module _ (v : Walk) where
  abbrev list : List ℕ
  list = v.edited.list.now

  abbrev edits : List ℕ
  edits = v.edited.edits.now

  -- a record comes
  pub stepped : (w : Walk) (o : Origin) (r : Item) → w.edited ≡ v.edited → left list edits v.i v.j ≡ piece_of o (fields r) ∷ left list edits w.i w.j → IsFrom list edits o (fields r) → Passes o v w → Stepped v (record { origin = o; item = r }) w
  stepped w o r e a f b = record { same = e; first = a ∙ ap (λ (d : Edited). piece_of o (fields r) ∷ left d.list.now d.edits.now w.i w.j) (sym e); from = f; on = b }

  -- an old one
  pub stepped_old : (w : Walk) (s : Step) → let r = item_of (drop (v.i * 70) list) in (s ≡ record { origin = Kept v.i; item = r }) × (w.edited ≡ v.edited) × (w.i ≡ v.i + 1) × (w.j ≡ v.j)
      → v.i < length list / 70 → left list edits v.i v.j ≡ kept (fields (item_of (drop (v.i * 70) list))) ∷ left list edits (v.i + 1) v.j → Stepped v s w
  stepped_old w s k h e = rw (k.0) (stepped w _ _ k.1 (rw (k.2, k.3) e) (old_at list edits v.edited.rising v.i v.j h) (omega arith, omega arith, omega arith))

-- ---- behind deletes

module _ (v u : Walk) (p : Passing v u) where
  -- a record comes
  pub stepped_behind : (s : Step) (w : Walk) → Stepped u s w → Stepped v s w
  stepped_behind s w t =
      record {
        same = t.same ∙ p.0;
        first = p.1 ∙ ap (λ (d : Edited). left d.list.now d.edits.now u.i u.j) (sym p.0) ∙ t.first;
        from = subst (λ (d : Edited). IsFrom d.list.now d.edits.now s.origin (fields s.item)) p.0 t.from;
        on = passes s.origin t.on;
      }
    where
      passes : (o : Origin) → Passes o u w → Passes o v w
      passes (Kept n) b = (omega arith, b.1, omega arith)
      passes (Put n) b = (omega arith, b.1, omega arith)

  -- one delete more
  pub passed_behind : (w : Walk) → DeletePassed u w → Passing v w
  passed_behind w d =
      let e : w.edited ≡ v.edited = d.same ∙ p.0 in
      (e, p.1 ∙ ap (λ (x : Edited). left x.list.now x.edits.now u.i u.j) (sym p.0) ∙ d.first ∙ ap (λ (x : Edited). left x.list.now x.edits.now w.i w.j) e, omega arith, omega arith)

  -- none is left
  pub ended : pieces_ahead u ≡ [] → Ended v u
  ended a = (p.1 ∙ ap (λ (d : Edited). left d.list.now d.edits.now u.i u.j) (sym p.0) ∙ a, a)
