-- What a copy brings along when a plan is applied: a row, and whole sectors. Assumes nothing.
use mathlib.Core.Path.{◌≡◌, refl}
use mathlib.Core.Bool.{Bool, true, false, cond, ◌&&◌, not}
use mathlib.Core.List.{List, [], ◌∷◌, map}
use Prim.Native.Nat.{ℕ, ◌+◌, ◌-◌, ◌%◌, max, min}
use lib.Dec.{eqb, leb}
use borrow.Author.Tests.{eq-eqb, ne_eqb}
use Rattle.records.specs.Stages.{unless, first_of, stage, every}
use Rattle.records.specs.Select.{keep}
use Rattle.records.proofs.Tests.{both, both_left, both_right, imply, first-zero, stage-zero}
use Rattle.records.proofs.Wholes.{add_whole, sub_whole, min_whole, max_whole}
use Rattle.item.specs.Items.{Fields, ranged, hole, end}
use Rattle.table.specs.declared.Row.{Row}
use Rattle.table.specs.Rows.{find}
use Rattle.lists.specs.Lists.{whole_sectors}
use Rattle.lists.proofs.Laws.{whole_facts}
use Rattle.cut_def.specs.Refs.{ref_of}
use Rattle.table.specs.Windows.{window_sound}
use Rattle.ref_def.proofs.Drops.{is_found}
use Rattle.ref_def.proofs.Lines.{rowed, with_rowed}
use Rattle.clone_items.specs.declared.Copying.{Copying}
use Rattle.clone_items.specs.Copies.{clone_item, clones, overlaps, copied, source_record}
use Rattle.clone_items.proofs.Items.{picked}

-- ---- source records

-- a picked item that passes its checks has a row
record_rowed : (rs : List Row) (c : Copying) (f : Fields) → source_record rs c f ≡ 0 → copied c f ≡ true → is_found (find f.extent_start rs) ≡ true
record_rowed rs c f h p =
    let k = picked c f p in
    let o = both_left (overlaps c f) (not (hole f)) (both_right (not (eqb f.kind 0)) (overlaps c f && not (hole f)) p) in
    let z = (first-zero (unless (leb f.kind 2) 8) _ (rw (ne_eqb f.kind 0 k.kind, o, k.«no-hole») at h)).1 in
    with_rowed (find f.extent_start rs) (λ (row : Row). first_of (unless (window_sound (clone_item c f) row) 17 ∷ unless (eqb row.keyed 0) 15 ∷ [])) (first-zero (unless (eqb f.encryption 0 && eqb f.other 0) 9) _ z).1

pub clones_rowed : (rs : List Row) (c : Copying) (fs : List Fields) → stage (source_record rs c) fs ≡ 0 → every (rowed rs) (map ref_of (clones c fs)) ≡ true
unfolding every keep
clones_rowed rs c [] h = refl
clones_rowed rs c (f ∷ fs) h =
    let z = stage-zero (source_record rs c) f fs h in
    go (copied c f) refl z.0 (clones_rowed rs c fs z.1)
  where
    go : (b : Bool) → copied c f ≡ b → source_record rs c f ≡ 0 → every (rowed rs) (map ref_of (clones c fs)) ≡ true
        → every (rowed rs) (map ref_of (map (clone_item c) (cond b (f ∷ keep (copied c) fs) (keep (copied c) fs)))) ≡ true
    go true e r ih = both (is_found (find f.extent_start rs)) (every (rowed rs) (map ref_of (clones c fs))) (record_rowed rs c f r e) ih
    go false e r ih = ih

-- ---- whole sectors

module _ (s : ℕ) where
  -- the copy of an item of whole sectors
  pub copy_whole : (c : Copying) → c.from % s ≡ 0 → c.to % s ≡ 0 → c.span % s ≡ 0 → (f : Fields) → whole_sectors s f ≡ true → whole_sectors s (clone_item c f) ≡ true
  copy_whole c wf wt ws f h =
      let copy : Fields = clone_item c f in
      imply (ranged f) (eqb (copy.key % s) 0 && eqb (copy.length % s) 0)
      (λ r.
      let w = whole_facts s f h r in
      let m = max_whole s f.key c.from w.0 wf in
      both (eqb (copy.key % s) 0) (eqb (copy.length % s) 0)
      (eq-eqb (copy.key % s) 0 (add_whole s c.to (max f.key c.from - c.from) wt (sub_whole s (max f.key c.from) c.from m wf)))
      (eq-eqb (copy.length % s) 0 (sub_whole s (min (end f) (c.from + c.span)) (max f.key c.from) (min_whole s (end f) (c.from + c.span) (add_whole s f.key f.length w.0 w.1) (add_whole s c.from c.span wf ws)) m)))
