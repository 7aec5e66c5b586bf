-- The items of a clone: each sound in the destination, inside its range, and apart from the others. Assumes nothing.
use mathlib.Core.Path.{◌≡◌, refl}
use mathlib.Core.Bool.{Bool, true, false, ◌&&◌, ◌||◌, not}
use mathlib.Core.List.{List, [], ◌∷◌}
use mathlib.Core.Logic.{⊎_elim}
use Prim.Native.Nat.{ℕ, ◌+◌, ◌<◌, ◌≤◌, ◌^◌}
use native.Mathlib.Omega.{arith}
use lib.Dec.{eqb, leb, ltb}
use borrow.Author.Tests.{eqb-false, leb-true, ltb-true, eq-eqb, ne_eqb, le-leb, lt-ltb, not-true}
use Rattle.records.specs.Stages.{unless, stage, every, pairs}
use Rattle.records.proofs.Tests.{both, both_left, both_right, either, either_left, either_right, implied, imply, first-zero, unless-zero, stage-zero, every_map, every_picked, pairs-picked, pairs_both}
use Rattle.item.specs.Items.{Fields, ranged, hole, end}
use Rattle.table.specs.declared.Row.{Row}
use Rattle.lists.specs.Lists.{item_sound, range_sound, rises, apart}
use Rattle.lists.proofs.Order.{Ranged, item-ranged}
use Rattle.lists.proofs.Laws.{Kept, item-file, ranged_of}
use Rattle.cut_def.proofs.Kept.{within}
use Rattle.clone_items.specs.declared.Copying.{Copying}
use Rattle.clone_items.specs.Copies.{overlaps, clone_item, copied, clones, source_record}

module _ (c : Copying) where
  -- where it overlaps
  pub record Overlap (f : Fields) : Type 0 where
    pub kind : f.kind ≡ 0 → ⊥
    pub ends : c.from < end f
    pub starts : f.key < c.from + c.span
    pub «no-hole» : hole f ≡ false

  pub picked : (f : Fields) → copied c f ≡ true → Overlap f
  picked f h =
      let k : Bool = not (eqb f.kind 0) in
      let o : Bool = overlaps c f in
      let r : (o && not (hole f)) ≡ true = both_right k (o && not (hole f)) h in
      let q : o ≡ true = both_left o (not (hole f)) r in
      record {
        kind = eqb-false f.kind 0 (not-true (eqb f.kind 0) (both_left k (o && not (hole f)) h));
        ends = ltb-true c.from (end f) (both_left (ltb c.from (end f)) (ltb f.key (c.from + c.span)) q);
        starts = ltb-true f.key (c.from + c.span) (both_right (ltb c.from (end f)) (ltb f.key (c.from + c.span)) q);
        «no-hole» = not-true (hole f) (both_right o (not (hole f)) r);
      }

  -- a source item that passes its checks is of kind 1 or 2 if it is picked
  abbrev pub usable : ℕ → Fields → Bool
  usable file f = item_sound file f && (not (copied c f) || ranged f)

  record_usable : (rs : List Row) (f : Fields) → source_record rs c f ≡ 0 → copied c f ≡ true → ranged f ≡ true
  record_usable rs f h p =
      let k = (picked f p).kind in
      let z = rw (ne_eqb f.kind 0 k) at h in
      ranged_of f k (leb-true f.kind 2 (unless-zero (leb f.kind 2) 8 (first-zero (unless (leb f.kind 2) 8) _ z).0 (λ e. omega arith)))

  pub all_usable : (rs : List Row) (file : ℕ) (fs : List Fields) → every (item_sound file) fs ≡ true → stage (source_record rs c) fs ≡ 0 → every (usable file) fs ≡ true
  unfolding every
  all_usable rs file [] s h = refl
  all_usable rs file (f ∷ fs) s h =
      let z = stage-zero (source_record rs c) f fs h in
      both (usable file f) (every (usable file) fs)
      (both (item_sound file f) (not (copied c f) || ranged f) (both_left (item_sound file f) (every (item_sound file) fs) s) (imply (copied c f) (ranged f) (record_usable rs f z.0)))
      (all_usable rs file fs (both_right (item_sound file f) (every (item_sound file) fs) s) z.1)

  -- what is known of a picked item
  pub record Good (file : ℕ) (f : Fields) : Type 0 where
    pub over : Overlap f
    pub ranges : ranged f ≡ true
    pub range : Ranged f
    pub typed : f.key_type ≡ 108

  pub good : (file : ℕ) (f : Fields) → usable file f ≡ true → copied c f ≡ true → Good file f
  good file f u p =
      let s = both_left (item_sound file f) (not (copied c f) || ranged f) u in
      let r = implied (copied c f) (ranged f) (both_right (item_sound file f) (not (copied c f) || ranged f) u) p in
      record { over = picked f p; ranges = r; range = item-ranged file f s r; typed = (item-file file f s).1 }

  abbrev copy : Fields → Fields
  copy f = clone_item c f

  -- its copy is sound, inside the destination's range
  module _ (pos : 0 < c.span) (room : c.to + c.span ≤ 2 ^ 63) (file : ℕ) (f : Fields) (g : Good file f) where
    copy_some : 1 ≤ (copy f).length
    copy_some = let a = g.over.ends in let b = g.over.starts in let d = g.range.some in omega arith

    copy_end : end (copy f) ≤ c.to + c.span
    copy_end = let a = g.over.ends in let b = g.over.starts in omega arith

    copy_fits : (copy f).position + (copy f).length < 2 ^ 64
    copy_fits = let a = g.over.ends in let b = g.over.starts in let d = g.range.fits in omega arith

    pub copy_sound_lem : item_sound c.number (copy f) ≡ true
    copy_sound_lem =
        both (eqb c.number c.number && eqb f.key_type 108) (not (ranged f) || range_sound (copy f))
        (both (eqb c.number c.number) (eqb f.key_type 108) (eq-eqb c.number c.number refl) (eq-eqb f.key_type 108 g.typed))
        (either_right (not (ranged f)) (range_sound (copy f))
        (both (leb 1 (copy f).length && leb (end (copy f)) (2 ^ 63)) (ltb ((copy f).position + (copy f).length) (2 ^ 64))
        (both (leb 1 (copy f).length) (leb (end (copy f)) (2 ^ 63)) (le-leb 1 (copy f).length copy_some) (le-leb (end (copy f)) (2 ^ 63) (omega (arith, copy_end))))
        (lt-ltb ((copy f).position + (copy f).length) (2 ^ 64) copy_fits)))

    pub copy_within : within c.to (c.to + c.span) (copy f) ≡ true
    copy_within = both (leb c.to (copy f).key) (leb (end (copy f)) (c.to + c.span)) (le-leb c.to (copy f).key (omega arith)) (le-leb (end (copy f)) (c.to + c.span) copy_end)

  -- copies of items that lie apart lie apart
  copies_apart : (file : ℕ) (f h : Fields) → Good file f → Good file h → (rises f h && apart f h) ≡ true → apart (copy f) (copy h) ≡ true
  copies_apart file f h g k r =
      let lt = ltb-true f.key h.key (both_left (rises f h) (apart f h) r) in
      let a = g.over.ends in
      let b = k.over.starts in
      let d = k.range.some in
      ⊎_elim
      (λ x. let y = leb-true (end f) h.key x in either_right (not (ranged f)) (not (ranged h) || (leb (end (copy f)) (copy h).key || leb (end (copy h)) (copy f).key)) (either_right (not (ranged h)) (leb (end (copy f)) (copy h).key || leb (end (copy h)) (copy f).key) (either_left (leb (end (copy f)) (copy h).key) (leb (end (copy h)) (copy f).key) (le-leb (end (copy f)) (copy h).key (omega arith)))))
      (λ x. let y = leb-true (end h) f.key x in absurd (omega arith))
      (either (leb (end f) h.key) (leb (end h) f.key) (implied (ranged h) (leb (end f) h.key || leb (end h) f.key) (implied (ranged f) (not (ranged h) || (leb (end f) h.key || leb (end h) f.key)) (both_right (rises f h) (apart f h) r) g.ranges) k.ranges))

  -- and rise as they do
  copies-rise : (file : ℕ) (f h : Fields) → Good file f → Good file h → (rises f h && apart f h) ≡ true → rises (copy f) (copy h) ≡ true
  copies-rise file f h g k r =
      let lt = ltb-true f.key h.key (both_left (rises f h) (apart f h) r) in
      let a = g.over.ends in
      let b = g.over.starts in
      let d = k.range.some in
      ⊎_elim
      (λ x. let y = leb-true (end f) h.key x in lt-ltb (copy f).key (copy h).key (omega arith))
      (λ x. let y = leb-true (end h) f.key x in absurd (omega arith))
      (either (leb (end f) h.key) (leb (end h) f.key) (implied (ranged h) (leb (end f) h.key || leb (end h) f.key) (implied (ranged f) (not (ranged h) || (leb (end f) h.key || leb (end h) f.key)) (both_right (rises f h) (apart f h) r) g.ranges) k.ranges))

  -- the copies of a list
  module _ (pos : 0 < c.span) (room : c.to + c.span ≤ 2 ^ 63) (rs : List Row) (file : ℕ) (fs : List Fields) (k : Kept file fs) (h : stage (source_record rs c) fs ≡ 0) where
    usables : every (usable file) fs ≡ true
    usables = all_usable rs file fs k.sound h

    abbrev copies : List Fields
    copies = clones c fs

    pub clones-sound : every (item_sound c.number) copies ≡ true
    clones-sound = every_picked (usable file) (copied c) copy (item_sound c.number) (λ f u p. copy_sound_lem pos room file f (good file f u p)) fs usables

    pub clones-ranged : every ranged copies ≡ true
    clones-ranged = every_picked (usable file) (copied c) copy ranged (λ f u p. (good file f u p).ranges) fs usables

    pub clones-within : every (within c.to (c.to + c.span)) copies ≡ true
    clones-within = every_picked (usable file) (copied c) copy (within c.to (c.to + c.span)) (λ f u p. copy_within pos room file f (good file f u p)) fs usables

    pub clones_solid : every (λ (f : Fields). not (hole f)) copies ≡ true
    clones_solid = every_picked (usable file) (copied c) copy (λ (f : Fields). not (hole f)) (λ f u p. both_right (overlaps c f) (not (hole f)) (both_right (not (eqb f.kind 0)) (overlaps c f && not (hole f)) p)) fs usables

    pub clones-apart : pairs apart copies ≡ true
    clones-apart =
        pairs-picked (usable file) (copied c) (λ f g. rises f g && apart f g) copy apart
        (λ f g uf ug pf pg r. copies_apart file f g (good file f uf pf) (good file g ug pg) r) fs usables (pairs_both rises apart fs k.rising k.separate)

    pub clones-rise : pairs rises copies ≡ true
    clones-rise =
        pairs-picked (usable file) (copied c) (λ f g. rises f g && apart f g) copy rises
        (λ f g uf ug pf pg r. copies-rise file f g (good file f uf pf) (good file g ug pg) r) fs usables (pairs_both rises apart fs k.rising k.separate)

    -- each starts in the range that is replaced
    pub clones-start : every (λ (f : Fields). leb c.to f.key && ltb f.key (c.to + c.span)) copies ≡ true
    clones-start =
        every_picked (usable file) (copied c) copy (λ (f : Fields). leb c.to f.key && ltb f.key (c.to + c.span))
        (λ f u p.
        let g = good file f u p in
        let a = copy_some pos room file f g in
        let b = copy_end pos room file f g in
        both (leb c.to (copy f).key) (ltb (copy f).key (c.to + c.span)) (le-leb c.to (copy f).key (omega arith)) (lt-ltb (copy f).key (c.to + c.span) (omega arith))) fs usables

    -- and an item that is copied has a sound range
    pub copied-sound : every (λ (f : Fields). not (copied c f) || range_sound f) fs ≡ true
    copied-sound =
        every_map (usable file) (λ (f : Fields). not (copied c f) || range_sound f)
        (λ f u.
        imply (copied c f) (range_sound f)
        (λ p.
        implied (ranged f) (range_sound f)
        (both_right (eqb f.file file && eqb f.key_type 108) (not (ranged f) || range_sound f) (both_left (item_sound file f) (not (copied c f) || ranged f) u))
        (good file f u p).ranges))
        fs usables
