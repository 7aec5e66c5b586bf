-- What each offset maps to after a change. Assumes nothing.
use mathlib.Core.Path.{◌≡◌, refl, ◌∙◌, sym}
use mathlib.Core.Bool.{Bool, true, false, cond, ◌&&◌, ◌||◌, not, false≢true}
use mathlib.Core.List.{List, [], ◌∷◌, flat_map}
use mathlib.Core.Logic.{◌⊎◌, inl, inr, ⊎_elim}
use mathlib.Core.Option.{none, some}
use Prim.Native.Nat.{ℕ, ◌+◌, ◌%◌, ◌<◌, ◌≤◌}
use native.Mathlib.Omega.{arith}
use lib.Dec.{eqb, leb, ltb}
use borrow.Author.Tests.{eqb-true, leb-true, ltb-true, le-leb, lt-ltb, not-true}
use Rattle.records.specs.Stages.{every}
use Rattle.records.specs.Select.{keep, any}
use Rattle.records.proofs.Tests.{both, both_left, both_right, either, either_left, either_right, every_map, every_both, every_picked}
use Rattle.records.proofs.Lists.{any_some, every_append, any_append, every-mapped, any-mapped, every_true, any-split, any-keep, every_flat, any_flat}
use Rattle.records.proofs.Counts.{count-any, any-count}
use Rattle.item.specs.Items.{Fields, ranged, hole, end}
use Rattle.lists.specs.Lists.{item_sound}
use Rattle.lists.proofs.Order.{item-ranged}
use Rattle.cut_def.specs.Mappings.{named, holds, Mapping, mapping_in, mapping}
use Rattle.cut_def.specs.Pieces.{Piece, items_of, insert_all}
use Rattle.cut_def.proofs.Mappings.{misses, fits, joins_show, cut-outside, cut_inside, insert_all_misses}
use Rattle.cut_def.proofs.Kept.{clear, every-insert_all}
use Rattle.cut_def.proofs.Counts.{insert_all-counts}
use Rattle.plan_def.specs.Places.{Wanted, place_sound, places_sound}
use Rattle.plan_def.proofs.Places.{places_count}
use Rattle.change_def.specs.Preallocs.{Stretch, piece_count, nth_piece, prealloc_pieces}
use Rattle.change_def.specs.declared.Rewrite.{Rewrite}
use Rattle.change_def.specs.Rewrites.{Ground, in_place, new_generation, item_in_place}
use Rattle.change_def.specs.Changes.{Change, before, new_items, pieces_written, pieces_joined, pieces_after, sectors_wanted, pieces_wanted, wanted}
use Rattle.change_def.proofs.Preallocs.{piece_inside, piece_holds}
use Rattle.change_def.proofs.Rewrites.{in_place_some}
use Rattle.change_def.proofs.Fair.{Fair, rewrite_inside, hole_inside, hole_free}
use Rattle.change_def.proofs.Each.{each_every, each_any, new_item, new-every, new-any, pieces-every, pieces-any}
use Rattle.change_def.proofs.Items.{clear_facts, clear-cut, holder_facts, inside, hole_facts, items_in_place, written-outside, joined-clear}
use Rattle.change_def.proofs.News.{sector_wanted, piece_wanted, place_some, adds-sound, every_piece}
use Rattle.change_def.proofs.Steps.{cut_items, joins_made, kept-written, ranged-written}

-- ---- an offset in a stretch

abbrev pub lies : (o a b : ℕ) → Bool
lies o a b = leb a o && ltb o b

lies_facts : (o a b : ℕ) → lies o a b ≡ true → (a ≤ o) × (o < b)
lies_facts o a b h = (leb-true a o (both_left (leb a o) (ltb o b) h), ltb-true o b (both_right (leb a o) (ltb o b) h))

lies_in : (o a b : ℕ) → a ≤ o → o < b → lies o a b ≡ true
lies_in o a b p q = both (leb a o) (ltb o b) (le-leb a o p) (lt-ltb o b q)

pub lies_off : (o a b : ℕ) → (a ≤ o → o < b → ⊥) → not (lies o a b) ≡ true
lies_off o a b h = go (lies o a b) refl
  where
    go : (t : Bool) → lies o a b ≡ t → not t ≡ true
    go true e = let p = lies_facts o a b e in absurd (h p.0 p.1)
    go false e = refl

off_facts : (o a b : ℕ) → not (lies o a b) ≡ true → a ≤ o → o < b → ⊥
off_facts o a b h p q = false≢true (sym (not-true (lies o a b) h) ∙ lies_in o a b p q)

-- in a rewritten sector, in a hole, in an extent wanted
abbrev pub on_sector : Ground → ℕ → Rewrite → Bool
on_sector g o r = lies o r.sector (r.sector + g.sector)

abbrev pub on_hole : ℕ → Stretch → Bool
on_hole o s = lies o s.start (s.start + s.length)

abbrev on_wanted : ℕ → Wanted → Bool
on_wanted o w = lies o w.key (w.key + w.length)

-- of kind 1 or 2, so that its item holds the offset
abbrev held_wanted : ℕ → Wanted → Bool
held_wanted o w = (eqb w.kind 1 || eqb w.kind 2) && on_wanted o w

-- an item that an offset does not lie in does not hold it
off_holds : (o : ℕ) (f : Fields) → not (lies o f.key (end f)) ≡ true → not (holds o f) ≡ true
off_holds o f h = rw (misses o f (off_facts o f.key (end f) h)) refl

-- a named one that it lies in does
on-holds : (o : ℕ) (f : Fields) → named f ≡ true → lies o f.key (end f) ≡ true → holds o f ≡ true
on-holds o f n h = both (named f) (lies o f.key (end f)) n h

-- ---- lists that hold an offset

-- where an item holds it, the offset leads into one that does
pub shown-some : (o : ℕ) (q : Fields → Bool) (fs : List Fields) → any (holds o) fs ≡ true → every (λ (f : Fields). not (holds o f) || q f) fs ≡ true
    → (f : Fields) × (q f ≡ true) × (mapping o fs ≡ some (mapping_in o f))
unfolding any every mapping
shown-some o q [] h k = absurd (false≢true h)
shown-some o q (f ∷ fs) h k =
    let t : Fields → Bool = λ f. not (holds o f) || q f in
    go (holds o f) refl h (both_left (t f) (every t fs) k) (λ j. shown-some o q fs j (both_right (t f) (every t fs) k))
  where
    go : (b : Bool) → holds o f ≡ b → (b || any (holds o) fs) ≡ true → (not b || q f) ≡ true
        → (any (holds o) fs ≡ true → (x : Fields) × (q x ≡ true) × (mapping o fs ≡ some (mapping_in o x)))
        → (x : Fields) × (q x ≡ true) × (cond b (some (mapping_in o f)) (mapping o fs) ≡ some (mapping_in o x))
    go true e h k s = (f, k, refl)
    go false e h k s = s h

-- and where it leads somewhere, an item holds it
pub shown-held : (o : ℕ) (fs : List Fields) (m : Mapping) → mapping o fs ≡ some m → any (holds o) fs ≡ true
unfolding any mapping
shown-held o [] m h = let z : ◌≡◌ {A = ℕ} 0 1 = cc in absurd (omega arith)
shown-held o (f ∷ fs) m h = go (holds o f) h (shown-held o fs m)
  where
    go : (b : Bool) → cond b (some (mapping_in o f)) (mapping o fs) ≡ some m → (mapping o fs ≡ some m → any (holds o) fs ≡ true) → (b || any (holds o) fs) ≡ true
    go true h s = refl
    go false h s = s h

held-insert : (o : ℕ) (xs : List Fields) (ps : List Piece) → (any (holds o) xs ≡ true) ⊎ (any (holds o) (items_of ps) ≡ true) → any (holds o) (items_of (insert_all xs ps)) ≡ true
held-insert o xs ps h =
    count-any (holds o) (items_of (insert_all xs ps))
    (⊎_elim (λ x. omega (arith, insert_all-counts (holds o) xs ps, any-count (holds o) xs x)) (λ x. omega (arith, insert_all-counts (holds o) xs ps, any-count (holds o) (items_of ps) x)) h)

-- where nothing is asked of them
pub unasked : (o : ℕ) (fs : List Fields) → every (λ (f : Fields). not (holds o f) || true) fs ≡ true
unasked o fs = every_map (λ (f : Fields). true) (λ (f : Fields). not (holds o f) || true) (λ f e. either_right (not (holds o f)) true refl) fs (every_true fs)

module _ (g : Ground) (c : Change) (fair : Fair g c) (o : ℕ) where
  -- ---- the items written in place, and the joins

  written_off : every (λ (r : Rewrite). not (on_sector g o r)) c.rewrites ≡ true → every (λ (x : Fields). not (holds o x)) (items_in_place g c) ≡ true
  written_off h = each_every g (item_in_place g) (λ (r : Rewrite). not (on_sector g o r)) (λ (x : Fields). not (holds o x)) (λ r k u s. off_holds o (item_in_place g r k) u) c.rewrites h

  fits_written : every fits (items_of (pieces_written g c)) ≡ true
  fits_written =
      let fs : List Fields = items_of (pieces_written g c) in
      every_map (λ (f : Fields). item_sound g.file f && ranged f) fits
      (λ f h. lt-ltb _ _ (item-ranged g.file f (both_left (item_sound g.file f) (ranged f) h) (both_right (item_sound g.file f) (ranged f) h)).fits)
      fs (every_both (item_sound g.file) ranged fs (kept-written g c fair).sound (ranged-written g c fair))

  joined-shown : mapping o (items_of (pieces_joined g c)) ≡ mapping o (items_of (pieces_written g c))
  joined-shown = joins_show (new_generation g) o (joins_made g c) fits_written

  -- an offset in no sector written in place leads where the cut left it
  cut-shown : every (λ (r : Rewrite). not (on_sector g o r)) c.rewrites ≡ true → mapping o (items_of (pieces_joined g c)) ≡ mapping o (items_of (cut_items g c))
  unfolding pieces_written
  cut-shown h = joined-shown ∙ insert_all_misses o (items_in_place g c) (cut_items g c) (written_off h)

  -- an offset in a sector written in place is held
  written_on : any (λ (r : Rewrite). on_sector g o r && in_place g r) c.rewrites ≡ true → any (holds o) (items_of (pieces_written g c)) ≡ true
  unfolding pieces_written
  written_on h =
      held-insert o (items_in_place g c) (cut_items g c)
      (inl (each_any g (item_in_place g) (λ (r : Rewrite). on_sector g o r && in_place g r) (λ (r : Rewrite). true) (holds o)
      (λ r k x u s. on-holds o (item_in_place g r k) (rw (holder_facts g r k s).solid refl) (both_left (on_sector g o r) (in_place g r) x))
      (λ r x. (in_place_some g r).0 (both_right (on_sector g o r) (in_place g r) x)) c.rewrites h (every_true c.rewrites)))

  -- outside the cut no sector is rewritten, inside there is no hole
  outside_sectors : (o < c.lo) ⊎ (c.hi ≤ o) → every (λ (r : Rewrite). not (on_sector g o r)) c.rewrites ≡ true
  outside_sectors out =
      every_map (rewrite_inside g c) (λ (r : Rewrite). not (on_sector g o r))
      (λ r u. let i = inside g c r u in let low = i.low in let high = i.high in lies_off o r.sector (r.sector + g.sector) (λ p q. ⊎_elim (λ x. omega arith) (λ x. omega arith) out))
      c.rewrites fair.rewrites

  inside-holes : c.lo ≤ o → o < c.hi → every (λ (s : Stretch). not (on_hole o s)) c.holes ≡ true
  inside-holes a b =
      every_map (hole_inside g c) (λ (s : Stretch). not (on_hole o s))
      (λ s h. lies_off o s.start (s.start + s.length) (λ p q. ⊎_elim (λ x. omega arith) (λ x. omega arith) (hole_facts g c s h).side))
      c.holes fair.holes

  module _ (limit : ℕ) (pos : 0 < limit) (sectors : limit % g.sector ≡ 0) (places : List ℕ) (sound : places_sound g.rows places (wanted g c limit) ≡ true) where
    -- ---- the extents wanted

    sectors_off : every (λ (r : Rewrite). not (on_sector g o r)) c.rewrites ≡ true → every (λ (w : Wanted). not (on_wanted o w)) (sectors_wanted g c limit) ≡ true
    sectors_off h = every_picked (λ (r : Rewrite). not (on_sector g o r)) (λ (r : Rewrite). not (in_place g r)) (sector_wanted g) (λ (w : Wanted). not (on_wanted o w)) (λ r u p. u) c.rewrites h

    pieces_off : every (λ (s : Stretch). not (on_hole o s)) c.holes ≡ true → every (λ (w : Wanted). not (on_wanted o w)) (pieces_wanted g c limit) ≡ true
    pieces_off h =
        every-mapped (λ (w : Wanted). not (on_wanted o w)) piece_wanted (flat_map (prealloc_pieces limit) c.holes)
        ∙ every_flat (λ (s : Stretch). not (on_hole o s)) (prealloc_pieces limit) (λ (x : Stretch). not (on_hole o x))
        (λ s e. pieces-every limit s (λ (x : Stretch). not (on_hole o x)) 0 (piece_count limit s.length)
        (λ i a b. let p = piece_inside limit pos s i (omega arith) in let x = p.0 in let y = p.1 in
        lies_off o (nth_piece limit s i).start ((nth_piece limit s i).start + (nth_piece limit s i).length) (λ l m. off_facts o s.start (s.start + s.length) e (omega arith) (omega arith))))
        c.holes h

    -- an offset in none of them leads where it did before
    joined-after : every (λ (w : Wanted). not (on_wanted o w)) (wanted g c limit) ≡ true → mapping o (items_of (pieces_after g c limit places)) ≡ mapping o (items_of (pieces_joined g c))
    unfolding pieces_after
    joined-after h =
        insert_all_misses o (new_items g places (wanted g c limit)) (pieces_joined g c)
        (new-every g (place_sound g.rows) (λ (w : Wanted). not (on_wanted o w)) (λ (x : Fields). not (holds o x)) (λ p w v u. off_holds o (new_item g p w) u) places (wanted g c limit) (adds-sound g c fair limit pos sectors places sound) h)

    off_wanted : every (λ (r : Rewrite). not (on_sector g o r)) c.rewrites ≡ true → every (λ (s : Stretch). not (on_hole o s)) c.holes ≡ true → every (λ (w : Wanted). not (on_wanted o w)) (wanted g c limit) ≡ true
    off_wanted h k = every_append (λ (w : Wanted). not (on_wanted o w)) (sectors_wanted g c limit) (pieces_wanted g c limit) (sectors_off h) (pieces_off k)

    -- ---- where nothing is put

    -- outside the cut and every hole an offset maps to what it did
    pub mapping-outside : (o < c.lo) ⊎ (c.hi ≤ o) → every (λ (s : Stretch). not (on_hole o s)) c.holes ≡ true → mapping o (items_of (pieces_after g c limit places)) ≡ mapping o (before g c)
    mapping-outside out free =
        joined-after (off_wanted (outside_sectors out) free) ∙ cut-shown (outside_sectors out) ∙ cut-outside c.lo c.hi o (before g c) out

    -- inside the cut, and in no rewritten sector, to nothing
    pub mapping-inside : c.lo ≤ o → o < c.hi → every (λ (r : Rewrite). not (on_sector g o r)) c.rewrites ≡ true → mapping o (items_of (pieces_after g c limit places)) ≡ none
    mapping-inside p q off =
        joined-after (off_wanted off (inside-holes p q)) ∙ cut-shown off ∙ cut_inside c.lo c.hi o (before g c) p q

    -- ---- where something is

    new-holds : any (held_wanted o) (wanted g c limit) ≡ true → any (holds o) (new_items g places (wanted g c limit)) ≡ true
    new-holds h =
        new-any g (place_sound g.rows) (held_wanted o) (holds o)
        (λ p w v u. on-holds o (new_item g p w)
        (both (ranged (new_item g p w)) (not (hole (new_item g p w))) (both_left (eqb w.kind 1 || eqb w.kind 2) (on_wanted o w) u) (place_some g.rows p w v))
        (both_right (eqb w.kind 1 || eqb w.kind 2) (on_wanted o w) u))
        places (wanted g c limit) (places_count g.rows places (wanted g c limit) sound) (adds-sound g c fair limit pos sectors places sound) h

    -- in a hole to a preallocated piece
    pub mapping-hole : any (on_hole o) c.holes ≡ true → (m : Mapping) × (mapping o (items_of (pieces_after g c limit places)) ≡ some m) × (m.kind ≡ 2)
    unfolding pieces_after
    mapping-hole h =
        let y = any_some (on_hole o) (λ (s : Stretch). hole_inside g c s && hole_free (before g c) s) c.holes h (every_both (hole_inside g c) (hole_free (before g c)) c.holes fair.holes fair.free) in
        let s : Stretch = y.0 in
        let on = lies_facts o s.start (s.start + s.length) y.1 in
        let l = on.0 in
        let r = on.1 in
        let k = hole_facts g c s (both_left (hole_inside g c s) (hole_free (before g c) s) y.2) in
        let fr : hole_free (before g c) s ≡ true = both_right (hole_inside g c s) (hole_free (before g c) s) y.2 in
        let out : (o < c.lo) ⊎ (c.hi ≤ o) = ⊎_elim (λ x. inl (omega arith)) (λ x. inr (omega arith)) k.side in
        let none : every (clear s.start (s.start + s.length)) (items_of (pieces_joined g c)) ≡ true =
        joined-clear g c s.start (s.start + s.length) (omega arith) (clear-cut s.start (s.start + s.length) c.lo c.hi (before g c) fr) (written-outside g c fair s.start (s.start + s.length) k.side) in
        let z = shown-some o (λ (f : Fields). eqb f.kind 2) (items_of (pieces_after g c limit places))
        (held-insert o (new_items g places (wanted g c limit)) (pieces_joined g c) (inl (new-holds (any_append (held_wanted o) (sectors_wanted g c limit) (pieces_wanted g c limit) (either_right (any (held_wanted o) (sectors_wanted g c limit)) (any (held_wanted o) (pieces_wanted g c limit)) there)))))
        (every-insert_all (λ (f : Fields). not (holds o f) || eqb f.kind 2) (new_items g places (wanted g c limit)) (pieces_joined g c) (kinds out)
        (every_map (clear s.start (s.start + s.length)) (λ (f : Fields). not (holds o f) || eqb f.kind 2)
        (λ f e. either_left (not (holds o f)) (eqb f.kind 2) (rw (misses o f (λ a b. ⊎_elim (λ x. omega arith) (λ x. omega arith) (clear_facts s.start (s.start + s.length) f e))) refl))
        (items_of (pieces_joined g c)) none)) in
        (mapping_in o z.0, z.2, eqb-true z.0.kind 2 z.1)
      where
        there : any (held_wanted o) (pieces_wanted g c limit) ≡ true
        there =
            any-mapped (held_wanted o) piece_wanted (flat_map (prealloc_pieces limit) c.holes)
            ∙ any_flat (on_hole o) (λ (s : Stretch). true) (prealloc_pieces limit) (on_hole o)
            (λ s e t.
            let on = lies_facts o s.start (s.start + s.length) e in
            let n = piece_holds limit pos s o on.0 on.1 in
            pieces-any limit s (on_hole o) 0 (piece_count limit s.length) n.0 (omega arith) (omega (arith, n.1))
            (lies_in o (nth_piece limit s n.0).start ((nth_piece limit s n.0).start + (nth_piece limit s n.0).length) n.2 n.3))
            c.holes h (every_true c.holes)

        kinds : (o < c.lo) ⊎ (c.hi ≤ o) → every (λ (f : Fields). not (holds o f) || eqb f.kind 2) (new_items g places (wanted g c limit)) ≡ true
        kinds out =
            new-every g (place_sound g.rows) (λ (w : Wanted). not (on_wanted o w) || eqb w.kind 2) (λ (f : Fields). not (holds o f) || eqb f.kind 2)
            (λ p w v u. ⊎_elim (λ x. either_left (not (holds o (new_item g p w))) (eqb w.kind 2) (off_holds o (new_item g p w) x)) (λ x. either_right (not (holds o (new_item g p w))) (eqb w.kind 2) x) (either (not (on_wanted o w)) (eqb w.kind 2) u))
            places (wanted g c limit) (adds-sound g c fair limit pos sectors places sound)
            (every_append (λ (w : Wanted). not (on_wanted o w) || eqb w.kind 2) (sectors_wanted g c limit) (pieces_wanted g c limit)
            (every_map (λ (w : Wanted). not (on_wanted o w)) (λ (w : Wanted). not (on_wanted o w) || eqb w.kind 2) (λ w x. either_left (not (on_wanted o w)) (eqb w.kind 2) x) (sectors_wanted g c limit) (sectors_off (outside_sectors out)))
            (every_piece g c fair limit pos (λ (w : Wanted). not (on_wanted o w) || eqb w.kind 2) (λ s i k f l. either_right (not (on_wanted o (piece_wanted (nth_piece limit s i)))) true refl)))

    -- in a rewritten sector to something
    pub mapping-sector : any (on_sector g o) c.rewrites ≡ true → (m : Mapping) × (mapping o (items_of (pieces_after g c limit places)) ≡ some m)
    unfolding pieces_after
    mapping-sector h =
        let z = shown-some o (λ (f : Fields). true) (items_of (pieces_after g c limit places))
        (held-insert o (new_items g places (wanted g c limit)) (pieces_joined g c) (⊎_elim (λ x. inr (kept_place x)) (λ x. inl (new_place x)) (any-split (on_sector g o) (in_place g) c.rewrites h)))
        (unasked o (items_of (pieces_after g c limit places))) in
        (mapping_in o z.0, z.2)
      where
        new_place : any (λ (r : Rewrite). on_sector g o r && not (in_place g r)) c.rewrites ≡ true → any (holds o) (new_items g places (wanted g c limit)) ≡ true
        new_place x =
            new-holds (any_append (held_wanted o) (sectors_wanted g c limit) (pieces_wanted g c limit)
            (either_left (any (held_wanted o) (sectors_wanted g c limit)) (any (held_wanted o) (pieces_wanted g c limit))
            (any-mapped (held_wanted o) (sector_wanted g) (keep (λ (r : Rewrite). not (in_place g r)) c.rewrites) ∙ any-keep (on_sector g o) (λ (r : Rewrite). not (in_place g r)) c.rewrites x)))

        kept_place : any (λ (r : Rewrite). on_sector g o r && in_place g r) c.rewrites ≡ true → any (holds o) (items_of (pieces_joined g c)) ≡ true
        kept_place x =
            let z = shown-some o (λ (f : Fields). true) (items_of (pieces_written g c)) (written_on x) (unasked o (items_of (pieces_written g c))) in
            shown-held o (items_of (pieces_joined g c)) (mapping_in o z.0) (joined-shown ∙ z.2)
