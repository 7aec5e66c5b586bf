-- The extents that a change wants and the items over them: sound, and clear of all others. Assumes nothing.
use mathlib.Core.Path.{◌≡◌, refl, ◌∙◌}
use mathlib.Core.Bool.{Bool, true, false, ◌&&◌, ◌||◌, not}
use mathlib.Core.List.{List, flat_map}
use mathlib.Core.Logic.{inl, inr, ⊎_elim}
use Prim.Native.Nat.{ℕ, ◌+◌, ◌%◌, ◌^◌, ◌<◌, ◌≤◌}
use native.Mathlib.Omega.{arith}
use native.Mathlib.Nat.{mod_self}
use lib.Dec.{eqb, leb, ltb}
use lib.ListN.{length}
use borrow.Author.Tests.{eqb-true, leb-true, eq-eqb, le-leb, not-true}
use Rattle.records.specs.Stages.{every, pairs}
use Rattle.records.proofs.Tests.{both, both_left, both_right, either_left, either_right, every_map, every_both, every_picked, pairs-picked}
use Rattle.records.proofs.Lists.{every_append, pairs_append, every-mapped, pairs-mapped, every_flat, pairs-flat}
use Rattle.item.specs.Items.{Fields, ranged, hole, reference}
use Rattle.lists.specs.Lists.{item_sound, apart, whole_sectors}
use Rattle.table.specs.declared.Row.{Row}
use Rattle.cut_def.specs.Pieces.{items_of, cut_pieces}
use Rattle.cut_def.specs.Mappings.{named}
use Rattle.cut_def.proofs.Kept.{clear, clear_apart, cut-clear, all_apart}
use Rattle.plan_def.specs.Places.{Wanted, placed, place_sound, places_apart, places_sound, clear as placesClear}
use Rattle.change_def.specs.Preallocs.{Stretch, piece_count, nth_piece, prealloc_pieces}
use Rattle.change_def.specs.declared.Rewrite.{Rewrite}
use Rattle.change_def.specs.Rewrites.{Ground, in_place}
use Rattle.change_def.specs.Changes.{Change, before, new_items, pieces_joined, sectors_wanted, pieces_wanted, wanted}
use Rattle.change_def.proofs.Preallocs.{piece_some, piece_inside, piece_apart, piece_start_whole, piece_length_whole}
use Rattle.change_def.proofs.Fair.{Fair, rewrite_inside, rewrites_rise, hole_inside, hole_free, holes_rise}
use Rattle.change_def.proofs.Each.{new_item, add_at, new-every, new-pairs, pieces-every, pieces-pairs}
use Rattle.change_def.proofs.Items.{clear-part, apart-clear, clear-cut, sound-item, whole_item, Inside, inside, Hole, hole_facts, sector-some, written-outside, written-elsewhere, joined-clear}

-- ---- an extent wanted

-- some whole sectors below the limit, of kind 1 or 2
abbrev pub wanted_sound : ℕ → Wanted → Bool
wanted_sound s w = (eqb (w.key % s) 0 && eqb (w.length % s) 0) && ((leb 1 w.length && leb (w.key + w.length) (2 ^ 63)) && (eqb w.kind 1 || eqb w.kind 2))

pub record Wants (s : ℕ) (w : Wanted) : Type 0 where
  pub start : w.key % s ≡ 0
  pub sectors : w.length % s ≡ 0
  pub some : 1 ≤ w.length
  pub ends : w.key + w.length ≤ 2 ^ 63
  pub kind : (eqb w.kind 1 || eqb w.kind 2) ≡ true

pub wants : (s : ℕ) (w : Wanted) → wanted_sound s w ≡ true → Wants s w
wants s w h =
    let a : Bool = eqb (w.key % s) 0 in
    let b : Bool = eqb (w.length % s) 0 in
    let o : Bool = leb 1 w.length in
    let e : Bool = leb (w.key + w.length) (2 ^ 63) in
    let k : Bool = eqb w.kind 1 || eqb w.kind 2 in
    let p : (a && b) ≡ true = both_left (a && b) ((o && e) && k) h in
    let q : ((o && e) && k) ≡ true = both_right (a && b) ((o && e) && k) h in
    let i : (o && e) ≡ true = both_left (o && e) k q in
    record {
      start = eqb-true (w.key % s) 0 (both_left a b p);
      sectors = eqb-true (w.length % s) 0 (both_right a b p);
      some = leb-true 1 w.length (both_left o e i);
      ends = leb-true (w.key + w.length) (2 ^ 63) (both_right o e i);
      kind = both_right (o && e) k q;
    }

are_wanted : (s : ℕ) (w : Wanted) → Wants s w → wanted_sound s w ≡ true
are_wanted s w h =
    rw (eq-eqb (w.key % s) 0 h.start, eq-eqb (w.length % s) 0 h.sectors, le-leb 1 w.length h.some, le-leb (w.key + w.length) (2 ^ 63) h.ends, h.kind) refl

-- two share no byte
abbrev pub wanted_apart : Wanted → Wanted → Bool
wanted_apart a d = leb (d.key + d.length) a.key || leb (a.key + a.length) d.key

wanted-before : (a d : Wanted) → a.key + a.length ≤ d.key → wanted_apart a d ≡ true
wanted-before a d l = either_right (leb (d.key + d.length) a.key) (leb (a.key + a.length) d.key) (le-leb (a.key + a.length) d.key l)

wanted-behind : (a d : Wanted) → d.key + d.length ≤ a.key → wanted_apart a d ≡ true
wanted-behind a d l = either_left (leb (d.key + d.length) a.key) (leb (a.key + a.length) d.key) (le-leb (d.key + d.length) a.key l)

-- clear of these items
abbrev pub wanted_clear : List Fields → Wanted → Bool
wanted_clear fs w = every (clear w.key (w.key + w.length)) fs

-- for a rewritten sector, and for a piece of a hole
abbrev pub sector_wanted : Ground → Rewrite → Wanted
sector_wanted g r = record { key = r.sector; length = g.sector; kind = 1 }

abbrev pub piece_wanted : Stretch → Wanted
piece_wanted s = record { key = s.start; length = s.length; kind = 2 }

-- a sound place is not 0
pub place_some : (rows : List Row) (p : ℕ) (w : Wanted) → place_sound rows (add_at p w) ≡ true → not (eqb p 0) ≡ true
place_some rows p w v = both_left (not (eqb p 0)) (ltb (p + w.length) (2 ^ 64) && every (λ (row : Row). placesClear p w.length row.start row.length) rows) v

-- the reference offset of an item over a new extent is its key
pub new-reference : (g : Ground) (p : ℕ) (w : Wanted) → Wants g.sector w → reference (new_item g p w) ≡ w.key
new-reference g p w u = omega (arith, u.ends)

module _ (g : Ground) (c : Change) (fair : Fair g c) (limit : ℕ) (pos : 0 < limit) where
  -- ---- tests of all extents wanted

  -- the holes, each inside and free
  abbrev hole_sound : Stretch → Bool
  hole_sound s = hole_inside g c s && hole_free (before g c) s

  holes-sound : every hole_sound c.holes ≡ true
  holes-sound = every_both (hole_inside g c) (hole_free (before g c)) c.holes fair.holes fair.free

  pub every-sector : (q : Wanted → Bool) → ((r : Rewrite) → rewrite_inside g c r ≡ true → in_place g r ≡ false → q (sector_wanted g r) ≡ true) → every q (sectors_wanted g c limit) ≡ true
  every-sector q f =
      every_picked (rewrite_inside g c) (λ (r : Rewrite). not (in_place g r)) (sector_wanted g) q (λ r u p. f r u (not-true (in_place g r) p)) c.rewrites fair.rewrites

  pub every_piece : (q : Wanted → Bool)
      → ((s : Stretch) (i : ℕ) → Hole g c s → hole_free (before g c) s ≡ true → i < piece_count limit s.length → q (piece_wanted (nth_piece limit s i)) ≡ true)
      → every q (pieces_wanted g c limit) ≡ true
  every_piece q f =
      every-mapped q piece_wanted (flat_map (prealloc_pieces limit) c.holes)
      ∙ every_flat hole_sound (prealloc_pieces limit) (λ (s : Stretch). q (piece_wanted s))
      (λ s e. pieces-every limit s (λ (x : Stretch). q (piece_wanted x)) 0 (piece_count limit s.length)
      (λ i a b. f s i (hole_facts g c s (both_left (hole_inside g c s) (hole_free (before g c) s) e)) (both_right (hole_inside g c s) (hole_free (before g c) s) e) (omega arith)))
      c.holes holes-sound

  -- ---- apart

  sectors_apart : pairs wanted_apart (sectors_wanted g c limit) ≡ true
  sectors_apart =
      pairs-picked (rewrite_inside g c) (λ (r : Rewrite). not (in_place g r)) (rewrites_rise g) (sector_wanted g) wanted_apart
      (λ a d ua ud pa pd r. wanted-before (sector_wanted g a) (sector_wanted g d) (leb-true (a.sector + g.sector) d.sector r)) c.rewrites fair.rewrites fair.rising

  -- the pieces lie one behind the other: what holds of two of which one ends at most where the other starts
  pub pairs_piece : (q : Wanted → Wanted → Bool) → ((x y : Stretch) → 1 ≤ x.length → x.start + x.length ≤ y.start → q (piece_wanted x) (piece_wanted y) ≡ true) → pairs q (pieces_wanted g c limit) ≡ true
  pairs_piece q f =
      pairs-mapped q piece_wanted (flat_map (prealloc_pieces limit) c.holes)
      ∙ pairs-flat (hole_inside g c) holes_rise (prealloc_pieces limit) (λ (x y : Stretch). q (piece_wanted x) (piece_wanted y))
      (λ s e. pieces-pairs limit s (λ (x y : Stretch). q (piece_wanted x) (piece_wanted y)) 0 (piece_count limit s.length)
      (λ i j a b d. f (nth_piece limit s i) (nth_piece limit s j) (piece_some limit pos s i (omega arith)) (piece_apart limit pos s i j b)))
      two c.holes fair.holes fair.apart
    where
      two : (s t : Stretch) → hole_inside g c s ≡ true → hole_inside g c t ≡ true → holes_rise s t ≡ true
          → every (λ (x : Stretch). every (λ (y : Stretch). q (piece_wanted x) (piece_wanted y)) (prealloc_pieces limit t)) (prealloc_pieces limit s) ≡ true
      two s t hs ht r =
          let l = leb-true (s.start + s.length) t.start r in
          pieces-every limit s (λ (x : Stretch). every (λ (y : Stretch). q (piece_wanted x) (piece_wanted y)) (prealloc_pieces limit t)) 0 (piece_count limit s.length)
          (λ i a b. pieces-every limit t (λ (y : Stretch). q (piece_wanted (nth_piece limit s i)) (piece_wanted y)) 0 (piece_count limit t.length)
          (λ j d e. let u = (piece_inside limit pos s i (omega arith)).1 in let v = (piece_inside limit pos t j (omega arith)).0 in f (nth_piece limit s i) (nth_piece limit t j) (piece_some limit pos s i (omega arith)) (omega arith)))

  pieces-apart : pairs wanted_apart (pieces_wanted g c limit) ≡ true
  pieces-apart = pairs_piece wanted_apart (λ x y o l. wanted-before (piece_wanted x) (piece_wanted y) l)

  -- no two extents wanted share a byte of the file
  pub wanted-apart : pairs wanted_apart (wanted g c limit) ≡ true
  wanted-apart =
      pairs_append wanted_apart (sectors_wanted g c limit) (pieces_wanted g c limit) sectors_apart pieces-apart
      (every-sector (λ (w : Wanted). every (wanted_apart w) (pieces_wanted g c limit))
      (λ r u n. every_piece (wanted_apart (sector_wanted g r)) (λ s i h f l. away r (inside g c r u) s i h l)))
    where
      away : (r : Rewrite) → Inside g c r → (s : Stretch) (i : ℕ) → Hole g c s → i < piece_count limit s.length → wanted_apart (sector_wanted g r) (piece_wanted (nth_piece limit s i)) ≡ true
      away r u s i h l =
          let p = piece_inside limit pos s i l in
          let a = p.0 in
          let b = p.1 in
          let low = u.low in
          let high = u.high in
          ⊎_elim
          (λ x. wanted-behind (sector_wanted g r) (piece_wanted (nth_piece limit s i)) (omega arith))
          (λ x. wanted-before (sector_wanted g r) (piece_wanted (nth_piece limit s i)) (omega arith))
          h.side

  -- ---- clear of the file's items

  -- once it is cut, written in place and joined
  pub wanted-clear : every (wanted_clear (items_of (pieces_joined g c))) (wanted g c limit) ≡ true
  wanted-clear =
      every_append (wanted_clear (items_of (pieces_joined g c))) (sectors_wanted g c limit) (pieces_wanted g c limit)
      (every-sector (wanted_clear (items_of (pieces_joined g c))) (λ r u n. sector r u n))
      (every_piece (wanted_clear (items_of (pieces_joined g c))) (λ s i h f l. piece s i h f l))
    where
      sector : (r : Rewrite) → rewrite_inside g c r ≡ true → in_place g r ≡ false → wanted_clear (items_of (pieces_joined g c)) (sector_wanted g r) ≡ true
      sector r u n =
          let i = inside g c r u in
          let p = sector-some g c fair in
          let low = i.low in
          let high = i.high in
          joined-clear g c r.sector (r.sector + g.sector) (omega arith)
          (every_map (clear c.lo c.hi) (clear r.sector (r.sector + g.sector)) (clear-part c.lo c.hi r.sector (r.sector + g.sector) low high) (items_of (cut_pieces c.lo c.hi (before g c))) (cut-clear c.lo c.hi (before g c) (omega arith)))
          (written-elsewhere g c fair r u n)

      piece : (s : Stretch) (i : ℕ) → Hole g c s → hole_free (before g c) s ≡ true → i < piece_count limit s.length → wanted_clear (items_of (pieces_joined g c)) (piece_wanted (nth_piece limit s i)) ≡ true
      piece s i h f l =
          let x : Stretch = nth_piece limit s i in
          let p = piece_inside limit pos s i l in
          let o = piece_some limit pos s i l in
          let a = p.0 in
          let b = p.1 in
          joined-clear g c x.start (x.start + x.length) (omega arith)
          (clear-cut x.start (x.start + x.length) c.lo c.hi (before g c) (every_map (clear s.start (s.start + s.length)) (clear x.start (x.start + x.length)) (clear-part s.start (s.start + s.length) x.start (x.start + x.length) a b) (before g c) f))
          (written-outside g c fair x.start (x.start + x.length) (⊎_elim (λ y. inl (omega arith)) (λ y. inr (omega arith)) h.side))

  -- ---- sound
  module _ (sectors : limit % g.sector ≡ 0) where
    pub wanted-sound : every (wanted_sound g.sector) (wanted g c limit) ≡ true
    wanted-sound =
        every_append (wanted_sound g.sector) (sectors_wanted g c limit) (pieces_wanted g c limit)
        (every-sector (wanted_sound g.sector)
        (λ r u n. let i = inside g c r u in are_wanted g.sector (sector_wanted g r) (record { start = i.start; sectors = mod_self g.sector; some = omega (arith, sector-some g c fair); ends = omega (arith, i.high, fair.limit); kind = refl })))
        (every_piece (wanted_sound g.sector)
        (λ s i h f l. are_wanted g.sector (piece_wanted (nth_piece limit s i)) (record {
          start = piece_start_whole limit pos s g.sector sectors h.start h.sectors i;
          sectors = piece_length_whole limit pos s g.sector sectors h.start h.sectors i;
          some = piece_some limit pos s i l;
          ends = omega (arith, (piece_inside limit pos s i l).1, h.ends);
          kind = refl;
        })))

    -- ---- the items over them
    module _ (places : List ℕ) (sound : places_sound g.rows places (wanted g c limit) ≡ true) where
      -- each place is sound
      pub adds-sound : every (place_sound g.rows) (placed places (wanted g c limit)) ≡ true
      unfolding places_sound
      adds-sound =
          let n : Bool = eqb (length places) (length (wanted g c limit)) in
          let e : Bool = every (place_sound g.rows) (placed places (wanted g c limit)) in
          let a : Bool = pairs places_apart (placed places (wanted g c limit)) in
          both_left e a (both_right n (e && a) sound)

      -- what holds of each new item
      pub every-new : (q : Fields → Bool) → ((p : ℕ) (w : Wanted) → place_sound g.rows (add_at p w) ≡ true → Wants g.sector w → q (new_item g p w) ≡ true) → every q (new_items g places (wanted g c limit)) ≡ true
      every-new q f = new-every g (place_sound g.rows) (wanted_sound g.sector) q (λ p w v u. f p w v (wants g.sector w u)) places (wanted g c limit) adds-sound wanted-sound

      -- sound for the file
      pub new-sound : every (item_sound g.file) (new_items g places (wanted g c limit)) ≡ true
      new-sound = every-new (item_sound g.file) (λ p w v u. sound-item g.file (new_item g p w) refl refl u.some u.ends (omega (arith, u.ends)))

      -- of kind 1 or 2
      pub new-ranged : every ranged (new_items g places (wanted g c limit)) ≡ true
      new-ranged = every-new ranged (λ p w v u. u.kind)

      -- whole sectors
      pub new_whole : every (whole_sectors g.sector) (new_items g places (wanted g c limit)) ≡ true
      new_whole = every-new (whole_sectors g.sector) (λ p w v u. whole_item g.sector (new_item g p w) u.start u.sectors)

      -- no holes
      pub new-named : every named (new_items g places (wanted g c limit)) ≡ true
      new-named = every-new named (λ p w v u. both (ranged (new_item g p w)) (not (hole (new_item g p w))) u.kind (place_some g.rows p w v))

      -- apart from each other
      pub new_apart : pairs apart (new_items g places (wanted g c limit)) ≡ true
      new_apart = new-pairs g wanted_apart apart (λ p q a d h. apart-clear (new_item g p a) (new_item g q d) h) places (wanted g c limit) wanted-apart

      -- and from all other items
      pub new_away : all_apart (new_items g places (wanted g c limit)) (items_of (pieces_joined g c)) ≡ true
      new_away =
          new-every g (place_sound g.rows) (wanted_clear (items_of (pieces_joined g c))) (λ (x : Fields). every (apart x) (items_of (pieces_joined g c)))
          (λ p w v u. clear_apart w.key (w.key + w.length) (new_item g p w) (items_of (pieces_joined g c)) (omega arith) (omega arith) u) places (wanted g c limit) adds-sound wanted-clear
