-- Of `change_range`: every item that it makes has numbers that fit. Assumes nothing.
use mathlib.Core.Path.{◌≡◌, refl}
use mathlib.Core.Bool.{Bool, true, ◌&&◌, not}
use mathlib.Core.List.{List, Memᴰ}
use Prim.Native.Nat.{ℕ, ◌+◌, ◌%◌, ◌<◌, ◌^◌}
use native.Mathlib.Omega.{arith}
use lib.Dec.{eqb, ltb}
use borrow.Author.Tests.{ltb-true}
use Rattle.records.specs.Stages.{every, pairs}
use Rattle.records.proofs.Tests.{both_left, both_right, every_map, every_both, either_right}
use Rattle.records.proofs.Lists.{every_mem, every-mapped}
use Rattle.item.specs.Items.{Fields, ranged, joined}
use Rattle.lists.specs.Lists.{item_sound, rises}
use Rattle.cut_def.specs.Pieces.{Piece, items_of}
use Rattle.cut_def.specs.Edits.{edits}
use Rattle.cut_def.proofs.Mappings.{joins_every}
use Rattle.cut_def.proofs.Kept.{every-cut, every-insert_all}
use Rattle.cut_def.proofs.Applied.{edits_pass, put_passes}
use Rattle.ref_def.specs.Drops.{InLeaf}
use Rattle.table.specs.declared.Row.{Row}
use Rattle.plan_def.specs.Places.{places_sound, place_sound, clear, Wanted}
use Rattle.change_def.specs.Rewrites.{Ground, new_generation, item_in_place}
use Rattle.change_def.specs.Changes.{Change, before, pieces_written, pieces_joined, pieces_after, wanted, plan_of}
use Rattle.change_def.proofs.Each.{each_every, add_at, new_item}
use Rattle.change_def.proofs.Fair.{Fair, rewrite_inside}
use Rattle.change_def.proofs.News.{Wants, every-new}
use Rattle.change_def.proofs.Rewrites.{holder_says, preallocated_says}
use Rattle.change_def.proofs.Steps.{joins_made, kept-after, ranged-after}
use Rattle.plan_bounds.specs.Widths.{data_fits, fields_fit, edit_fits}
use Rattle.plan_bounds.proofs.Tests.{data_facts, data_fit, fields_fit_lem}

-- an item with a generation that fits
with_generation : (f h : Fields) (n : ℕ) → n < 2 ^ 64 → data_fits f ≡ true → h.generation ≡ n → h.ram ≡ f.ram → h.compression ≡ f.compression → h.encryption ≡ f.encryption → h.other ≡ f.other → h.extent_start ≡ f.extent_start → h.extent_length ≡ f.extent_length → data_fits h ≡ true
with_generation f h n l d a b c e g i j =
    let q = data_facts f d in
    data_fit h (record { generation = omega arith; ram = omega (arith, q.ram); compression = omega (arith, q.compression); encryption = omega (arith, q.encryption); other = omega (arith, q.other); start = omega (arith, q.start); length = omega (arith, q.length) })

-- the edits between two well_kept_lem lists of kinds 1 and 2
pub all_fit :
    (file : ℕ) (fs : List Fields) (ps : List Piece)
    → file < 2 ^ 64
    → pairs rises fs ≡ true
    → pairs rises (items_of ps) ≡ true
    → every (item_sound file) (items_of ps) ≡ true
    → every ranged (items_of ps) ≡ true
    → every data_fits (items_of ps) ≡ true
    → every (λ (f : Fields). ltb f.key (2 ^ 64)) fs ≡ true
    → every edit_fits (edits fs ps) ≡ true
all_fit file fs ps h up up' sound ranges fits keys =
    let all : every fields_fit (items_of ps) ≡ true =
    every_map (λ (f : Fields). item_sound file f && (ranged f && data_fits f)) fields_fit
    (λ f k. fields_fit_lem file f h (both_left (item_sound file f) (ranged f && data_fits f) k) (both_left (ranged f) (data_fits f) (both_right (item_sound file f) (ranged f && data_fits f) k)) (both_right (ranged f) (data_fits f) (both_right (item_sound file f) (ranged f && data_fits f) k)))
    (items_of ps)
    (every_both (item_sound file) (λ (f : Fields). ranged f && data_fits f) (items_of ps) sound (every_both ranged data_fits (items_of ps) ranges fits)) in
    edits_pass fs ps up up' edit_fits keys
    (every_map (λ (p : Piece). fields_fit p.item) (put_passes edit_fits) (λ p k. either_right (not p.built) (fields_fit p.item) k) ps
    (rw (every-mapped fields_fit (λ (p : Piece). p.item) ps) at all))

module _ (g : Ground) (c : Change) (fair : Fair g c) (new : new_generation g < 2 ^ 64) (fits : every data_fits (before g c) ≡ true) where
  leaves_fits : (h : InLeaf) → Memᴰ h g.in_leaves → data_fits h.item ≡ true
  leaves_fits h m = every_mem (λ (k : InLeaf). data_fits k.item) m (rw (every-mapped data_fits (λ (k : InLeaf). k.item) g.in_leaves) at fits)

  written_fits : every data_fits (items_of (pieces_written g c)) ≡ true
  unfolding pieces_written
  written_fits =
      every-insert_all data_fits _ _
      (each_every g (item_in_place g) (rewrite_inside g c) data_fits
      (λ r h u s. let m = holder_says r.sector g.in_leaves h (preallocated_says g r h s).0 in with_generation h.item (item_in_place g r h) (new_generation g) new (leaves_fits h m.1) refl refl refl refl refl refl refl)
      c.rewrites fair.rewrites)
      (every-cut c.lo c.hi data_fits data_fits (λ f d s. d) (λ f d p q. d) (λ f d p q. d) (before g c) fits)

  joined_fits : every data_fits (items_of (pieces_joined g c)) ≡ true
  joined_fits = joins_every (new_generation g) data_fits (λ f h j a b. with_generation f (joined f h (new_generation g)) (new_generation g) new a refl refl refl refl refl refl refl) (joins_made g c) written_fits

  module _ (limit : ℕ) (pos : 0 < limit) (sectors : limit % g.sector ≡ 0) (places : List ℕ) (sound : places_sound g.rows places (wanted g c limit) ≡ true) where
    after_fits : every data_fits (items_of (pieces_after g c limit places)) ≡ true
    unfolding pieces_after
    after_fits = every-insert_all data_fits _ (pieces_joined g c) (every-new g c fair limit pos sectors places sound data_fits new_fits) joined_fits
      where
        new_fits : (p : ℕ) (w : Wanted) → place_sound g.rows (add_at p w) ≡ true → Wants g.sector w → data_fits (new_item g p w) ≡ true
        new_fits p w v u =
            let e : Bool = every (λ (row : Row). clear p w.length row.start row.length) g.rows in
            let k = ltb-true (p + w.length) (2 ^ 64) (both_left (ltb (p + w.length) (2 ^ 64)) e (both_right (not (eqb p 0)) (ltb (p + w.length) (2 ^ 64) && e) v)) in
            data_fit (new_item g p w) (record { generation = new; ram = omega (arith, u.ends); compression = omega arith; encryption = omega arith; other = omega arith; start = omega arith; length = omega (arith, u.ends) })

    pub edits_fit : g.file < 2 ^ 64 → every (λ (f : Fields). ltb f.key (2 ^ 64)) (before g c) ≡ true → every edit_fits (plan_of g c limit places).edits ≡ true
    edits_fit file keys =
        let k = kept-after g c fair limit pos sectors places sound in
        all_fit g.file (before g c) (pieces_after g c limit places) file fair.sound.kept.rising k.rising k.sound (ranged-after g c fair limit pos sectors places sound) after_fits keys
