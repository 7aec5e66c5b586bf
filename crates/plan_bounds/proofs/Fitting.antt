-- The edits of every plan of the operations have numbers that fit, where what was lent is bytes and numbers of 64 bits.
-- Assumes nothing.
use mathlib.Core.Path.{◌≡◌, refl}
use mathlib.Core.Bool.{Bool, true, false, cond}
use mathlib.Core.List.{List}
use Prim.Native.Nat.{ℕ, zero, suc, ◌-◌, ◌<◌, ◌^◌}
use native.Mathlib.Omega.{arith}
use lib.Dec.{eqb, ltb}
use lib.ListN.{drop}
use borrow.Author.Tests.{lt-ltb, eqb-false}
use Rattle.endian.specs.Le.{Bytes, room}
use Rattle.endian.proofs.Fields.{bytes_drop}
use Rattle.records.specs.Records.{chunks, records}
use Rattle.records.specs.Stages.{every}
use Rattle.records.proofs.Tests.{both, every_map, every_picked, first_of_zero, whenever-zero}
use Rattle.item.specs.Items.{Fields, decode, items, ranged}
use Rattle.table.specs.declared.Row.{Row}
use Rattle.table.specs.Rows.{rows}
use Rattle.request.specs.declared.Volume.{Volume}
use Rattle.request.specs.declared.File.{File}
use Rattle.request.specs.declared.Range.{Range}
use Rattle.request.specs.Answers.{plan}
use Rattle.cut_def.specs.Pieces.{Piece, items_of}
use Rattle.cut_def.proofs.Kept.{every-cut, every-insert_all, ranged-cut}
use Rattle.plan_def.specs.Plans.{Plan}
use Rattle.plan_def.specs.Outputs.{Rooms}
use Rattle.plan_def.proofs.Outcomes.{refused_or-plan}
use Rattle.change_def.specs.Preallocs.{piece_limit}
use Rattle.change_def.specs.Rewrites.{Ground, ground_of, new_generation}
use Rattle.change_def.specs.Changes.{Change, change_refusal}
use Rattle.change_def.proofs.Preallocs.{limit_whole}
use Rattle.punch_def.specs.Punch.{punch_lent}
use Rattle.punch_def.proofs.Planned as Punching
use Rattle.punch_def.proofs.Fair as PunchFair
use Rattle.fallocate_def.specs.Fallocate.{fallocate_lent}
use Rattle.fallocate_def.proofs.Planned as Fallocating
use Rattle.fallocate_def.proofs.Fair as FallocateFair
use Rattle.clone_span.specs.declared.CloneRange.{CloneRange}
use Rattle.clone_items.specs.declared.Copying.{Copying}
use Rattle.clone_items.specs.Copies.{clone_item, copied}
use Rattle.clone_items.specs.Replacing.{top, pieces_now}
use Rattle.clone_items.proofs.Items.{clones-ranged}
use Rattle.clone_def.specs.Clone.{drafted_lent, clone_lent, chosen, plan_of}
use Rattle.clone_def.proofs.Planned as Cloning
use Rattle.clone_def.proofs.Laws as CloneLaws
use Rattle.plan_bounds.specs.Widths.{data_fits, fields_fit, edit_fits}
use Rattle.plan_bounds.proofs.Tests.{read_fits, fit_data, fields-sound}
use Rattle.plan_bounds.proofs.Changes.{all_fit, edits_fit}

-- ---- the records of a list of bytes

chunks_fit : (n : ℕ) (s : List ℕ) → Bytes s → every fields_fit (chunks decode 70 n s) ≡ true
unfolding chunks every
chunks_fit zero s b = refl
chunks_fit (suc n) s b = both (fields_fit (decode s)) _ (read_fits s b) (chunks_fit n (drop 70 s) (bytes_drop 70 s b))

pub records_fit : (list : List ℕ) → Bytes list → every fields_fit (items list) ≡ true
unfolding items records
records_fit list b = chunks_fit _ list b

items_fit : (list : List ℕ) → Bytes list → (every data_fits (items list) ≡ true) × (every (λ (f : Fields). ltb f.key (2 ^ 64)) (items list) ≡ true)
unfolding room
items_fit list b =
    let r = records_fit list b in
    (every_map fields_fit data_fits fit_data (items list) r, every_map fields_fit (λ (f : Fields). ltb f.key (2 ^ 64)) (λ f h. lt-ltb f.key (2 ^ 64) (fields-sound f h).key) (items list) r)

-- ---- a punch and a fallocate

-- no 13: the new generation fits
new_fits : (g : Ground) (c : Change) → g.generation < 2 ^ 64 → change_refusal g c ≡ 0 → new_generation g < 2 ^ 64
unfolding change_refusal
new_fits g c h z =
    let n = eqb-false g.generation (2 ^ 64 - 1) (whenever-zero (eqb g.generation (2 ^ 64 - 1)) 13 (first_of_zero _ z).0 (λ e. omega arith)) in
    omega arith

module _ (v : Volume) (f : File) (r : Range) (list shared table places : List ℕ) (rooms : Rooms) (p : Plan) (generation : v.generation < 2 ^ 64) (file : f.number < 2 ^ 64) (bytes : Bytes list) where
  abbrev g : Ground
  g = ground_of v f (items list) shared (rows table)

  pub punch_fits : punch_lent v f r list shared table places rooms ≡ plan p → every edit_fits p.edits ≡ true
  punch_fits e =
      let h = Punching.planned v f (items list) shared (rows table) r places rooms p (refused_or-plan _ _ p e).1 in
      let i = Punching.ground_items v f (items list) shared (rows table) h.lent in
      let k = items_fit list bytes in
      rw h.made
      (edits_fit g h.change (PunchFair.planned-fair v f (items list) shared (rows table) r places p h) (new_fits g h.change generation h.unrefused) (rw i k.0) piece_limit (omega arith) (limit_whole v.sector h.lent.sector) places h.placed file (rw i k.1))

  module _ (keepSize : Bool) where
    pub fallocate_fits : fallocate_lent v f r keepSize list shared table places rooms ≡ plan p → every edit_fits p.edits ≡ true
    fallocate_fits e =
        let h = Fallocating.planned v f r keepSize (items list) shared (rows table) places rooms p (refused_or-plan _ _ p e).1 in
        let i = Punching.ground_items v f (items list) shared (rows table) h.lent in
        let k = items_fit list bytes in
        let c : Change = Fallocating.change v f r keepSize (items list) shared (rows table) in
        rw h.made
        (edits_fit g c (FallocateFair.planned-fair v f r keepSize (items list) shared (rows table) places p h) (new_fits g c generation h.changes) (rw i k.0) piece_limit (omega arith) (limit_whole v.sector h.lent.sector) places h.placed file (rw i k.1))

-- ---- a clone

module _ (v : Volume) (dst src : File) (own : Bool) (span : CloneRange) (list shared source table : List ℕ) (rooms : Rooms) (p : Plan) (file : dst.number < 2 ^ 64) (bytes : Bytes list) (more : Bytes source) where
  abbrev rs : List Row
  rs = rows table

  -- the list that is read as source
  source_fits : every data_fits (chosen own (items list) (items source)) ≡ true
  source_fits = go own
    where
      go : (b : Bool) → every data_fits (cond b (items list) (items source)) ≡ true
      go true = (items_fit list bytes).0
      go false = (items_fit source more).0

  module _ (h : Cloning.Planned v dst src own span (items list) shared (items source) rs p) where
    abbrev c : Copying
    c = CloneLaws.copy' v dst src own span (items list) shared (items source) rs p h

    abbrev ps : List Piece
    ps = CloneLaws.after v dst src own span (items list) shared (items source) rs p h

    ranges : every ranged (items_of ps) ≡ true
    unfolding pieces_now
    ranges =
        every-insert_all ranged _ _
        (clones-ranged c (CloneLaws.width_some v dst src own span (items list) shared (items source) rs p h) (CloneLaws.top-limit v dst src own span (items list) shared (items source) rs p h) rs _ _ (CloneLaws.source_kept v dst src own span (items list) shared (items source) rs p h) h.records)
        (ranged-cut c.to (top c) (items list) h.«all-ranged»)

    fits : every data_fits (items_of ps) ≡ true
    unfolding pieces_now
    fits =
        every-insert_all data_fits _ _
        (every_picked data_fits (copied c) (clone_item c) data_fits (λ f d q. d) _ source_fits)
        (every-cut c.to (top c) data_fits data_fits (λ f d s. d) (λ f d a b. d) (λ f d a b. d) (items list) (items_fit list bytes).0)

    passes : every edit_fits (plan_of v dst src own span (items list) shared (items source) rs).edits ≡ true
    passes =
        let k = CloneLaws.after_kept v dst src own span (items list) shared (items source) rs p h in
        let l = CloneLaws.before_kept v dst src own span (items list) shared (items source) rs p h in
        all_fit dst.number (items list) ps file l.rising k.rising k.sound ranges fits (items_fit list bytes).1

  pub clone_fits : clone_lent v dst src own span list shared source table rooms ≡ plan p → every edit_fits p.edits ≡ true
  clone_fits e =
      let d = Cloning.room-plan rooms (drafted_lent v dst src own span list shared source table) p e in
      let h = Cloning.drafted-planned v dst src own span (items list) shared (items source) rs p (refused_or-plan _ _ p d).1 in
      rw h.made (passes h)
