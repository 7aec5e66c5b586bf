-- What the stages of a clone say, where they pass, of all that was lent. Assumes nothing.
use mathlib.Core.Path.{◌≡◌, refl, ap, ◌∙◌, sym, subst}
use mathlib.Core.Bool.{Bool, true, false, ◌&&◌, ◌||◌, not}
use mathlib.Core.List.{List}
use Prim.Native.Nat.{ℕ, ◌+◌, ◌%◌, ◌<◌, ◌≤◌, ◌^◌}
use native.Mathlib.Omega.{arith}
use lib.Dec.{eqb, leb, ltb}
use lib.ListN.{length}
use borrow.Author.Tests.{eqb-true, leb-true, ltb-true, ne_eqb}
use Rattle.records.specs.Stages.{first, stage, every}
use Rattle.records.proofs.Tests.{both_left, both_right, first-zero, first_of_zero, unless-zero, every_map}
use Rattle.item.specs.Items.{Fields, items, ranged}
use Rattle.table.specs.Rows.{table_kept}
use Rattle.lists.specs.Lists.{item_sound, range_sound}
use Rattle.lists.proofs.Laws.{kept}
use Rattle.request.specs.Lent.{sector_sound, lent_refusal2}
use Rattle.request.specs.Call.{lent2_in}
use Rattle.request.proofs.Stages.{Accepted2, accepted2}
use Rattle.cut_def.specs.Pieces.{cut_pieces}
use Rattle.cut_def.proofs.Kept.{ranged-cut, every-insert_all}
use Rattle.cut_segment.specs.Segments.{Runs}
use Rattle.cut_segment.proofs.Segments.{kept-runs}
use Rattle.plan_def.proofs.Outcomes.{refused_or-plan}
use Rattle.clone_items.specs.declared.Copying.{Copying}
use Rattle.clone_items.specs.Copies.{clones}
use Rattle.clone_items.specs.Raw.{InFiles, range_kept}
use Rattle.drop_lines.specs.declared.Cut.{Cut}
use Rattle.drop_lines.specs.Dropped.{drops_in}
use Rattle.drop_lines.proofs.Cuts.{drops-plain}
use Rattle.clone_items.specs.Replacing.{top, clone_drops, pieces_now}
use Rattle.clone_items.proofs.Items.{clones-ranged, clones-rise, clones-start, copied-sound}
use Rattle.clone_copies.specs.Walk.{copy_sound}
use Rattle.clone_lay.specs.Raw.{cut_for, Placing}
use Rattle.clone_span.specs.Spans.{source_refusal, destination_refusal, destination_record, growth_refusal}
use Rattle.clone_def.specs.Clone.{chosen, copying, source_items}
use Rattle.clone_def.proofs.Planned.{Planned, drafted-planned, destination-ranged}
use Rattle.clone_def.proofs.Laws.{span-limit, width_some, top-limit, before_kept, source_kept, after_kept}
use Rattle.clone.specs.declared.asked.Asked.{Asked}
use Rattle.clone.specs.declared.asked.Parts.{Parts}
use Rattle.clone.specs.Raw.{AskedOf, before, its, table_rows, copying_of, plan_of, lent_asked, destination_asked, copies_in, copies_asked, PartsOf}
use Rattle.clone.proofs.Operating.{asked_draft, draft_plan}

pub drops-same : (c : Copying) (k : Cut) (fs : List Fields) (bs : List ℕ) → k ≡ cut_for c → clone_drops c fs bs ≡ drops_in k fs bs
drops-same c k fs bs e = rw e (drops-plain c.to (top c) fs bs)

pub copies-same : (a : Asked) (p : Parts) → PartsOf a p → copies_in p a.lent.volume.generation (its a) ≡ copies_asked a
copies-same a p q = rw (q.range, q.list, q.shared, q.table) refl

module _ (a : Asked) (z : lent_asked a ≡ 0) where
  stages-zero : (lent2_in a.lent a.file a.own a.source.now ≡ 0) × (source_refusal a.lent.volume.sector a.file.size a.range.from a.range.to a.range.length ≡ 0)
  stages-zero = first-zero (lent2_in a.lent a.file a.own a.source.now) _ z

  lent : Accepted2 a.lent.volume a.lent.file a.file a.own (before a) a.lent.shared.now (its a) (table_rows a)
  lent =
      accepted2 a.lent.volume a.lent.file a.file a.own (before a) a.lent.shared.now (its a) (table_rows a)
      (first-zero _ (lent_refusal2 a.lent.volume a.lent.file a.file a.own (before a) a.lent.shared.now (its a) (table_rows a)) stages-zero.0).1

  pub sound-sector : sector_sound a.lent.volume.sector ≡ true
  sound-sector = lent.destination.sector

  pub source-ends : a.range.from + a.range.length < 2 ^ 63
  source-ends =
      let y = first_of_zero _ stages-zero.1 in
      let x = leb-true (a.range.from + a.range.length) a.file.size (unless-zero (leb (a.range.from + a.range.length) a.file.size) 20 y.1.0 (λ e. omega arith)) in
      let b = ltb-true a.file.size (2 ^ 63) lent.«source-size» in
      omega arith

  whole : (a.range.from % a.lent.volume.sector ≡ 0) × (a.range.to % a.lent.volume.sector ≡ 0)
  whole =
      let y = first_of_zero _ stages-zero.1 in
      let f : Bool = eqb (a.range.from % a.lent.volume.sector) 0 in
      let t : Bool = eqb (a.range.to % a.lent.volume.sector) 0 in
      let b = unless-zero (f && t) 21 y.1.1.0 (λ e. omega arith) in
      (eqb-true (a.range.from % a.lent.volume.sector) 0 (both_left f t b), eqb-true (a.range.to % a.lent.volume.sector) 0 (both_right f t b))

  -- every range that is read is sound
  pub source-sound : every range_kept (its a) ≡ true
  source-sound =
      every_map (item_sound a.file.number) range_kept
      (λ f h. both_right (eqb f.file a.file.number && eqb f.key_type 108) (not (ranged f) || range_sound f) h)
      (its a) (kept a.file.number (its a) lent.«source-kept»).sound

  pub one-each : length a.lent.shared.now ≡ length (before a)
  one-each = eqb-true (length a.lent.shared.now) (length (before a)) (both_left (eqb (length a.lent.shared.now) (length (before a))) (every (λ (b : ℕ). leb b 1) a.lent.shared.now) lent.destination.shares)

  pub rows-kept : table_kept (table_rows a) ≡ true
  rows-kept = lent.destination.«table_kept»

  module _ (w : destination_asked a ≡ 0) where
    groups-zero :
        (destination_refusal a.lent.volume.sector a.own a.lent.file.size a.range.from a.range.to a.range.length ≡ 0)
        × (first (stage destination_record (before a)) (growth_refusal a.lent.volume.sector a.lent.file.size a.range.to a.range.length (before a)) ≡ 0)
    groups-zero = first-zero (destination_refusal a.lent.volume.sector a.own a.lent.file.size a.range.from a.range.to a.range.length) _ w

    pub destination-ends : a.range.to + a.range.length < 2 ^ 63
    destination-ends =
        let y = first_of_zero _ groups-zero.0 in
        ltb-true (a.range.to + a.range.length) (2 ^ 63) (unless-zero (ltb (a.range.to + a.range.length) (2 ^ 63)) 6 y.0 (λ e. omega arith))

    pub in-files : InFiles (copying_of a)
    in-files =
        record {
          source = span-limit a.lent.volume.sector a.range.from a.range.from a.range.length sound-sector whole.0 whole.0 source-ends;
          destination = span-limit a.lent.volume.sector a.range.from a.range.to a.range.length sound-sector whole.0 whole.1 destination-ends;
        }

    -- the file's records run one behind the other
    pub runs : Runs 0 (before a)
    runs =
        kept-runs a.lent.file.number (before a) (lent.destination).kept
        (destination-ranged (before a) (first-zero (stage destination_record (before a)) (growth_refusal a.lent.volume.sector a.lent.file.size a.range.to a.range.length (before a)) groups-zero.1).0)

-- ---- what a plan goes by

-- what was chosen is chosen again
chosen-same : {A : Type 0} (own : Bool) (x y : A) → (own ≡ true → y ≡ x) → chosen own x y ≡ y
chosen-same true x y h = sym (h refl)
chosen-same false x y h = refl

module _ (a : Asked) (some : 0 < a.range.length) where
  again : AskedOf a.lent a.file a.own a.source.now a.range a
  again =
      let f : chosen a.own a.lent.file a.file ≡ a.file = chosen-same a.own a.lent.file a.file a.own_file in
      record {
        lent = refl;
        own = refl;
        file = sym f;
        source = sym (chosen-same a.own a.lent.list.now a.source.now a.own_list);
        range = rw f (sym (rw (ne_eqb a.range.length 0 (λ h. omega arith)) refl));
      }

  module _ (z : lent_asked a ≡ 0) (w : destination_asked a ≡ 0) (y : copies_asked a ≡ 0) where
    planned : Planned a.lent.volume a.lent.file a.file a.own a.range (before a) a.lent.shared.now (its a) (table_rows a) (plan_of a)
    planned =
        drafted-planned a.lent.volume a.lent.file a.file a.own a.range (before a) a.lent.shared.now (its a) (table_rows a) (plan_of a)
        (refused_or-plan _ _ (plan_of a) (asked_draft a.lent a.file a.own a.source.now a.range a again ∙ sym (draft_plan a z some w y))).1

    abbrev k : Copying
    k = copying a.lent.volume a.lent.file a.file a.own a.range (before a) a.lent.shared.now (its a) (table_rows a)

    abbrev picked : List Fields
    picked = source_items a.lent.volume a.lent.file a.file a.own a.range (before a) a.lent.shared.now (its a) (table_rows a)

    same-copy : k ≡ copying_of a
    same-copy = rw (ne_eqb a.range.length 0 (λ h. omega arith)) refl

    same-items : picked ≡ its a
    same-items = chosen-same a.own (before a) (its a) (λ o. ap items (a.own_list o))

    copy-some : 0 < k.span
    copy-some = width_some a.lent.volume a.lent.file a.file a.own a.range (before a) a.lent.shared.now (its a) (table_rows a) (plan_of a) planned

    copy-room : k.to + k.span ≤ 2 ^ 63
    copy-room = top-limit a.lent.volume a.lent.file a.file a.own a.range (before a) a.lent.shared.now (its a) (table_rows a) (plan_of a) planned

    there : Placing k (before a) picked × (every (copy_sound k) picked ≡ true)
    unfolding pieces_now
    there =
        let h = planned in
        let q = source_kept a.lent.volume a.lent.file a.file a.own a.range (before a) a.lent.shared.now (its a) (table_rows a) (plan_of a) h in (
          record {
            some = copy-some;
            rise = clones-rise k copy-some copy-room (table_rows a) _ picked q h.records;
            inside = clones-start k copy-some copy-room (table_rows a) _ picked q h.records;
            kept = before_kept a.lent.volume a.lent.file a.file a.own a.range (before a) a.lent.shared.now (its a) (table_rows a) (plan_of a) h;
            ranges = h.«all-ranged»;
            «kept-now» = after_kept a.lent.volume a.lent.file a.file a.own a.range (before a) a.lent.shared.now (its a) (table_rows a) (plan_of a) h;
            «ranges-now» = every-insert_all ranged (clones k picked) (cut_pieces k.to (k.to + k.span) (before a)) (clones-ranged k copy-some copy-room (table_rows a) _ picked q h.records) (ranged-cut k.to (k.to + k.span) (before a) h.«all-ranged»);
            sized = leb-true (length (before a)) 65536 h.lent.destination.sized;
            «source-sized» = leb-true (length picked) 65536 h.lent.«source-sized»;
          },
          copied-sound k copy-some copy-room (table_rows a) _ picked q h.records,
        )

    pub placed : Placing (copying_of a) (before a) (its a) × (every (copy_sound (copying_of a)) (its a) ≡ true)
    placed =
        subst (λ (l : List Fields). Placing (copying_of a) (before a) l × (every (copy_sound (copying_of a)) l ≡ true)) same-items
        (subst (λ (c : Copying). Placing c (before a) picked × (every (copy_sound c) picked ≡ true)) same-copy there)
