-- A fallocate (document 01, "A fallocate"; `fallocate` and `holes_to_allocate`, fallocate.rs).
use Rattle.std.specs.Prelude.{Bool, cond, ◌&&◌, not, ◌≡◌, ℕ, ◌+◌, ◌-◌, ◌%◌, ◌≤◌, ◌<◌, min, max, eqb, leb, ltb}
use mathlib.Core.List.{List, [], ◌∷◌, ◌++◌, flat_map}
use Rattle.std.proofs.Math.Option.{Option, none, some}
use Rattle.records.specs.Stages.{whenever, unless, first, first_of, stage}
use Rattle.records.specs.Select.{only}
use Rattle.item.specs.Items.{Fields, items, hole, end}
use Rattle.request.specs.declared.Volume.{Volume}
use Rattle.request.specs.declared.File.{File}
use Rattle.request.specs.declared.Range.{Range}
use Rattle.table.specs.declared.Row.{Row}
use Rattle.table.specs.Rows.{rows}
use Rattle.request.specs.Lent.{list_broken, table_broken}
use Rattle.request.specs.Answers.{Outcome}
use Rattle.cut_def.specs.Mappings.{Mapping}
use Rattle.plan_def.specs.Plans.{Plan, refused_or}
use Rattle.plan_def.specs.Outputs.{Rooms}
use Rattle.change_def.specs.Rounding.{round_down, round_up}
use Rattle.change_def.specs.Preallocs.{Stretch, piece_limit, sum_of}
use Rattle.change_def.specs.Changes.{Change, changed}
use Rattle.change_def.specs.Rewrites.{ground_of}
use Rattle.punch_def.specs.Punch.{range_refusal}

-- "rewrites the sector of an old end inside a sector, zeroing from the size on, when the range ends past the size,
-- keep-size or not"
abbrev pub end_rewritten : (sector size stop : ℕ) → Bool
end_rewritten sector size stop = ltb size stop && not (eqb (size % sector) 0)

-- [a, b) taken out of a stretch
abbrev pub less : (a b : ℕ) → Stretch → List Stretch
less a b s =
    only (ltb s.start (min (s.start + s.length) a)) (record { start = s.start; length = min (s.start + s.length) a - s.start })
    ++ only (ltb (max s.start b) (s.start + s.length)) (record { start = max s.start b; length = s.start + s.length - max s.start b })

-- what the items do not hold of some stretches
unfoldable pub less_items : List Fields → List Stretch → List Stretch
less_items [] ss = ss
less_items (f ∷ fs) ss = less_items fs (flat_map (less f.key (end f)) ss)

-- "item by item in the rounded range", [from, to): "10, a hole, or 11, a regular item at or past the size"
abbrev pub item_refusal : (size from to : ℕ) → Fields → ℕ
item_refusal size from to f =
    cond (ltb from (end f) && ltb f.key to)
    (first (whenever (hole f) 10) (whenever (eqb f.kind 1 && leb size f.key) 11))
    0

-- the old end's sector, or an empty range
abbrev pub end_sector : (size sector stop : ℕ) → ℕ
end_sector size sector stop = cond (end_rewritten sector size stop) (round_down sector size) 0

abbrev pub end_stop : (size sector stop : ℕ) → ℕ
end_stop size sector stop = cond (end_rewritten sector size stop) (round_down sector size + sector) 0

-- "the range rounded out to sectors"
abbrev pub rounded_out : (sector offset stop : ℕ) → Stretch
rounded_out sector offset stop = record { start = round_down sector offset; length = round_up sector stop - round_down sector offset }

-- `holes_to_allocate`: "over the range rounded out to sectors, what neither items nor that sector hold"
unfoldable pub holes_to_allocate : (size sector offset stop : ℕ) → List Fields → List Stretch
holes_to_allocate size sector offset stop fs =
    cond (end_rewritten sector size stop)
    (flat_map (less (end_sector size sector stop) (end_stop size sector stop)) (less_items fs (rounded_out sector offset stop ∷ [])))
    (less_items fs (rounded_out sector offset stop ∷ []))

-- "The new size is the old under keep-size, else the larger of old size and range end."
abbrev pub new_size : Bool → (size stop : ℕ) → ℕ
new_size keep size stop = cond keep size (max size stop)

abbrev pub fallocate_change : Bool → List Fields → (size sector offset stop : ℕ) → Change
fallocate_change keep fs size sector offset stop =
    record {
      lo = end_sector size sector stop;
      hi = end_stop size sector stop;
      rewrites = only (end_rewritten sector size stop) (record { sector = round_down sector size; first = size; end = round_down sector size + sector });
      holes = holes_to_allocate size sector offset stop fs;
      size = new_size keep size stop;
    }

-- "as punch up to 9; then item by item in the rounded range 10 .. or 11 ..; 12, holes over the volume's bytes"
unfoldable pub fallocate_refusal : Volume → File → Range → List Fields → (shared : List ℕ) → List Row → ℕ
fallocate_refusal v f r fs shared rs =
    first_of
    (range_refusal v f r fs shared rs
    ∷ stage (item_refusal f.size (round_down v.sector r.offset) (round_up v.sector (r.offset + r.length))) fs
    ∷ unless (leb (sum_of (holes_to_allocate f.size v.sector r.offset (r.offset + r.length) fs)) v.total) 12
    ∷ [])

-- a fallocate: a plan or one refusal; never "nothing to do"
unfoldable pub fallocate : Volume → File → Range → (keepSize : Bool) → List Fields → (shared : List ℕ) → List Row → (places : List ℕ) → Rooms → Outcome Plan
fallocate v f r keepSize fs shared rs places rooms =
    refused_or (fallocate_refusal v f r fs shared rs)
    (changed (ground_of v f fs shared rs) (fallocate_change keepSize fs f.size v.sector r.offset (r.offset + r.length)) piece_limit places rooms)

-- from the bytes and numbers that are lent
abbrev pub fallocate_lent : Volume → File → Range → (keepSize : Bool) → (list shared table places : List ℕ) → Rooms → Outcome Plan
fallocate_lent v f r keepSize list shared table places rooms =
    refused_or (first (list_broken list) (table_broken table)) (fallocate v f r keepSize (items list) shared (rows table) places rooms)

-- fallocate(2) on mappings: "allocates the disk space within the range"; what was a hole is preallocated, so that it still
-- reads as zeros ("initialized to zero"); what was there keeps its mapping, but for the sector of the old end,
-- [end_sector, end_stop)
pub record Allocated (from to end_sector end_stop : ℕ) (before after : ℕ → Option Mapping) : Type 0 where
  pub mapped : (o : ℕ) → from ≤ o → o < to → after o ≡ none → ⊥
  pub filled : (o : ℕ) → from ≤ o → o < to → (end_sector ≤ o → o < end_stop → ⊥) → before o ≡ none → (m : Mapping) × (after o ≡ some m) × (m.kind ≡ 2)
  pub kept : (o : ℕ) (m : Mapping) → (end_sector ≤ o → o < end_stop → ⊥) → before o ≡ some m → after o ≡ some m
  pub below : (o : ℕ) → o < from → (end_sector ≤ o → o < end_stop → ⊥) → after o ≡ before o
  pub above : (o : ℕ) → to ≤ o → (end_sector ≤ o → o < end_stop → ⊥) → after o ≡ before o
