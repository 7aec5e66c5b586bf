-- A punch (document 01, "A punch"; `punch_hole`, `range_to_change` and `plan_punch`, fallocate.rs).
use Rattle.std.specs.Prelude.{Bool, true, false, cond, ◌&&◌, not, ◌⊎◌, ◌≡◌, ℕ, ◌+◌, ◌-◌, ◌%◌, ◌≤◌, ◌<◌, ◌^◌, min, max, eqb, ltb}
use mathlib.Core.List.{List, [], ◌∷◌, ◌++◌, Memᴰ}
use Rattle.std.proofs.Math.Option.{Option, none, some}
use Rattle.records.specs.Stages.{whenever, unless, first, first_of, stage}
use Rattle.records.specs.Select.{only, count}
use Rattle.item.specs.Items.{Fields, items, hole, end}
use Rattle.table.specs.declared.Row.{Row}
use Rattle.table.specs.Rows.{rows}
use Rattle.lists.specs.Lists.{record_refusal}
use Rattle.request.specs.declared.Volume.{Volume}
use Rattle.request.specs.declared.File.{File}
use Rattle.request.specs.declared.Range.{Range}
use Rattle.request.specs.Lent.{lent_refusal, list_broken, table_broken}
use Rattle.request.specs.Answers.{Outcome}
use Rattle.cut_def.specs.Mappings.{Mapping, holder}
use Rattle.plan_def.specs.Plans.{Plan, Write, refused_or, or_nothing}
use Rattle.plan_def.specs.Outputs.{Rooms}
use Rattle.change_def.specs.Rounding.{round_down, round_up}
use Rattle.change_def.specs.Preallocs.{piece_limit}
use Rattle.change_def.specs.Rewrites.{ground_of}
use Rattle.change_def.specs.Changes.{Change, changed}

-- "the start is the first offset in the range held by an item that is no hole": the least of those at or past an offset
abbrev pub lower : Option ℕ → ℕ → Option ℕ
lower none x = some x
lower (some y) x = some (cond (ltb x y) x y)

unfoldable pub first_held : ℕ → List Fields → Option ℕ
first_held offset [] = none
first_held offset (f ∷ fs) = cond (not (hole f) && ltb offset (end f)) (lower (first_held offset fs) (max f.key offset)) (first_held offset fs)

abbrev pub start_in : Option ℕ → ℕ → Option ℕ
start_in none stop = none
start_in (some x) stop = cond (ltb x stop) (some x) none

abbrev pub held_by : Option Fields → Bool
held_by none = false
held_by (some f) = true

-- a range inside one sector, and not the whole of it
abbrev pub in_one_sector : (sector start stop : ℕ) → Bool
in_one_sector sector start stop = eqb (round_down sector start) (round_down sector (stop - 1)) && ltb (stop - start) sector

-- "Its sectors are cut; a partly covered sector is cut whole and rewritten with the named bytes zero, but only below the
-- size rounded up. A last sector is rewritten only if an item holds its first byte."
abbrev pub within_sector : (size sector start stop : ℕ) → Change
within_sector size sector start stop =
    cond (ltb start (round_up sector size))
    (record { lo = round_down sector start; hi = round_down sector start + sector; rewrites = record { sector = round_down sector start; first = start; end = stop } ∷ []; holes = []; size = size })
    (record { lo = round_down sector start; hi = round_down sector start; rewrites = []; holes = []; size = size })

-- the first and the last sector, if partly covered, are rewritten
abbrev pub first_part : (size sector start : ℕ) → Bool
first_part size sector start = not (eqb (round_down sector start) start) && ltb start (round_up sector size)

abbrev pub last_part : List Fields → (size sector stop : ℕ) → Bool
last_part fs size sector stop = not (eqb (round_down sector stop) stop) && (ltb stop (round_up sector size) && held_by (holder (round_down sector stop) fs))

abbrev pub across_sectors : List Fields → (size sector start stop : ℕ) → Change
across_sectors fs size sector start stop =
    record {
      lo = cond (first_part size sector start) (round_down sector start) (round_up sector start);
      hi = cond (last_part fs size sector stop) (round_down sector stop + sector) (round_down sector stop);
      rewrites =
          only (first_part size sector start) (record { sector = round_down sector start; first = start; end = round_down sector start + sector })
          ++ only (last_part fs size sector stop) (record { sector = round_down sector stop; first = round_down sector stop; end = stop });
      holes = [];
      size = size;
    }

abbrev pub punch_change : List Fields → (size sector start stop : ℕ) → Change
punch_change fs size sector start stop = cond (in_one_sector sector start stop) (within_sector size sector start stop) (across_sectors fs size sector start stop)

-- `plan_punch`: none is "nothing to do"
abbrev pub change_from : List Fields → (size sector stop : ℕ) → Option ℕ → Option Change
change_from fs size sector stop none = none
change_from fs size sector stop (some start) = some (punch_change fs size sector start stop)

unfoldable pub plan_punch : List Fields → (size sector offset stop : ℕ) → Option Change
plan_punch fs size sector offset stop = change_from fs size sector stop (start_in (first_held offset fs) stop)

-- "5, length zero; 6, range end over 2^63 − 1; then record by record 7 inline, 8 kind over 2, 9 encrypted or other
-- encoding", after 1 to 4
unfoldable pub range_refusal : Volume → File → Range → List Fields → (shared : List ℕ) → List Row → ℕ
range_refusal v f r fs shared rs =
    first_of
    (lent_refusal v f fs shared rs
    ∷ whenever (eqb r.length 0) 5
    ∷ unless (ltb (r.offset + r.length) (2 ^ 63)) 6
    ∷ stage record_refusal fs
    ∷ [])

-- a punch: a plan, nothing, or one refusal, from all that is lent
unfoldable pub punch : Volume → File → Range → List Fields → (shared : List ℕ) → List Row → (places : List ℕ) → Rooms → Outcome Plan
punch v f r fs shared rs places rooms =
    refused_or (range_refusal v f r fs shared rs)
    (or_nothing (plan_punch fs f.size v.sector r.offset (r.offset + r.length))
    (λ (c : Change). changed (ground_of v f fs shared rs) c piece_limit places rooms))

-- from the bytes and numbers that are lent
abbrev pub punch_lent : Volume → File → Range → (list shared table places : List ℕ) → Rooms → Outcome Plan
punch_lent v f r list shared table places rooms =
    refused_or (first (list_broken list) (table_broken table)) (punch v f r (items list) shared (rows table) places rooms)

-- fallocate(2), FALLOC_FL_PUNCH_HOLE, on mappings: "Within the specified range, partial filesystem blocks are zeroed, and
-- whole filesystem blocks are removed from the file." Outside the range rounded out nothing changes.
pub record Punched (sector offset stop : ℕ) (before after : ℕ → Option Mapping) : Type 0 where
  pub removed : (o : ℕ) → round_up sector offset ≤ o → o < round_down sector stop → after o ≡ none
  pub below : (o : ℕ) → o < round_down sector offset → after o ≡ before o
  pub above : (o : ℕ) → round_up sector stop ≤ o → after o ≡ before o

-- a sector that the range covers only in part
abbrev pub Partly : (sector offset stop y : ℕ) → Type 0
Partly sector offset stop y = (y < offset) ⊎ (stop < y + sector)

-- one that the range meets, below the size rounded up, with its first byte held by an item: it is rewritten
pub record Part (fs : List Fields) (size sector offset stop y : ℕ) : Type 0 where
  pub aligned : y % sector ≡ 0
  pub begins : y < stop
  pub ends : offset < y + sector
  pub partly : Partly sector offset stop y
  pub below : y < round_up sector size
  pub held : held_by (holder y fs) ≡ true

-- a write of a sector whose zero range is the range's part of it
abbrev pub zeroes : (sector offset stop y : ℕ) → Write → Bool
zeroes sector offset stop y w = eqb w.key y && (eqb w.first (max offset y) && eqb w.end (min stop (y + sector)))

-- "partial filesystem blocks are zeroed": each such sector has one write, no other has any, and all others that the range
-- covers only in part keep their mapping
pub record PartsZeroed (fs : List Fields) (size sector offset stop : ℕ) (writes : List Write) (before after : ℕ → Option Mapping) : Type 0 where
  pub one : (y : ℕ) → Part fs size sector offset stop y → count (zeroes sector offset stop y) writes ≡ 1
  pub once : (y : ℕ) → count (λ (w : Write). eqb w.key y) writes ≤ 1
  pub only : (w : Write) → Memᴰ w writes → Part fs size sector offset stop w.key × (w.first ≡ max offset w.key) × (w.end ≡ min stop (w.key + sector))
  pub kept : (o : ℕ) → Partly sector offset stop (round_down sector o) → (Part fs size sector offset stop (round_down sector o) → ⊥) → after o ≡ before o
