-- Sectors rewritten with a part zeroed: "A rewrite held by a preallocated item is written in place as regular; any other
-- takes a new extent of one sector." (`rewritten_bytes`, `written_in_place`, fallocate.rs)
use Rattle.std.specs.Prelude.{Bool, cond, ◌&&◌, not, ℕ, ◌+◌, ◌-◌, eqb, ltb}
use mathlib.Core.List.{List, [], ◌∷◌, map, flat_map}
use Rattle.std.proofs.Math.Option.{Option, none, some}
use Rattle.records.specs.Stages.{whenever, unless, first, first_of}
use Rattle.records.specs.Select.{keep}
use Rattle.item.specs.Items.{Fields, written_in_place}
use Rattle.request.specs.declared.Volume.{Volume}
use Rattle.request.specs.declared.File.{File}
use Rattle.table.specs.declared.Row.{Row}
use Rattle.table.specs.Rows.{find, with_row}
use Rattle.table.specs.Windows.{window_inside}
use Rattle.cut_def.specs.Mappings.{holds}
use Rattle.cut_def.specs.Refs.{naming}
use Rattle.ref_def.specs.Drops.{InLeaf, in_leaves}
use Rattle.plan_def.specs.Plans.{Write}
use Rattle.change_def.specs.declared.Rewrite.{Rewrite}

-- what a change of one file goes by: the sector, the current generation, the last snapshot, nodatacow, the file's number,
-- its items with their shared bytes, and the table
pub record Ground : Type 0 where
  pub sector : ℕ
  pub generation : ℕ
  pub snapshot : ℕ
  pub nodatacow : Bool
  pub file : ℕ
  pub in_leaves : List InLeaf
  pub rows : List Row

-- from what is lent
abbrev pub ground_of : Volume → File → List Fields → (shared : List ℕ) → List Row → Ground
ground_of v f fs shared rs =
    record { sector = v.sector; generation = v.generation; snapshot = v.snapshot; nodatacow = f.nodatacow; file = f.number; in_leaves = in_leaves fs shared; rows = rs }

abbrev pub leaf_items : List InLeaf → List Fields
leaf_items hs = map (λ (h : InLeaf). h.item) hs

-- "current generation (new is 1 more)"
abbrev pub new_generation : Ground → ℕ
new_generation g = g.generation + 1

-- the item that holds an offset, with its shared byte
unfoldable pub holder_of : ℕ → List InLeaf → Option InLeaf
holder_of o [] = none
holder_of o (h ∷ hs) = cond (holds o h.item) (some h) (holder_of o hs)

abbrev pub when_held : {A : Type 0} → Option InLeaf → A → (InLeaf → A) → A
when_held none a f = a
when_held (some h) a f = f h

-- the preallocated item that holds a rewrite's sector, if one does: then it is written in place
abbrev pub preallocated_in : List InLeaf → Rewrite → Option InLeaf
preallocated_in hs r = when_held (holder_of r.sector hs) none (λ (h : InLeaf). cond (eqb h.item.kind 2) (some h) none)

abbrev pub preallocated : Ground → Rewrite → Option InLeaf
preallocated g r = preallocated_in g.in_leaves r

abbrev pub in_place : Ground → Rewrite → Bool
in_place g r = when_held (preallocated g r) Bool.false (λ (h : InLeaf). Bool.true)

-- the sector's position in its extent, by the item that holds it
abbrev pub position_of : Rewrite → InLeaf → ℕ
position_of r h = h.item.position + (r.sector - h.item.key)

-- in place 14, 17, 18: "17 .. in place, compressed ones too. 18: references differ from this file's items naming the
-- extent, or made is not after the last snapshot, or the leaf is shared"
abbrev pub in_place_refusal : Ground → Rewrite → InLeaf → ℕ
in_place_refusal g r h =
    with_row (find h.item.extent_start g.rows)
    (λ (row : Row).
    first_of
    (unless (window_inside (h.item.extent_start + position_of r h) g.sector h.item.extent_start row.length) 17
    ∷ unless (eqb row.references (naming h.item.extent_start (leaf_items g.in_leaves)) && (ltb g.snapshot row.made && eqb h.shared 0)) 18
    ∷ []))

-- "for each rewrite 16, nodatacow with a regular holder, else in place 14, 17, 18"
abbrev pub rewrite_refusal : Ground → Rewrite → ℕ
rewrite_refusal g r =
    when_held (holder_of r.sector g.in_leaves) 0
    (λ (h : InLeaf).
    first (whenever (g.nodatacow && eqb h.item.kind 1) 16) (cond (eqb h.item.kind 2) (in_place_refusal g r h) 0))

-- a rewrite in place: the item over it, its extent, and the write
abbrev pub item_in_place : Ground → Rewrite → InLeaf → Fields
item_in_place g r h = written_in_place h.item r.sector (new_generation g) (position_of r h) g.sector

abbrev pub write_in_place : Rewrite → InLeaf → Write
write_in_place r h = record { key = r.sector; at = h.item.extent_start + position_of r h; first = r.first; end = r.end }

-- of all rewrites in place, in order
unfoldable pub each_in_place : {A : Type 0} → Ground → (Rewrite → InLeaf → A) → List Rewrite → List A
each_in_place g f rs = flat_map (λ (r : Rewrite). when_held (preallocated g r) [] (λ (h : InLeaf). f r h ∷ [])) rs

-- the rewrites that take a new extent
abbrev pub rewritten_anew : Ground → List Rewrite → List Rewrite
rewritten_anew g rs = keep (λ (r : Rewrite). not (in_place g r)) rs
