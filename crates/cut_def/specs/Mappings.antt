-- What a file shows at an offset (document 01, "The contract": "An offset's extent and position are the start named by
-- the item holding it and that item's position + offset − key, or none"; the request's shelf mark).
use Rattle.std.specs.Prelude.{Bool, cond, ◌&&◌, not, List, [], ◌∷◌, ℕ, ◌+◌, ◌-◌, leb, ltb}
use Rattle.std.proofs.Math.Option.{Option, none, some}
use Rattle.item.specs.Items.{Fields, ranged, hole, end}

-- "An item of kind 1 or 2 that is no hole names its extent start."
abbrev pub named : Fields → Bool
named f = ranged f && not (hole f)

-- an item holds its offsets; a hole holds nothing
abbrev pub holds : ℕ → Fields → Bool
holds o f = named f && (leb f.key o && ltb o (end f))

-- `holding_item` (fallocate.rs): the item that holds an offset
unfoldable pub holder : ℕ → List Fields → Option Fields
holder o [] = none
holder o (f ∷ fs) = cond (holds o f) (some f) (holder o fs)

-- where an offset leads: extent and position, and how the bytes there are to be read
pub record Mapping : Type 0 where
  pub kind : ℕ
  pub compression : ℕ
  pub encryption : ℕ
  pub other : ℕ
  pub start : ℕ
  pub position : ℕ

abbrev pub mapping_in : ℕ → Fields → Mapping
mapping_in o f =
    record { kind = f.kind; compression = f.compression; encryption = f.encryption; other = f.other; start = f.extent_start; position = f.position + (o - f.key) }

unfoldable pub mapping : ℕ → List Fields → Option Mapping
mapping o [] = none
mapping o (f ∷ fs) = cond (holds o f) (some (mapping_in o f)) (mapping o fs)
