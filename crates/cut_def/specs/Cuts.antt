-- `cut_range` (clone.rs): taking [lo, hi) out of a file's items (document 01, "The leaves").
use Rattle.std.specs.Prelude.{Bool, cond, ◌&&◌, not, ℕ, ◌+◌, ◌-◌, min, max, leb, ltb}
use mathlib.Core.List.{List, ◌++◌, flat_map}
use Rattle.records.specs.Select.{only}
use Rattle.item.specs.Items.{Fields, hole, end, windowed}

-- what of an item lies before lo: "a front keeps its key and position"
abbrev pub front : ℕ → Fields → Fields
front lo f = windowed f f.file f.key f.position (min (end f) lo - f.key)

-- what lies from hi on: "a back starts at the cut's end with its position advanced"
abbrev pub back : ℕ → Fields → Fields
back hi f = windowed f f.file (max f.key hi) (f.position + (max f.key hi - f.key)) (end f - max f.key hi)

-- an item without [lo, hi), where lo < hi: "an item inside goes", one outside stays as it is
abbrev pub cut : ℕ → ℕ → Fields → List Fields
cut lo hi f = only (ltb f.key lo) (front lo f) ++ only (ltb hi (end f)) (back hi f)

-- an empty range cuts nothing: it would split the item that holds it
unfoldable pub cut_range : ℕ → ℕ → List Fields → List Fields
cut_range lo hi fs = cond (ltb lo hi) (flat_map (cut lo hi) fs) fs

-- an item that the cut changes or takes away
abbrev pub touched : ℕ → ℕ → Fields → Bool
touched lo hi f = ltb lo hi && (ltb lo (end f) && ltb f.key hi)

-- one that it takes away
abbrev pub covered : ℕ → ℕ → Fields → Bool
covered lo hi f = touched lo hi f && (leb lo f.key && leb (end f) hi)

-- "an item cut on both sides that is no hole is shared once more"
abbrev pub split : ℕ → ℕ → Fields → Bool
split lo hi f = ltb lo hi && ((ltb f.key lo && ltb hi (end f)) && not (hole f))
