-- The source items of a clone and their copies (document 01, "A clone"; `clone_item`, clone.rs).
use Rattle.std.specs.Prelude.{Bool, cond, ◌&&◌, not, List, [], ◌∷◌, map, ℕ, ◌+◌, ◌-◌, min, max, eqb, leb, ltb}
use Rattle.records.specs.Stages.{whenever, unless, first, first_of}
use Rattle.records.specs.Select.{keep}
use Rattle.item.specs.Items.{Fields, hole, end, windowed}
use Rattle.table.specs.declared.Row.{Row}
use Rattle.table.specs.Rows.{find, with_row}
use Rattle.table.specs.Windows.{window_sound}
use Rattle.clone_items.specs.declared.Copying.{Copying}

-- a source item overlaps the range that is read
abbrev pub overlaps : Copying → Fields → Bool
overlaps c f = ltb c.from (end f) && ltb f.key (c.from + c.span)

-- `clone_item`: "Each source item that overlaps is trimmed, moved and shared": trimmed to the range, with its position
-- advanced, moved into the destination; its data else are kept
abbrev pub clone_item : Copying → Fields → Fields
clone_item c f =
    windowed f c.number
    (c.to + (max f.key c.from - c.from))
    (f.position + (max f.key c.from - f.key))
    (min (end f) (c.from + c.span) - max f.key c.from)

-- "source records in order 7 (inline, only from source offset 0), 8, 9, 14, 17, 15 (9 and later only if it overlaps; 14
-- and later only if no hole)"; 17 is of the trimmed window
abbrev pub source_record : List Row → Copying → Fields → ℕ
source_record rs c f =
    cond (eqb f.kind 0) (whenever (eqb c.from 0) 7)
    (first (unless (leb f.kind 2) 8)
    (cond (overlaps c f)
    (first (unless (eqb f.encryption 0 && eqb f.other 0) 9)
    (cond (hole f) 0
    (with_row (find f.extent_start rs)
    (λ (row : Row). first_of (unless (window_sound (clone_item c f) row) 17 ∷ unless (eqb row.keyed 0) 15 ∷ [])))))
    0))

-- an item that is copied: "holes are skipped", and so is what does not overlap
abbrev pub copied : Copying → Fields → Bool
copied c f = not (eqb f.kind 0) && (overlaps c f && not (hole f))

-- the copies of a list
abbrev pub clones : Copying → List Fields → List Fields
clones c fs = map (clone_item c) (keep (copied c) fs)
