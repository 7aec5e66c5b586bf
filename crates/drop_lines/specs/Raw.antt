-- For the code only: what private functions compute, item by item and row by row.
use Rattle.std.specs.Prelude.{Bool, cond, ◌&&◌, List, [], ◌∷◌, map, ℕ, eqb, Option, Some, None}
use Rattle.records.specs.Refusals.{number}
use Rattle.std.specs.List.{filter}
use Rattle.item.specs.Items.{Fields}
use Rattle.table.specs.declared.Row.{Row}
use Rattle.cut_def.specs.Refs.{Ref, ref_of}
use Rattle.ref_def.specs.Drops.{InLeaf, Due, earlier, drop_refusal, lines, released}
use Rattle.drop_lines.specs.declared.Cut.{Cut}
use Rattle.drop_lines.specs.declared.Refused.{Refused}
use Rattle.drop_lines.specs.Dropped.{taken}

-- nothing is refused
abbrev pub none_due : Due
none_due = record { start = 0; number = 0 }

-- a refusal in code, as the definitions have it
abbrev pub due : Option Refused → Due
due None = none_due
due (Some d) = record { start = d.start; number = number d.why }

-- a drop that is not refused counts as none
abbrev pub refused_only : Due → Due
refused_only d = cond (eqb d.number 0) none_due d

-- what is due for one item, if it is a drop, and for a list of items
abbrev pub item_due : Cut → List Row → Fields → Due
item_due c rows f = cond (taken c f) (refused_only (record { start = f.extent_start; number = drop_refusal rows f })) none_due

unfoldable pub items_due : Cut → List Row → List Fields → Due
items_due c rows [] = none_due
items_due c rows (f ∷ fs) = earlier (item_due c rows f) (items_due c rows fs)

-- an item is a drop of the extent at `start`; a drop's line, and those of all
abbrev pub drop_of : Cut → ℕ → Fields → Bool
drop_of c start f = taken c f && eqb f.extent_start start

abbrev pub line_of : Fields → Ref
line_of f = ref_of f

abbrev pub lines_at : Cut → ℕ → List Fields → List Ref
lines_at c start fs = map line_of (filter (drop_of c start) fs)

-- the lines of one row's drops: releases if its extent is released, else unrefs
abbrev pub row_releases : List InLeaf → Row → List Ref
row_releases ds row = cond (released ds row) (lines row.start ds) []

abbrev pub row_unrefs : List InLeaf → Row → List Ref
row_unrefs ds row = cond (released ds row) [] (lines row.start ds)
