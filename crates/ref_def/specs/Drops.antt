-- `drop_covered` (clone.rs): "a covered item that is no hole is a drop, a release if the extent's references equal its
-- drops and none of their leaves is shared, else an unref".
use Rattle.std.specs.Prelude.{Bool, cond, ◌&&◌, not, ℕ, eqb, ltb, length}
use mathlib.Core.List.{List, [], ◌∷◌, map, flat_map}
use Rattle.records.specs.Stages.{unless, every}
use Rattle.records.specs.Select.{keep}
use Rattle.item.specs.Items.{Fields}
use Rattle.table.specs.declared.Row.{Row}
use Rattle.table.specs.Rows.{find, with_row}
use Rattle.table.specs.Windows.{window_sound}
use Rattle.cut_def.specs.Refs.{Ref, ref_of}

-- an item with its shared byte: "A byte for each destination record says whether its leaf is shared"
pub record InLeaf : Type 0 where
  pub item : Fields
  pub shared : ℕ

-- a list's items, each with its byte
unfoldable pub in_leaves : List Fields → List ℕ → List InLeaf
in_leaves [] bs = []
in_leaves (f ∷ fs) [] = []
in_leaves (f ∷ fs) (b ∷ bs) = record { item = f; shared = b } ∷ in_leaves fs bs

-- 14 and 17 of one drop
abbrev pub drop_refusal : List Row → Fields → ℕ
drop_refusal rows f = with_row (find f.extent_start rows) (λ (row : Row). unless (window_sound f row) 17)

-- "for drops by extent start 14, 17": the refusal at the lowest extent start that has one
pub record Due : Type 0 where
  pub start : ℕ
  pub number : ℕ

abbrev pub earlier : Due → Due → Due
earlier d e = cond (eqb d.number 0) e (cond (not (eqb e.number 0) && ltb e.start d.start) e d)

unfoldable pub due_of : List Row → List InLeaf → Due
due_of rows [] = record { start = 0; number = 0 }
due_of rows (d ∷ ds) = earlier (record { start = d.item.extent_start; number = drop_refusal rows d.item }) (due_of rows ds)

abbrev pub drops_refusal : List Row → List InLeaf → ℕ
drops_refusal rows ds = (due_of rows ds).number

-- the drops of one extent, in list order
abbrev pub drops_of : ℕ → List InLeaf → List InLeaf
drops_of start ds = keep (λ (d : InLeaf). eqb d.item.extent_start start) ds

abbrev pub lines : ℕ → List InLeaf → List Ref
lines start ds = map (λ (d : InLeaf). ref_of d.item) (drops_of start ds)

-- "a release if the extent's references equal its drops and none of their leaves is shared"
abbrev pub released : List InLeaf → Row → Bool
released ds row = eqb row.references (length (drops_of row.start ds)) && every (λ (d : InLeaf). eqb d.shared 0) (drops_of row.start ds)

-- by extent start, which is the table's order: a line for each drop
abbrev pub releases : List Row → List InLeaf → List Ref
releases rows ds = flat_map (λ (row : Row). cond (released ds row) (lines row.start ds) []) rows

abbrev pub unrefs : List Row → List InLeaf → List Ref
unrefs rows ds = flat_map (λ (row : Row). cond (released ds row) [] (lines row.start ds)) rows
