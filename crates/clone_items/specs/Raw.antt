-- For the code only: the parts of a source record's refusals, as the code groups them, and what a copy asks of an item.
use Rattle.std.specs.Prelude.{Bool, true, cond, ◌&&◌, ◌||◌, not, List, [], ◌∷◌, ◌≡◌, ℕ, ◌+◌, ◌≤◌, ◌^◌, eqb}
use Rattle.records.specs.Stages.{unless, first, first_of}
use Rattle.item.specs.Items.{Fields, ranged, hole}
use Rattle.table.specs.declared.Row.{Row}
use Rattle.table.specs.Rows.{find, with_row}
use Rattle.lists.specs.Lists.{range_sound}
use Rattle.table.specs.Windows.{window_sound}
use Rattle.clone_items.specs.declared.Copying.{Copying}
use Rattle.clone_items.specs.Copies.{overlaps, clone_item}

-- both ranges end at most at 2^63
pub record InFiles (c : Copying) : Type 0 where
  pub source : c.from + c.span ≤ 2 ^ 63
  pub destination : c.to + c.span ≤ 2 ^ 63

-- an item that can be copied: with a sound range that overlaps
pub record Copyable (c : Copying) (f : Fields) : Type 0 where
  pub sound : range_sound f ≡ true
  pub over : overlaps c f ≡ true

-- what a well-kept list has of each item
abbrev pub range_kept : Fields → Bool
range_kept f = not (ranged f) || range_sound f

-- 14, 17 and 15 of a copy
abbrev pub copy_refusal : List Row → Fields → ℕ
copy_refusal rs f = with_row (find f.extent_start rs) (λ (row : Row). first_of (unless (window_sound f row) 17 ∷ unless (eqb row.keyed 0) 15 ∷ []))

-- 9, and those of its copy, of an item that overlaps
abbrev pub overlap_refusal : List Row → Copying → Fields → ℕ
overlap_refusal rs c f =
    first (unless (eqb f.encryption 0 && eqb f.other 0) 9) (cond (hole f) 0 (copy_refusal rs (clone_item c f)))
