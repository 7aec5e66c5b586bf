-- For the code only: what the structs and private functions of this crate say, in the terms of the definitions.
use Rattle.std.specs.Prelude.{List, ℕ, Option, Some, None, Result, Ok, Err, ◌≡◌, ◌+◌}
use Rattle.std.proofs.Math.Option as found
use Rattle.records.specs.Stages.{first}
use Rattle.item.specs.Items.{items}
use Rattle.table.specs.Rows.{rows}
use Rattle.request.specs.declared.Volume.{Volume}
use Rattle.request.specs.declared.File.{File}
use Rattle.request.specs.declared.Range.{Range}
use Rattle.request.specs.Lent.{list_broken, table_broken}
use Rattle.punch_def.specs.Punch.{range_refusal}
use Rattle.change_def.specs.declared.RangeChange.{RangeChange}
use Rattle.change_def.specs.Changes.{Change}
use Rattle.change_def.specs.Raw.{change_of}

-- an offset, or none
abbrev pub offset_in : Option ℕ → found.Option ℕ
offset_in (Some at) = found.some at
offset_in None = found.none

-- a change of a file of this size, or none
abbrev pub punch_plan_said : Option RangeChange → (size : ℕ) → found.Option Change
punch_plan_said (Some c) size = found.some (change_of c size)
punch_plan_said None size = found.none

-- refusals 1 to 9 from the bytes and numbers that are lent
abbrev pub range_lent : Volume → File → Range → (list shared table : List ℕ) → ℕ
range_lent v f r list shared table = first (first (list_broken list) (table_broken table)) (range_refusal v f r (items list) shared (rows table))
