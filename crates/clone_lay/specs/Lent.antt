-- For the code only: what a clone goes by, in the terms of the definitions.
use Rattle.std.specs.Prelude.{◌≡◌, ℕ}
use Rattle.item.specs.Items.{items}
use Rattle.table.specs.Rows.{rows}
use Rattle.plan_def.specs.Plans.{Plan}
use Rattle.cut_segment.specs.declared.remade.Remade.{Remade}
use Rattle.cut_segment.specs.Segments.{Cutting}
use Rattle.clone_items.specs.Replacing.{top, plan_for}
use Rattle.clone_lay.specs.declared.ground.CloneGround.{CloneGround}

abbrev pub number_in : CloneGround → ℕ
number_in g = g.copies.copying.range.number

-- its plan
abbrev pub plan_in : CloneGround → Plan
plan_in g = plan_for g.copies.copying.range (items g.leaves.list.records.now) g.leaves.shared.now (items g.copies.source.now) (rows g.table.numbers.now) g.size

-- what the cut of the range leaves of the destination
pub record CutOut (g : CloneGround) (m : Remade) : Type 0 where
  pub list : m.list ≡ g.leaves.list
  pub cut : Cutting g.copies.copying.range.to (top g.copies.copying.range) g.leaves.list.records.now m.segment m.buffer.now
