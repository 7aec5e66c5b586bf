use mathlib.Core.Path.{◌∙◌}
use Rattle.item.specs.Items.{items}
use Rattle.punch.proofs.Sectors.{found_held}
use Rattle.punch.proofs.range.is_held.Goals as goal

pub returns : goal.returns
returns c = let a = c.args in c.is_some.ensures ∙ found_held a.o (items a.leaves.list.records.now) a.leaves.shared.now c.holding_item.result a.leaves.one_each c.holding_item.ensures
