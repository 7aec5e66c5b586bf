use Rattle.std.proofs.Common.{◌≡◌}
use Rattle.item.specs.Items.{items}
use Rattle.item.specs.Reading.{left}
use Rattle.table.specs.Rows.{rows}
use Rattle.ref_def.specs.Drops.{earlier}
use Rattle.drop_lines.specs.Raw.{due, items_due}
use Rattle.drop_lines.proofs.drops_refusal.Given as goal

abbrev pub invariant-loop-item : goal.invariant-loop-item
invariant-loop-item l = earlier (due l.first) (items_due l.c (rows l.table.numbers.now) (left l.item-iterator)) ≡ items_due l.c (rows l.table.numbers.now) (items l.list)
