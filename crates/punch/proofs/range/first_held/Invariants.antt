use Rattle.item.specs.Items.{items}
use Rattle.item.specs.Reading.{left}
use Rattle.punch.proofs.Starting.{Left}
use Rattle.punch.proofs.range.first_held.Given as goal

abbrev pub invariant-loop-item : goal.invariant-loop-item
invariant-loop-item l = Left l.offset (items l.list.records.now) (left l.item-iterator)
