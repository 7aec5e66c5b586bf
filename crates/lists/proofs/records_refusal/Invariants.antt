use Rattle.std.proofs.Common.{◌≡◌}
use Rattle.records.specs.Stages.{stage}
use Rattle.item.specs.Items.{items}
use Rattle.item.specs.Reading.{left}
use Rattle.lists.specs.Lists.{record_refusal}
use Rattle.lists.proofs.records_refusal.Given as goal

abbrev pub invariant-loop-item : goal.invariant-loop-item
invariant-loop-item l = stage record_refusal (left l.item-iterator) ≡ stage record_refusal (items l.list)
