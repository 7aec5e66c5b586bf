use Rattle.std.proofs.Common.{◌≡◌}
use Rattle.records.specs.Stages.{stage}
use Rattle.item.specs.Items.{items}
use Rattle.item.specs.Reading.{left}
use Rattle.clone_span.specs.Spans.{destination_record}
use Rattle.clone_span.proofs.destination_records.Given as goal

abbrev pub invariant-loop-item : goal.invariant-loop-item
invariant-loop-item l = stage destination_record (left l.item-iterator) ≡ stage destination_record (items l.list)
