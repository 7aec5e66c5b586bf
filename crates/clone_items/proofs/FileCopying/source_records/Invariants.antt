use Rattle.std.proofs.Common.{◌≡◌, true}
use Rattle.records.specs.Stages.{stage, every}
use Rattle.item.specs.Items.{items}
use Rattle.item.specs.Reading.{left}
use Rattle.table.specs.Rows.{rows}
use Rattle.clone_items.specs.Copies.{source_record}
use Rattle.clone_items.specs.Raw.{range_kept}
use Rattle.clone_items.proofs.FileCopying.source_records.Given as goal

abbrev pub invariant-loop-item : goal.invariant-loop-item
invariant-loop-item l = record {
  kept : every range_kept (left l.item-iterator) ≡ true;
  same : stage (source_record (rows l.table.numbers.now) l.self.range) (left l.item-iterator) ≡ stage (source_record (rows l.table.numbers.now) l.self.range) (items l.list);
}
