use Rattle.std.proofs.Common.{◌≡◌, true, ◌+◌}
use Rattle.records.specs.Stages.{every}
use Rattle.item.specs.Items.{items}
use Rattle.item.specs.Reading.{left}
use Rattle.cut_def.specs.Pieces.{counted_bytes}
use Rattle.clone_items.specs.Copies.{clones}
use Rattle.clone_copies.specs.Walk.{copy_sound}
use Rattle.clone_copies.proofs.Copies.bytes.Given as goal

abbrev pub invariant-loop-item : goal.invariant-loop-item
invariant-loop-item l = record {
  sound : every (copy_sound l.self.copying.range) (left l.item-iterator) ≡ true;
  sum : l.sum + counted_bytes (clones l.self.copying.range (left l.item-iterator)) ≡ counted_bytes (clones l.self.copying.range (items l.self.source.now));
}
