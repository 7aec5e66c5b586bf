use Rattle.std.proofs.Common.{◌≡◌, true, ◌+◌, ◌≤◌, length}
use mathlib.Core.List.{map}
use Rattle.records.specs.Stages.{every}
use Rattle.item.specs.Items.{items}
use Rattle.item.specs.Reading.{left}
use Rattle.cut_def.specs.Refs.{ref_of}
use Rattle.plan_def.specs.Outputs.{ref_numbers}
use Rattle.plan_lines.proofs.Laws.{Going}
use Rattle.clone_items.specs.Copies.{clones}
use Rattle.clone_copies.specs.Walk.{copy_sound}
use Rattle.clone_copies.proofs.Copies.put_refs.Given as goal

abbrev pub invariant-loop-item : goal.invariant-loop-item
invariant-loop-item l = record {
  sound : every (copy_sound l.self.copying.range) (left l.item-iterator) ≡ true;
  few : l.m + length (left l.item-iterator) ≤ l.n + length (items l.self.source.now);
  going : Going ref_numbers 2 l.n (map ref_of (clones l.self.copying.range (items l.self.source.now))) l.initial.out l.m (map ref_of (clones l.self.copying.range (left l.item-iterator))) l.out;
}
