use Rattle.std.proofs.Common.{◌≡◌}
use Rattle.records.specs.Stages.{stage}
use Rattle.item.specs.Items.{items}
use Rattle.item.specs.Reading.{left}
use Rattle.fallocate_def.specs.Fallocate.{item_refusal}
use Rattle.fallocate.proofs.items_refusal.Given as goal

abbrev pub invariant-loop-item : goal.invariant-loop-item
invariant-loop-item l = stage (item_refusal l.size l.fill.from l.fill.to) (left l.item-iterator) ≡ stage (item_refusal l.size l.fill.from l.fill.to) (items l.r.ground.leaves.list.records.now)
