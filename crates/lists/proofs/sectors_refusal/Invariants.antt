use Rattle.std.proofs.Common.{◌≡◌}
use Rattle.records.specs.Stages.{every}
use Rattle.item.specs.Items.{items}
use Rattle.item.specs.Reading.{left}
use Rattle.lists.specs.Lists.{whole_sectors}
use Rattle.lists.proofs.sectors_refusal.Given as goal

abbrev pub invariant-loop-item : goal.invariant-loop-item
invariant-loop-item l = every (whole_sectors l.sector) (left l.item-iterator) ≡ every (whole_sectors l.sector) (items l.list)
