use Rattle.std.proofs.Common.{◌≡◌, ◌+◌}
use Rattle.records.specs.Select.{count}
use Rattle.cut_def.specs.Refs.{names, naming}
use Rattle.item.specs.Items.{items}
use Rattle.item.specs.Reading.{left}
use Rattle.change_rewrites.proofs.naming.Given as goal

abbrev pub invariant-loop-item : goal.invariant-loop-item
invariant-loop-item l = l.k + count (names l.start) (left l.item-iterator) ≡ naming l.start (items l.list)
