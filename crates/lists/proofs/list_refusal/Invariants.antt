use Rattle.std.proofs.Common.{◌≡◌}
use Rattle.records.specs.Stages.{unless}
use Rattle.records.specs.Raw.{sieve}
use Rattle.item.specs.Items.{items}
use Rattle.item.specs.Reading.{left}
use Rattle.lists.specs.Lists.{list_kept}
use Rattle.lists.specs.Raw.{turn, next}
use Rattle.lists.proofs.list_refusal.Given as goal

abbrev pub invariant-loop-item : goal.invariant-loop-item
invariant-loop-item l = sieve (turn l.file) next l.last (left l.item-iterator) ≡ unless (list_kept l.file (items l.list)) 2
