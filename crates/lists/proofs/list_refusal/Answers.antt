use Rattle.std.proofs.Common.{◌∙◌, ap}
use Rattle.records.specs.Raw.{sieve}
use Rattle.item.specs.Reading.{left}
use Rattle.lists.specs.Raw.{begin, turn, next}
use Rattle.lists.proofs.Order.{pass_all}
use Rattle.lists.proofs.list_refusal.Goals as goal

pub loop-item-init : goal.loop-item-init
loop-item-init c = ap (λ r. sieve (turn c.args.file) next begin (left r)) c.into_iter-item-iterator.ensures.into_iter_gives
    ∙ ap (sieve (turn c.args.file) next begin) c.items-item-items.ensures.1 ∙ pass_all _ _
