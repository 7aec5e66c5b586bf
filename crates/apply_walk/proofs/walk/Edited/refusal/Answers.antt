use Rattle.std.proofs.Common.{◌∙◌, ap}
use Rattle.records.specs.Raw.{sieve}
use Rattle.lists.specs.Raw.{begin, next}
use Rattle.apply_walk.specs.Walks.{ahead}
use Rattle.apply_walk.specs.Checks.{result_turn}
use Rattle.apply_walk.proofs.Checks.{result_all}
use Rattle.apply_walk.proofs.walk.Edited.refusal.Goals as goal

pub loop-item-init : goal.loop-item-init
loop-item-init c = let a = c.args in
    ap (λ w. sieve (result_turn a.number a.sector) next begin (ahead w)) c.into_iter-item-iterator.ensures.into_iter_gives
    ∙ ap (sieve (result_turn a.number a.sector) next begin) c.walk-item-items.ensures ∙ result_all a.number a.sector _
