use Rattle.std.proofs.Common.{◌≡◌}
use Rattle.records.specs.Raw.{sieve}
use Rattle.records.specs.Stages.{unless}
use Rattle.lists.specs.Raw.{next}
use Rattle.apply_walk.specs.Walks.{ahead}
use Rattle.apply_walk.specs.Checks.{items_now, result_turn, result_sound}
use Rattle.apply_walk.proofs.walk.Edited.refusal.Given as goal

-- The loop is a sieve over the records that are ahead.
abbrev pub invariant-loop-item : goal.invariant-loop-item
invariant-loop-item l = sieve (result_turn l.number l.sector) next l.last (ahead l.item-iterator) ≡ unless (result_sound l.number l.sector (items_now l.fn.self.list.now l.fn.self.edits.now)) 2
