use Rattle.plan_apart.proofs.Turns.{ends, spaced-is}
use Rattle.std.proofs.Common.{rules}
use Rattle.std.proofs.lemmas.List.Sorted.{answers_always}
use Rattle.plan_apart.proofs.are_spaced.Goals as goal

pub returns : goal.returns
returns c = spaced-is _ _ (c.is_sorted_by.ensures.cases ends (answers_always _ _ _ (λ f a r k h. search rules)))
