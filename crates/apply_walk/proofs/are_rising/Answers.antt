use Rattle.std.proofs.Common.{◌∙◌, ap, rules}
use Rattle.std.proofs.lemmas.List.Sorted.{answers_always}
use Rattle.records.specs.Stages.{neighbours}
use Rattle.records.proofs.Neighbours.{neighbours-is}
use Rattle.apply_walk.proofs.Merge.{key_read}
use Rattle.apply_walk.proofs.Checks.{rise_in, rises-all}
use Rattle.apply_walk.proofs.are_rising.Goals as goal

pub returns : goal.returns
returns c =
    neighbours-is rise_in _ _ (c.is_sorted_by.ensures.cases rise_in (answers_always _ _ _ (λ f a r k h. rw (key_read a.0.now, key_read a.1.0.now) (search rules))))
    ∙ ap (neighbours rise_in) c.as_chunks.ensures.front
    ∙ rises-all c.args.edits.now
