use Rattle.std.proofs.Common.{List, map, ap, ◌∙◌}
use Rattle.records.specs.Stages.{stage}
use Rattle.item.specs.Items.{Fields}
use Rattle.table.specs.Rows.{rows, one_more_reference}
use Rattle.cut_def.specs.Refs.{Ref, ref_of}
use Rattle.cut_touched.proofs.Parts.{touched_splits}
use Rattle.cut_touched.proofs.splits_refusal.Goals as goal

pub returns : goal.returns
returns c = let a = c.args in
    c.splits_refusal.ensures
    ∙ ap (λ (fs : List Fields). stage (λ (q : Ref). one_more_reference q.start (rows a.table.numbers.now)) (map ref_of fs)) (touched_splits a.lo a.hi _ _ c.touched_part.ensures)
