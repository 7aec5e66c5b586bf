use Rattle.std.proofs.Common.{◌≡◌, map}
use Rattle.records.specs.Stages.{stage}
use Rattle.records.specs.Select.{keep}
use Rattle.item.specs.Items.{items}
use Rattle.item.specs.Reading.{left}
use Rattle.table.specs.Rows.{rows, one_more_reference}
use Rattle.cut_def.specs.Cuts.{split}
use Rattle.cut_def.specs.Refs.{Ref, ref_of}
use Rattle.cut_splits.specs.Splits.{split_refusal}
use Rattle.cut_splits.proofs.splits_refusal.Given as goal

abbrev pub invariant-loop-item : goal.invariant-loop-item
invariant-loop-item l = stage (split_refusal l.lo l.hi (rows l.table.numbers.now)) (left l.item-iterator) ≡ stage (λ (q : Ref). one_more_reference q.start (rows l.table.numbers.now)) (map ref_of (keep (split l.lo l.hi) (items l.list)))
