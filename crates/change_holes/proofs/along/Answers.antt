use Rattle.cut_segment.proofs.Segments.{runs-bounded}
use Rattle.change_holes.proofs.along.Goals as goal

pub invariant_of-result : goal.invariant_of-result
invariant_of-result c = record { ends = runs-bounded 0 _ c.args.list.runs }
