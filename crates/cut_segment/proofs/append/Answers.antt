use Rattle.item.proofs.Laws.{items-length}
use native.Mathlib.Omega.{arith}
use Rattle.cut_segment.proofs.append.Goals as goal

pub overflow_add-result : goal.overflow_add-result
overflow_add-result c = omega (arith, items-length c.args.seg.now)
