use native.Mathlib.Omega.{arith}
use Rattle.item.proofs.Laws.{items-length}
use Rattle.cut_segment.proofs.Spans.{items-part}
use Rattle.cut_segment.proofs.records_in.Goals as goal

pub overflow_mul-result : goal.overflow_mul-result
overflow_mul-result c = omega (arith, c.requires.0, c.requires.1, items-length c.args.list.now)

pub overflow_mul-result-2 : goal.overflow_mul-result-2
overflow_mul-result-2 c = omega (arith, c.requires.1, items-length c.args.list.now)

pub slice_bounds-result-end : goal.slice_bounds-result-end
slice_bounds-result-end c = omega (arith, c.requires.1, items-length c.args.list.now)

pub returns : goal.returns
returns c = let a = c.args in items-part a.list.now a.from a.to c.requires.0 (omega (arith, c.requires.1, items-length a.list.now))
