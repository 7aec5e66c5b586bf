use native.Mathlib.Omega.{arith}
use Rattle.table.proofs.Laws.{rows-length}
use Rattle.apply_refusals.proofs.Results.{staying_few}
use Rattle.apply_refusals.proofs.result_refusal.Goals as goal

pub overflow_add-m : goal.overflow_add-m
overflow_add-m c = omega (arith, staying_few c.args.marked.counts.rows c.args.marked.counts.gone.now c.staying.result c.staying.ensures, rows-length c.args.marked.table.numbers.now, c.args.marked.each_row, c.ranges)
