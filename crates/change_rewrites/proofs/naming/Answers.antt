use native.Mathlib.Omega.{arith}
use Rattle.cut_def.specs.Refs.{names}
use Rattle.item.specs.Items.{items}
use Rattle.item.proofs.Laws.{items-length}
use Rattle.records.proofs.Counts.{count-length}
use Rattle.change_rewrites.proofs.naming.Goals as goal

pub overflow_add-k : goal.overflow_add-k
overflow_add-k c = let a = c.args in omega (arith, c.loop-item.invariant, count-length (names a.start) (items a.list.now), items-length a.list.now)
