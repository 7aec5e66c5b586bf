use native.Mathlib.Omega.{arith}
use Rattle.item.proofs.Laws.{items-length}
use Rattle.drop_lines.proofs.tests.lines_by_row.Goals as goal

pub invariant_of-leaves : goal.invariant_of-leaves
invariant_of-leaves g c = record { one_each = omega (arith, items-length c.put_item-3.new.out, c.put_item-3.auto.out, c.put_item-2.auto.out, c.put_item.auto.out) }
