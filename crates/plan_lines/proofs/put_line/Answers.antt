use Rattle.std.proofs.Common.{arith}
use Rattle.plan_lines.proofs.Laws.{laid_one, laid_full}
use Rattle.plan_lines.proofs.put_line.Goals as goal

pub returns-then-n-out : goal.returns-then-n-out
returns-then-n-out g c = laid_full (λ x. x) g.row.N _ _ _ (omega arith)

pub returns : goal.returns
returns g c = laid_one (λ x. x) g.row.N _ _ _ _ (omega arith) c.put_numbers.ensures
