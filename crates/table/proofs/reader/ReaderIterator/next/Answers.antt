use Rattle.std.proofs.Common.{rules, length, ap}
use native.Mathlib.Omega.{arith}
use Rattle.table.proofs.Reading.{left_none, left_more}
use Rattle.table.proofs.reader.ReaderIterator.next.Goals as goal

pub returns-then-self-clause-steps : goal.returns-then-self-clause-steps
returns-then-self-clause-steps c = let h = left_none c.args.self.now c.if-self.true in (h, h)

pub returns-clause-steps : goal.returns-clause-steps
returns-clause-steps c = left_more _ _ c.if-self.false _ c.read-row.ensures c.advance.ensures.0 c.advance.ensures.1

pub returns-clause-goes : goal.returns-clause-goes
returns-clause-goes c = let n = ap length (left_more _ _ c.if-self.false _ c.read-row.ensures c.advance.ensures.0 c.advance.ensures.1) in search (rules, arith)
