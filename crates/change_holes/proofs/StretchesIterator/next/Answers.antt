use Rattle.std.proofs.Common.{rules, length, ap}
use native.Mathlib.Omega.{arith}
use Rattle.item.proofs.Laws.{items-length}
use Rattle.change_holes.proofs.Walking.{stretches_none, stretches_more}
use Rattle.change_holes.proofs.StretchesIterator.next.Goals as goal

pub returns-then-self-clause-steps : goal.returns-then-self-clause-steps
returns-then-self-clause-steps c = let h = stretches_none c.args.self.now c.if-self.true in (h, h)

pub stretch_at-s-requires : goal.stretch_at-s-requires
stretch_at-s-requires c = omega (arith, c.if-self.false, items-length c.args.self.now.wishes.list.now)

pub returns-clause-steps : goal.returns-clause-steps
returns-clause-steps c = stretches_more c.args.self.now _ c.if-self.false c.stretch_at-s.ensures

pub returns-clause-goes : goal.returns-clause-goes
returns-clause-goes c = let n = ap length (stretches_more c.args.self.now _ c.if-self.false c.stretch_at-s.ensures) in search (rules, arith)
