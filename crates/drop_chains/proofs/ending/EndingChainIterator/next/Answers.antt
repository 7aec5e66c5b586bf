use Rattle.std.proofs.Common.{rules, length, ap}
use native.Mathlib.Omega.{arith}
use Rattle.item.proofs.Laws.{items-length}
use Rattle.drop_chains.proofs.Reading.{ending_none, ending_in, inside_on, ended_on, ending_more}
use Rattle.drop_chains.proofs.ending.EndingChainIterator.next.Goals as goal

pub returns-then-self-eq0-clause-steps : goal.returns-then-self-eq0-clause-steps
returns-then-self-eq0-clause-steps c = let h = ending_none c.args.self.now c.if-self-eq0.true in (h, h)

pub item_at-item-requires : goal.item_at-item-requires
item_at-item-requires c = let s = c.args.self.now in omega (arith, ending_in s c.if-self-eq0.false, s.leaves.one_each, items-length s.leaves.list.now)

pub invariant_of-self : goal.invariant_of-self
invariant_of-self c = let s = c.args.self.now in record { room = s.room; inside = inside_on s c.if-self-eq0.false; ended = ended_on s c.if-self-eq0.false }

pub returns-clause-steps : goal.returns-clause-steps
returns-clause-steps c = ending_more c.args.self.now c.if-self-eq0.false _ c.item_at-item.ensures

pub returns-clause-goes : goal.returns-clause-goes
returns-clause-goes c = let n = ap length (ending_more c.args.self.now c.if-self-eq0.false _ c.item_at-item.ensures) in search (rules, arith)
