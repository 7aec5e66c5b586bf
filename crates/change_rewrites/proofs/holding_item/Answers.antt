use native.Mathlib.Omega.{arith}
use Rattle.item.proofs.Laws.{items-length}
use Rattle.change_rewrites.proofs.Holding.{holder-none, holder_stop, holder_free}
use Rattle.change_rewrites.proofs.holding_item.Goals as goal

pub returns-then-list-i : goal.returns-then-list-i
returns-then-list-i c = let a = c.args in holder-none a.o a.leaves _ c.ending_by-i.ensures (omega (arith, items-length a.leaves.list.records.now))

pub record_at-item-requires : goal.record_at-item-requires
record_at-item-requires c = omega (arith, items-length c.args.leaves.list.records.now)

pub bounds-leaves-i : goal.bounds-leaves-i
bounds-leaves-i c = let a = c.args in omega (arith, a.leaves.one_each, items-length a.leaves.list.records.now)

pub returns-then-is_holding : goal.returns-then-is_holding
returns-then-is_holding c = let a = c.args in holder_stop a.o a.leaves _ c.ending_by-i.ensures _ _ (omega (arith, items-length a.leaves.list.records.now)) c.record_at-item.ensures c.is_holding.ensures c.if-is_holding.true

pub returns-else-is_holding : goal.returns-else-is_holding
returns-else-is_holding c = let a = c.args in holder_free a.o a.leaves _ c.ending_by-i.ensures _ _ (omega (arith, items-length a.leaves.list.records.now)) c.record_at-item.ensures c.is_holding.ensures c.if-is_holding.false
