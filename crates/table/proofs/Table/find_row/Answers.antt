use Prim.Native.Nat.{◌+◌, ◌-◌, ◌/◌}
use Rattle.table.proofs.Halves.{between_all, up, down, hit, miss}
use native.Mathlib.Omega.{arith}
use Rattle.table.proofs.Table.find_row.Goals as goal

pub loop-lo-init : goal.loop-lo-init
loop-lo-init c = between_all _ _ _ (omega arith)

pub returns-then-s-start : goal.returns-then-s-start
returns-then-s-start c = let l = c.loop-lo in
    let m = l.lo + (l.hi - l.lo) / 2 in
    hit _ _ _ _ c.args.self.kept l.invariant m _ (omega arith) c.row_at.ensures c.if-s-start.true

pub loop-lo-preserved-then-s-start-2 : goal.loop-lo-preserved-then-s-start-2
loop-lo-preserved-then-s-start-2 c = let l = c.loop-lo in
    let m = l.lo + (l.hi - l.lo) / 2 in
    up _ _ _ _ c.args.self.kept l.invariant m (omega arith) c.if-s-start-2.true

pub loop-lo-preserved : goal.loop-lo-preserved
loop-lo-preserved c = let l = c.loop-lo in
    let m = l.lo + (l.hi - l.lo) / 2 in
    down _ _ _ _ c.args.self.kept l.invariant m (omega arith) (omega (arith, c.if-s-start.false, c.if-s-start-2.false))

pub returns : goal.returns
returns c = miss _ _ _ _ c.args.self.kept c.loop-lo.invariant 0 c.loop-lo-test.false
