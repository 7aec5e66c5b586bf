use native.Mathlib.Omega.{arith}
use Rattle.clone_copies.proofs.Steps.{steps-turn, steps-end}
use Rattle.clone_copies.proofs.Merge.put_edits.Goals as goal

pub loop-at-preserved : goal.loop-at-preserved
loop-at-preserved c = let a = c.args in let m = a.self.copies in let l = c.loop-at in let s = c.step-at.ensures in record {
  few = omega (arith, l.invariant.few, s.on, s.laid.lines);
  same = omega (arith, l.invariant.same);
  good = s.good;
  going = steps-turn m.copying.range m.source.now a.self.segment.now a.self.was.now _ _ l.at _ l.out _ l.invariant.going s;
}

pub returns : goal.returns
returns c = let a = c.args in let m = a.self.copies in let l = c.loop-at in
    steps-end m.copying.range m.source.now a.self.segment.now a.self.was.now _ _ l.at l.out l.invariant.good (omega (arith, c.loop-at-test.false)) l.invariant.going
