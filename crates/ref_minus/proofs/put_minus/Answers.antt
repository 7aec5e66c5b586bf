use mathlib.Core.Path.{refl}
use Rattle.ref_minus.proofs.Turns.{walk_met, walk_put, walk_done}
use Rattle.ref_minus.proofs.put_minus.Goals as goal

pub loop-x-preserved-in-Some : goal.loop-x-preserved-in-Some
loop-x-preserved-in-Some c = let h = c.in-Some.ensures.cases in
    walk_met _ _ _ _ _ _ _ _ c.loop-x.invariant c.requires.0 c.loop-x-test.true _ refl _ c.skip-left.ensures h.0 _ h.1

pub loop-x-preserved : goal.loop-x-preserved
loop-x-preserved c = walk_put _ _ _ _ _ _ _ _ c.loop-x.invariant c.requires.0 c.loop-x-test.true _ refl _ c.skip-left.ensures c.in_default.ensures.cases _ _ c.put_ref-m.ensures

pub returns : goal.returns
returns c = walk_done _ _ _ _ _ _ _ _ c.loop-x-test.false c.loop-x.invariant
