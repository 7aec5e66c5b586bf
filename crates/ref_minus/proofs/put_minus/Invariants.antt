use Rattle.ref_minus.proofs.Turns.{Walking}
use Rattle.ref_minus.proofs.put_minus.Given as goal

abbrev pub invariant-loop-x : goal.invariant-loop-x
invariant-loop-x l = Walking l.xs l.ys l.n l.initial.out l.x-index l.m l.left l.out
