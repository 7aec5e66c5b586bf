use Rattle.apply_walk.proofs.Merge.{none_left}
use Rattle.apply_walk.proofs.Steps.{stepped_behind, passed_behind, ended}
use native.Mathlib.Omega.{arith}
use Rattle.apply_walk.proofs.walk.Walk.next_record.Goals as goal

pub returns-in-Some : goal.returns-in-Some
returns-in-Some c = stepped_behind c.args.self.now c.loop-self.self c.loop-self.invariant _ _ c.in-Some.ensures

pub loop-self-preserved : goal.loop-self-preserved
loop-self-preserved c = passed_behind c.args.self.now c.loop-self.self c.loop-self.invariant _ c.in_default.ensures

pub returns : goal.returns
returns c = let u = c.loop-self.self in
    ended c.args.self.now u c.loop-self.invariant (none_left u.edited.list.now u.edited.edits.now u.i u.j (omega arith) (omega arith))
