use native.Mathlib.Omega.{arith}
use Rattle.cut_segment.proofs.Touching.{touching_none, touching-some}
use Rattle.cut_segment.proofs.Running.touched.Goals as goal

pub returns-then-hi-lo : goal.returns-then-hi-lo
returns-then-hi-lo c = touching_none _ _ _ c.if-hi-lo.true

pub returns : goal.returns
returns c = touching-some _ _ _ _ _ (omega arith) c.args.self.runs c.ending_by.ensures c.started_by.ensures
