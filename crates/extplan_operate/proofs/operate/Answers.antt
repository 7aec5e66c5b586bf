use Rattle.extplan_operate.specs.Operations.{operation}
use Rattle.extplan_operate.proofs.operate.Goals as goal

pub returns-in-Punch-clause-met : goal.returns-in-Punch-clause-met
unfolding operation
returns-in-Punch-clause-met c = rw c.in-Punch.is c.punch_hole.ensures.met

pub returns-in-Fallocate-clause-met : goal.returns-in-Fallocate-clause-met
unfolding operation
returns-in-Fallocate-clause-met c = rw c.in-Fallocate.is c.fallocate.ensures.met

pub returns-in-Clone-clause-met : goal.returns-in-Clone-clause-met
unfolding operation
returns-in-Clone-clause-met c = rw c.in-Clone.is c.clone_range.ensures.met

pub returns-in-CloneFrom-clause-met : goal.returns-in-CloneFrom-clause-met
unfolding operation
returns-in-CloneFrom-clause-met c = rw c.in-CloneFrom.is c.clone_range-in-CloneFrom.ensures.met
