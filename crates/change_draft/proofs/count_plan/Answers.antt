use native.Mathlib.Omega.{arith}
use Rattle.change_draft.proofs.Drafting.{none_pieced, none-counted}
use Rattle.change_draft.proofs.count_plan.Goals as goal

pub lay_plan-requires : goal.lay_plan-requires
lay_plan-requires c = record { inside = (omega arith, omega arith); pieced = none_pieced _ _ _ _ }

pub returns : goal.returns
returns c = none-counted c.args.s.begun _ _ _ _ c.lay_plan.ensures.laid
