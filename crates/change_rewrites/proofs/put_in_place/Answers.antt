use Rattle.plan_lines.proofs.Laws.{laid_none}
use Rattle.plan_def.specs.Outputs.{write_numbers}
use Rattle.change_rewrites.proofs.put_in_place.Goals as goal

pub returns-in_default : goal.returns-in_default
returns-in_default c = rw c.in_default.is (laid_none write_numbers 4 _ _)
