use Rattle.std.proofs.Common.{refl}
use Rattle.plan_def.specs.Outputs.{ref_numbers}
use Rattle.plan_lines.proofs.Loops.{laid_by}
use Rattle.plan_lines.proofs.put_ref.Goals as goal

pub returns : goal.returns
returns c = laid_by ref_numbers 2 _ _ _ _ _ _ refl c.put_line.ensures
