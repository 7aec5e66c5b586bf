use Rattle.std.proofs.Common.{refl}
use Rattle.plan_def.specs.Outputs.{write_numbers}
use Rattle.plan_lines.proofs.Loops.{laid_by}
use Rattle.plan_lines.proofs.put_write.Goals as goal

pub returns : goal.returns
returns c = laid_by write_numbers 4 _ _ _ _ _ _ refl c.put_line.ensures
