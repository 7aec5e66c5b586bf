use Rattle.plan_lines.proofs.Laws.{laid_append}
use Rattle.plan_def.specs.Outputs.{write_numbers}
use Rattle.change_lines.proofs.put_writes_in_place.Goals as goal

pub returns : goal.returns
returns c = laid_append write_numbers 4 _ _ _ _ _ _ _ _ c.put_in_place-n.ensures c.put_in_place.ensures
