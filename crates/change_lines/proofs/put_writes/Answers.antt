use Rattle.plan_lines.proofs.Laws.{laid_append}
use Rattle.plan_def.specs.Outputs.{write_numbers}
use Rattle.change_lines.proofs.put_writes.Goals as goal

pub returns : goal.returns
returns c = laid_append write_numbers 4 _ _ _ _ _ _ _ _ c.put_writes_in_place-n.ensures (laid_append write_numbers 4 _ _ _ _ _ _ _ _ (rw c.front_new.ensures at c.put_new_write-m.ensures) (rw c.back_new.ensures at c.put_new_write.ensures))
