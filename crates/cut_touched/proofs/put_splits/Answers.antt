use Rattle.cut_touched.proofs.Parts.{touched_splits}
use Rattle.cut_touched.proofs.put_splits.Goals as goal

pub returns : goal.returns
returns c = rw (touched_splits _ _ _ _ c.touched_part.ensures) at c.put_splits.ensures
