use Rattle.item.proofs.Runs.{item_read}
use Rattle.item.proofs.item_at.Goals as goal

pub returns : goal.returns
returns c = item_read _ _ _ c.le64_at.ensures c.le8_at.ensures c.le64_at-2.ensures c.bytes_at.ensures
