use Rattle.endian.proofs.Numbers.{num_1}
use Rattle.endian.proofs.le8_at.Goals as goal

pub returns : goal.returns
returns c = num_1 _ _
