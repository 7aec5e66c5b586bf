use Rattle.std.proofs.Common.{◌∙◌, ap}
use Rattle.std.specs.Int.{w64, from_le_bytes}
use Rattle.endian.proofs.Numbers.{num_8}
use Rattle.endian.proofs.le64_at.Goals as goal

pub returns : goal.returns
returns c = c.from_le_bytes.ensures ∙ ap (from_le_bytes w64) c.bytes_at.ensures ∙ num_8 _ _
