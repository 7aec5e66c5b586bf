use Rattle.std.proofs.Common.{◌∙◌, ap}
use Rattle.std.specs.Int.{w16, from_le_bytes}
use Rattle.endian.proofs.Numbers.{num_2}
use Rattle.endian.proofs.le16_at.Goals as goal

pub returns : goal.returns
returns c = c.from_le_bytes.ensures ∙ ap (from_le_bytes w16) c.bytes_at.ensures ∙ num_2 _ _
