use native.Mathlib.Omega.{arith}
use Rattle.item.proofs.Laws.{items-length}
use Rattle.cut_segment.proofs.Buffer.{record_read}
use Rattle.cut_segment.proofs.record_at.Goals as goal

pub item_at-requires : goal.item_at-requires
item_at-requires c = omega (arith, items-length c.args.list.now)

pub returns : goal.returns
returns c = record_read _ _ _ c.requires c.item_at.ensures
