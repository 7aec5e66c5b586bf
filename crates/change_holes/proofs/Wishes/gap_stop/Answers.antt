use mathlib.Core.Path.{◌∙◌}
use native.Mathlib.Omega.{arith}
use Rattle.item.proofs.Laws.{items-length}
use Rattle.change_holes.proofs.Gaps.{stops_before, stops_last}
use Rattle.change_holes.proofs.Wishes.gap_stop.Goals as goal

pub returns-then-n-self : goal.returns-then-n-self
returns-then-n-self c = stops_last _ _ _ c.if-n-self.true

pub record_at-item-requires : goal.record_at-item-requires
record_at-item-requires c = omega (arith, items-length c.args.self.list.now)

pub returns : goal.returns
returns c = c.min.ensures ∙ stops_before _ _ _ (omega (arith, items-length c.args.self.list.now)) c.record_at-item.ensures _
