use Rattle.change_holes.proofs.Gaps.{swept_even, swept_odd}
use Rattle.change_holes.proofs.Wishes.swept.Goals as goal

pub returns-then-n-eq0 : goal.returns-then-n-eq0
returns-then-n-eq0 c = swept_even _ _ _ _ _ _ _ _ _ c.requires c.gap_start-start.ensures c.gap_stop-stop.ensures _ c.if-n-eq0.true c.min.ensures

pub returns-else-n-eq0 : goal.returns-else-n-eq0
returns-else-n-eq0 c = swept_odd _ _ _ _ _ _ _ _ _ c.requires c.gap_start-start.ensures c.gap_stop-stop.ensures _ c.if-n-eq0.false c.max.ensures
