use mathlib.Core.Path.{◌∙◌}
use mathlib.Core.Bool.{true}
use Rattle.item.specs.Items.{items}
use Rattle.fallocate.proofs.Sums.{sum_swept, sum_limit}
use Rattle.fallocate.proofs.hole_bytes.Goals as goal

pub sum_holes-sums-requires : goal.sum_holes-sums-requires
sum_holes-sums-requires c = let r = c.args.r in rw (c.along.ensures.0, c.along.ensures.1) (sum_limit r.ground.file.size r.ground.volume.sector r.start r.stop true _ _ c.end_change-c.ensures c.fill_of-fill.ensures r.ground.sound.sector r.some (items r.ground.leaves.list.records.now) r.ground.leaves.list.runs r.limit)

pub returns : goal.returns
returns c = let r = c.args.r in (rw (c.along.ensures.0, c.along.ensures.1) at c.sum_holes-sums.ensures.0) ∙ sum_swept r.ground.file.size r.ground.volume.sector r.start r.stop true _ _ c.end_change-c.ensures c.fill_of-fill.ensures r.ground.sound.sector r.some (items r.ground.leaves.list.records.now) r.ground.leaves.list.runs
