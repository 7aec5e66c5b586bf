use Rattle.change_lines.proofs.Spans.{splits_most}
use Rattle.plan_lines.proofs.Laws.{laid_append}
use Rattle.plan_def.specs.Outputs.{ref_numbers}
use Rattle.item.specs.Items.{items}
use Rattle.item.proofs.Laws.{items-length}
use mathlib.Core.List.{[], ◌∷◌}
use native.Mathlib.Omega.{arith}
use Rattle.change_lines.proofs.put_shares.Goals as goal

pub put_splits-n-requires : goal.put_splits-n-requires
put_splits-n-requires c = omega (arith, items-length c.args.m.list.records.now, c.ranges, c.well_formed)

pub put_more-requires : goal.put_more-requires
put_more-requires c =
    let m = c.args.m in
    let k = c.args.k in
    omega
    (arith, c.put_splits-n.ensures.lines, splits_most k.lo k.hi (k.one ∷ k.two ∷ []) (items m.list.records.now), m.good.room, items-length m.list.records.now, items-length m.buffer.now, c.ranges, c.well_formed)

pub returns : goal.returns
returns c = laid_append ref_numbers 2 _ _ _ _ _ _ _ _ c.put_splits-n.ensures c.put_more.ensures
