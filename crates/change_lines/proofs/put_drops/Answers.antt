use Rattle.change_segment.proofs.Planned.{unrefs-most}
use Rattle.plan_lines.proofs.Laws.{laid_append}
use Rattle.cut_segment.specs.Remade.{made_of}
use Rattle.plan_def.specs.Outputs.{ref_numbers}
use Rattle.item.specs.Items.{items}
use Rattle.item.proofs.Laws.{items-length}
use native.Mathlib.Omega.{arith}
use Rattle.change_lines.proofs.put_drops.Goals as goal

pub put_drops-requires : goal.put_drops-requires
put_drops-requires c =
    let a = c.args in
    let m = a.m in
    let n = unrefs-most a.k (items m.list.records.now) (made_of m) m.segment in (
      omega (arith, c.put_fewer.ensures.lines, n, items-length m.list.records.now, items-length a.leaves.list.records.now, c.ranges, c.well_formed),
      omega (arith, items-length a.leaves.list.records.now, c.ranges, c.well_formed),
    )

pub returns-clause-unrefs : goal.returns-clause-unrefs
returns-clause-unrefs c = laid_append ref_numbers 2 _ _ _ _ _ _ _ _ c.put_fewer.ensures c.put_drops.ensures.unrefs
