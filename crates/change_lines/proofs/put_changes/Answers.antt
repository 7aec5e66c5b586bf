use Rattle.change_lines.proofs.Spans.{taken-rises, taken-most, made-most}
use Rattle.item.proofs.Laws.{items-length}
use native.Mathlib.Omega.{arith}
use Rattle.change_lines.proofs.put_changes.Goals as goal

pub put_edits-requires : goal.put_edits-requires
put_edits-requires c =
    let m = c.args.m in
    let q = c.requires in
    rw (c.taken.ensures, c.made.ensures)
    (taken-rises m, q.1, q.0, omega (arith, taken-most m, made-most m, m.good.room, items-length m.list.records.now, items-length m.buffer.now, c.ranges, c.well_formed))
