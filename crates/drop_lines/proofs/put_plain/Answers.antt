use native.Mathlib.Omega.{arith}
use Rattle.item.specs.Items.{items}
use Rattle.table.specs.Rows.{rows}
use Rattle.plan_def.specs.Outputs.{ref_numbers}
use Rattle.plan_lines.proofs.Loops.{next_room, next_turn, none_left}
use Rattle.drop_lines.specs.Lent.{cut_drops}
use Rattle.drop_lines.specs.Raw.{row_unrefs, row_releases}
use Rattle.drop_lines.proofs.Rows.{lines-most}
use Rattle.drop_lines.proofs.put_plain.Goals as goal

pub put_row-counts-requires : goal.put_row-counts-requires
put_row-counts-requires c = let a = c.args in
    let ds = cut_drops a.c a.leaves in
    let i = c.loop-row.invariant in
    let most = lines-most a.c (rows a.table.numbers.now) (items a.leaves.list.now) a.leaves.shared.now a.table.kept a.leaves.one_each in (
      omega (arith, c.requires.0, most, next_room ref_numbers 2 (row_unrefs ds) _ _ _ _ _ _ i.0 _ _ c.in-Some.ensures.steps),
      omega (arith, c.requires.1, most, next_room ref_numbers 2 (row_releases ds) _ _ _ _ _ _ i.1 _ _ c.in-Some.ensures.steps),
    )

pub loop-row-preserved : goal.loop-row-preserved
loop-row-preserved c = let ds = cut_drops c.args.c c.args.leaves in
    let i = c.loop-row.invariant in
    (next_turn ref_numbers 2 (row_unrefs ds) _ _ _ _ _ _ i.0 _ _ c.in-Some.ensures.steps _ _ c.put_row-counts.ensures.unrefs, next_turn ref_numbers 2 (row_releases ds) _ _ _ _ _ _ i.1 _ _ c.in-Some.ensures.steps _ _ c.put_row-counts.ensures.releases)

pub returns-clause-unrefs : goal.returns-clause-unrefs
returns-clause-unrefs c = none_left ref_numbers 2 (row_unrefs (cut_drops c.args.c c.args.leaves)) _ _ _ _ _ _ c.loop-row.invariant.0 c.in-None.ensures.steps.0

pub returns-clause-releases : goal.returns-clause-releases
returns-clause-releases c = none_left ref_numbers 2 (row_releases (cut_drops c.args.c c.args.leaves)) _ _ _ _ _ _ c.loop-row.invariant.1 c.in-None.ensures.steps.0
