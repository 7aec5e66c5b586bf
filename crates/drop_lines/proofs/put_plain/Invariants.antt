use mathlib.Core.List.{flat_map}
use Rattle.table.specs.Rows.{rows}
use Rattle.table.specs.Reading.{left}
use Rattle.plan_def.specs.Outputs.{ref_numbers}
use Rattle.plan_lines.proofs.Laws.{Going}
use Rattle.drop_lines.specs.Lent.{cut_drops}
use Rattle.drop_lines.specs.Raw.{row_unrefs, row_releases}
use Rattle.drop_lines.proofs.put_plain.Given as goal

abbrev pub invariant-loop-row : goal.invariant-loop-row
invariant-loop-row l = let ds = cut_drops l.c l.leaves in
    Going ref_numbers 2 l.fn.at.unrefs (flat_map (row_unrefs ds) (rows l.table.numbers.now)) l.initial.unrefs l.counts.unrefs (flat_map (row_unrefs ds) (left l.row-iterator)) l.unrefs
    × Going ref_numbers 2 l.fn.at.releases (flat_map (row_releases ds) (rows l.table.numbers.now)) l.initial.releases l.counts.releases (flat_map (row_releases ds) (left l.row-iterator)) l.releases
