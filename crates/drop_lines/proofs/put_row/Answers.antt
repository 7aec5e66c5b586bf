use native.Mathlib.Omega.{arith}
use mathlib.Core.Path.{ap}
use lib.ListN.{length}
use Rattle.item.specs.Items.{items}
use Rattle.plan_def.specs.Outputs.{ref_numbers}
use Rattle.plan_lines.proofs.Laws.{laid_none}
use Rattle.plan_lines.proofs.Loops.{laid_same}
use Rattle.drop_lines.proofs.Rows.{released_lines, released_none, held_lines, held_none}
use Rattle.drop_lines.proofs.put_row.Goals as goal

pub put_lines-n-requires : goal.put_lines-n-requires
put_lines-n-requires c = let a = c.args in
    omega (arith, c.requires.1, ap length (released_lines a.c (items a.leaves.list.now) a.leaves.shared.now a.row _ c.is_released.ensures a.leaves.one_each c.if-is_released.true))

pub put_lines-n-requires-2 : goal.put_lines-n-requires-2
put_lines-n-requires-2 c = let a = c.args in
    omega (arith, c.requires.0, ap length (held_lines a.c (items a.leaves.list.now) a.leaves.shared.now a.row _ c.is_released.ensures a.leaves.one_each c.if-is_released.false))

pub returns-then-is_released-clause-unrefs : goal.returns-then-is_released-clause-unrefs
returns-then-is_released-clause-unrefs c = let a = c.args in
    laid_same ref_numbers 2 _ _ _ _ _ _ (released_none a.c (items a.leaves.list.now) a.leaves.shared.now a.row _ c.is_released.ensures c.if-is_released.true) (laid_none ref_numbers 2 _ _)

pub returns-then-is_released-clause-releases : goal.returns-then-is_released-clause-releases
returns-then-is_released-clause-releases c = let a = c.args in
    laid_same ref_numbers 2 _ _ _ _ _ _ (released_lines a.c (items a.leaves.list.now) a.leaves.shared.now a.row _ c.is_released.ensures a.leaves.one_each c.if-is_released.true) c.put_lines-n.ensures

pub returns-clause-unrefs : goal.returns-clause-unrefs
returns-clause-unrefs c = let a = c.args in
    laid_same ref_numbers 2 _ _ _ _ _ _ (held_lines a.c (items a.leaves.list.now) a.leaves.shared.now a.row _ c.is_released.ensures a.leaves.one_each c.if-is_released.false) c.put_lines-n-2.ensures

pub returns-clause-releases : goal.returns-clause-releases
returns-clause-releases c = let a = c.args in
    laid_same ref_numbers 2 _ _ _ _ _ _ (held_none a.c (items a.leaves.list.now) a.leaves.shared.now a.row _ c.is_released.ensures c.if-is_released.false) (laid_none ref_numbers 2 _ _)
