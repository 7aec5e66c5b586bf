use Rattle.edit_lines.proofs.Steps.{edits-turn, edits-end}
use Rattle.plan_lines.proofs.Laws.{going_first}
use Rattle.plan_def.specs.Outputs.{edit_bytes}
use Rattle.item.proofs.Laws.{items-length}
use mathlib.Core.Path.{refl}
use native.Mathlib.Omega.{arith}
use Rattle.edit_lines.proofs.put_edits.Goals as goal

pub loop-at-init : goal.loop-at-init
loop-at-init c = let a = c.args in (omega arith, omega arith, omega arith, omega arith, refl, c.requires.1, going_first (edit_bytes a.file) 71 _ _ _)

pub step-at-requires : goal.step-at-requires
step-at-requires c = let a = c.args in
    let p = c.requires in
    record { olds = p.0; adds = p.2; news = c.loop-at.invariant.5; some = omega arith; i = omega arith; j = omega arith; k = omega arith; n = omega (arith, items-length a.was.now, items-length a.segment.now) }

pub loop-at-preserved : goal.loop-at-preserved
loop-at-preserved c = let a = c.args in
    let l = c.loop-at in
    let p = c.step-at.ensures in
    (p.i, p.j, p.k, omega (arith, p.on, p.laid.lines), omega (arith, c.out-1.given), p.news, edits-turn a.file a.generation a.segment.now a.pieces.now a.was.now _ _ _ l.at _ l.out _ l.invariant.6 p)

pub shape_of-out : goal.shape_of-out
shape_of-out c = c.loop-at.invariant.4

pub returns : goal.returns
returns c = let a = c.args in
    let l = c.loop-at in
    edits-end a.file a.generation a.segment.now a.pieces.now a.was.now _ _ _ l.at l.out (omega arith) (omega arith) (omega arith) l.invariant.6
