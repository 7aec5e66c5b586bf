use mathlib.Core.Path.{refl}
use mathlib.Core.List.{[], ◌∷◌, map}
use native.Mathlib.Omega.{arith}
use Rattle.plan_def.specs.Outputs.{add_numbers}
use Rattle.plan_lines.proofs.Laws.{going_first, going-turn, going_done}
use Rattle.plan_lines.proofs.Loops.{going_length}
use Rattle.change_holes.specs.Walk.{wishes_of}
use Rattle.change_places.specs.Wishes.{wanted_of, add_of, ahead}
use Rattle.change_places.proofs.Keys.{placed-most}
use Rattle.change_places.proofs.put_adds.Goals as goal

pub loop-e-init : goal.loop-e-init
loop-e-init c = rw (c.into_iter-e-iterator.ensures.into_iter_gives, c.walk.ensures) (going_first add_numbers 3 0 _ _)

pub put_add-m-requires : goal.put_add-m-requires
put_add-m-requires c =
    let g = rw c.in-Some.ensures.steps at c.loop-e.invariant in
    omega (arith, g.lines, placed-most c.args.places.now (map wanted_of (wishes_of c.args.w)))

pub loop-e-preserved : goal.loop-e-preserved
loop-e-preserved c =
    let g = rw c.in-Some.ensures.steps at c.loop-e.invariant in
    going-turn add_numbers 3 0 _ _ c.loop-e.m (add_of c.in-Some.e ∷ []) (ahead c.next.new.self) c.loop-e.out _ _ g c.put_add-m.ensures

pub shape_of-out : goal.shape_of-out
shape_of-out c = going_length add_numbers 3 (omega arith) (λ a. refl) 0 _ _ _ _ _ c.loop-e.invariant

pub returns : goal.returns
returns c = going_done add_numbers 3 0 _ _ c.loop-e.m c.loop-e.out (rw c.in-None.ensures.steps.0 at c.loop-e.invariant)
