use mathlib.Core.Bool.{Bool}
use mathlib.Core.List.{List, map}
use mathlib.Core.Path.{refl, ap, ◌∙◌}
use native.Mathlib.Omega.{arith}
use lib.ListN.{take, length-map}
use Rattle.records.specs.Stages.{unless}
use Rattle.plan_def.specs.Plans.{Add}
use Rattle.plan_apart.specs.Spacing.{extent_of}
use Rattle.plan_apart.proofs.Adds.{extents-apart}
use Rattle.ref_sort.specs.Order.{pair_refs}
use Rattle.ref_sort.proofs.Filling.{filling_all, filling_room, filling_turn, filled}
use Rattle.change_holes.specs.Walk.{left}
use Rattle.change_places.specs.Wishes.{wanted_of, add_of, ahead}
use Rattle.change_places.proofs.Keys.{placed-most}
use Rattle.change_places.proofs.sorted_refusal.Goals as goal

pub loop-e-init : goal.loop-e-init
loop-e-init c = filling_all _ _ _ (ap (λ (l : List Add). map extent_of l) (ap ahead c.into_iter-e-iterator.ensures.into_iter_gives))

pub bounds-buffer-n : goal.bounds-buffer-n
bounds-buffer-n c =
    let e = ap (λ (l : List Add). map extent_of l) c.in-Some.ensures.steps in
    omega (arith, filling_room _ _ _ _ c.loop-e.invariant _ _ e, length-map (ahead c.args.all) extent_of, placed-most c.args.all.places.now (map wanted_of (left c.args.all.walk)), c.requires, c.loop-e.auto.buffer)

pub loop-e-preserved : goal.loop-e-preserved
loop-e-preserved c =
    let e = ap (λ (l : List Add). map extent_of l) c.in-Some.ensures.steps in
    filling_turn _ _ _ _ c.loop-e.invariant (extent_of (add_of c.in-Some.e)) (map extent_of (ahead c.next.new.self)) e (bounds-buffer-n c) (c.in-Some.e.start, c.in-Some.e.length) refl

pub returns : goal.returns
returns c =
    let e = ap (λ (l : List Add). map extent_of l) c.in-None.ensures.steps.0 in
    c.check.ensures ∙ ap (λ (b : Bool). unless b 26) (c.are_apart.ensures ∙ extents-apart (ahead c.args.all) (pair_refs (take c.loop-e.n c.loop-e.buffer)) (filled _ _ _ _ c.loop-e.invariant e))
