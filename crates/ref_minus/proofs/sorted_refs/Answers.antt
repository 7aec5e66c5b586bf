use mathlib.Core.Path.{◌∙◌, sym}
use mathlib.Core.List.{[], ◌∷◌}
use native.Mathlib.Omega.{arith}
use Prim.Native.Nat.{◌≤◌}
use lib.ListN.{length}
use Rattle.item.specs.Items.{items}
use Rattle.ref_sort.proofs.Filling.{filled_lines, filled_sorted}
use Rattle.ref_minus.proofs.Turns.{collect_over, collect_room, collect_turn, named_none, named-few}
use Rattle.ref_minus.proofs.sorted_refs.Goals as goal

pub loop-item-preserved-then-not-is_among : goal.loop-item-preserved-then-not-is_among
loop-item-preserved-then-not-is_among c = collect_over _ _ _ _ _ c.loop-item.invariant _ _ c.in-Some.ensures.steps (sym c.if-not-is_among.true ∙ c.is_among.ensures)

pub bounds-buf-n : goal.bounds-buf-n
bounds-buf-n c = omega (arith, collect_room _ _ _ _ _ c.loop-item.invariant _ _ c.in-Some.ensures.steps (sym c.if-not-is_among.false ∙ c.is_among.ensures), c.requires)

pub loop-item-preserved : goal.loop-item-preserved
loop-item-preserved c =
    let e = c.in-Some.ensures.steps in
    let t = sym c.if-not-is_among.false ∙ c.is_among.ensures in
    let m = collect_room _ _ _ _ _ c.loop-item.invariant _ _ e t in
    collect_turn _ _ _ _ _ c.loop-item.invariant _ _ e t (omega (arith, m, c.requires)) _ (λ i. record { start = c.extent_start.ensures i; offset = c.reference.ensures i })

pub returns : goal.returns
returns c =
    let e = c.args.one ∷ c.args.two ∷ [] in
    let g = c.loop-item.invariant in
    let z = named_none e _ c.in-None.ensures.steps.0 in
    let k : c.loop-item.n ≤ length (items c.args.list.now) = omega (arith, filled_lines _ _ _ _ g z, named-few e (items c.args.list.now)) in
    (k, filled_sorted _ _ _ _ g z _ (omega (arith, k, c.requires)) c.sort_refs.ensures.sorted c.sort_refs.ensures.len)
