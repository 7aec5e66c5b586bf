use Rattle.std.proofs.Common.{rules}
use Rattle.std.proofs.lemmas.List.{map-append}
use Rattle.std.proofs.lemmas.Iterator.Consumers.{YieldsList-at, YieldsList-turn, YieldsList-end}
use native.Mathlib.Omega.{arith}
use mathlib.Core.List.{[], ◌∷◌, map}
use mathlib.Core.Path.{ap, ap₂, sym, ◌∙◌}
use lib.ListN.{length-map}
use Prim.Native.Nat.{ℕ}
use Rattle.item.specs.Items.{fields}
use Rattle.cut_def.specs.Refs.{ref_of}
use Rattle.plan_def.specs.Outputs.{ref_numbers}
use Rattle.plan_lines.proofs.Laws.{laid_none, laid_append}
use Rattle.plan_lines.proofs.Loops.{laid_same}
use Rattle.plan_lines.proofs.put_refs.Goals as goal

pub loop-item-init : goal.loop-item-init
loop-item-init g c = rw c.into_iter-item-iterator.ensures.into_iter_gives (c.requires.can, c.requires.ends, laid_none ref_numbers 2 _ _)

pub put_ref-m-requires : goal.put_ref-m-requires
put_ref-m-requires g c =
    let l = c.loop-item in
    let t = YieldsList-turn (YieldsList-at c.into_iter-item-iterator.ensures.into_iter_gives c.requires.room.1) l.yielded _ l.yielded_by _ _ _ c.in-Some.is c.next.ensures.steps in
    omega (arith, l.invariant.2.lines, length-map (map fields l.yielded) ref_of, length-map l.yielded fields, t.0, c.requires.room.2)

pub loop-item-preserved : goal.loop-item-preserved
loop-item-preserved g c = let p = c.next.ensures.goes in (
  search (rules, p),
  search (rules, p),
  let line = ap₂ (λ (s o : ℕ). record { start = s; offset = o } ∷ []) c.extent_start.ensures c.reference.ensures in
      let turn = laid_append ref_numbers 2 _ _ _ _ _ _ _ _ c.loop-item.invariant.2 (laid_same ref_numbers 2 _ _ _ _ _ _ (sym line) c.put_ref-m.ensures) in
      laid_same ref_numbers 2 _ _ _ _ _ _ (ap (map ref_of) (map-append fields c.loop-item.yielded _) ∙ map-append ref_of (map fields c.loop-item.yielded) _) turn,
)

pub returns : goal.returns
returns g c fs road =
    let l = c.loop-item in
    let t = YieldsList-end (YieldsList-at c.into_iter-item-iterator.ensures.into_iter_gives road) l.yielded _ l.yielded_by _ _ c.in-None.is c.next.ensures.steps in
    laid_same ref_numbers 2 _ _ _ _ _ _ (ap (map ref_of) (sym t.0)) l.invariant.2
