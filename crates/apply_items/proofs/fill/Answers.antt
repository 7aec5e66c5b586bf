use mathlib.Core.Path.{◌∙◌, sym, ap}
use Rattle.std.proofs.Common.{◌≡◌, ◌-◌, length, map}
use Rattle.plan_def.specs.ReadBack.{edit_in}
use Rattle.apply_items.specs.Passes.{puts_in}
use Rattle.apply_items.proofs.Back.{put_snoc, put-more, fill_delete, fill_start, fill_done}
use Rattle.std.proofs.lemmas.List.{nil_from_length}
use native.Mathlib.Omega.{arith}
use Rattle.apply_items.proofs.fill.Goals as goal

pub loop-line-init : goal.loop-line-init
loop-line-init c = let a = c.args in
    let e : c.into_iter-line-iterator.result.iter.rest.now ≡ a.edits.lines.now = ap (λ r. r.iter.rest.now) c.into_iter-line-iterator.ensures.into_iter_gives ∙ ap (λ i. i.rest.now) c.rev-line-items.ensures.source ∙ c.iter.ensures.rest in
    rw e (fill_start _ _ _ _ c.requires.0 c.requires.1 c.requires.2 a.edits.rise, sym c.requires.1)

pub overflow_sub-skip : goal.overflow_sub-skip
overflow_sub-skip c = let s = c.in-Some in
    omega (arith, put-more _ _ _ s.ensures.steps c.if-is_put.ensures, c.loop-line.invariant.1)

pub slide_record-i-requires : goal.slide_record-i-requires
slide_record-i-requires c = let p = c.loop-line.invariant in
    omega (arith, put-more _ _ _ c.in-Some.ensures.steps c.if-is_put.ensures, p.1, p.0.room, p.0.same.long)

pub loop-line-preserved-then-is_put : goal.loop-line-preserved-then-is_put
loop-line-preserved-then-is_put c = let p = c.loop-line.invariant in
    let s = c.in-Some.ensures.steps in
    let e : length (puts_in (map edit_in c.next.new.self.iter.rest.now)) ≡ c.loop-line.skip - 1 = omega (arith, put-more _ _ _ s c.if-is_put.ensures, p.1) in
    (c.slide_record-i.ensures.1 _ _ _ _ e (rw (put_snoc _ _ _ s c.if-is_put.ensures _ c.edit_item.ensures) at p.0), e)

pub loop-line-preserved : goal.loop-line-preserved
loop-line-preserved c = fill_delete _ _ _ c.in-Some.ensures.steps c.if-is_put.ensures _ _ _ _ _ _ c.loop-line.invariant

pub returns : goal.returns
returns c = let p = c.loop-line.invariant.0 in
    (p.same, fill_done _ _ _ _ _ _ p (ap (map edit_in) (nil_from_length _ c.in-None.ensures.steps.0)))
