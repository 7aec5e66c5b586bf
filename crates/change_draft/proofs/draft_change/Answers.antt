use mathlib.Core.Path.{◌≡◌, ◌∙◌, sym}
use native.Mathlib.Omega.{arith}
use Rattle.std.proofs.Common.{rules}
use Rattle.records.specs.Refusals.{number}
use Rattle.records.proofs.Refusals.{number-some}
use Rattle.request.specs.Answers.{refused}
use Rattle.change_ground.specs.Lent.{items_in}
use Rattle.change_draft.specs.Raw.{draft_said}
use Rattle.change_draft.proofs.Drafting.{refusal-same, can_start, draft_refused, holes_fit, draft_planned, numbers_fit, sides_fit}
use Rattle.change_draft.proofs.draft_change.Goals as goal

pub returns-in_err-change_refusal : goal.returns-in_err-change_refusal
returns-in_err-change_refusal c =
    let a = c.args.a in
    let e = c.in_err-change_refusal in
    let told : draft_said (items_in a.begun.base) c.from_residual.result ≡ refused (number e.field-0.0) = search rules in
    told ∙ draft_refused a _ (refusal-same a _ e.ensures) (number-some e.field-0.0)

pub invariant_of-count_plan : goal.invariant_of-count_plan
invariant_of-count_plan c =
    let s = can_start c.args.a (sym c.in_ok-change_refusal.ensures) (omega arith) in
    record { generation = s.0; written = s.1 }

pub extents_of-extents-requires : goal.extents_of-extents-requires
extents_of-extents-requires c = sides_fit c.args.a.begun (can_start c.args.a (sym c.in_ok-change_refusal.ensures) (omega arith)).0

pub sum_holes-pieces-requires : goal.sum_holes-pieces-requires
sum_holes-pieces-requires c = rw (c.along.ensures.0, c.along.ensures.1, c.extents_of-extents.ensures) (holes_fit c.args.a)

pub numbers_of-requires : goal.numbers_of-requires
numbers_of-requires c =
    let s = rw (c.along.ensures.0, c.along.ensures.1, c.extents_of-extents.ensures) at c.sum_holes-pieces.ensures in
    numbers_fit c.args.a _ c.count_plan-n.ensures _ s.0 s.1 _ c.sectors_anew-sectors.ensures

pub returns : goal.returns
returns c =
    let s = rw (c.along.ensures.0, c.along.ensures.1, c.extents_of-extents.ensures) at c.sum_holes-pieces.ensures in
    let z = sym (refusal-same c.args.a _ c.in_ok-change_refusal.ensures) in
    draft_planned c.args.a _ c.count_plan-n.ensures _ s.0 s.1 z _ _ _ c.sectors_anew-sectors.ensures c.numbers_of.ensures c.extents_of-extents.ensures
