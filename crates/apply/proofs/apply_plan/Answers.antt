use mathlib.Core.Path.{◌≡◌, refl}
use Rattle.std.proofs.Common.{rules}
use Rattle.std.specs.Prelude.{Err}
use Rattle.apply_def.proofs.Whys.{positive}
use Rattle.apply_def.specs.Lent.{lent}
use Rattle.apply.proofs.Accepted.{lent-ones, lent-others, lent_ready, lent-apply}
use Rattle.apply.proofs.Whole.{met-refused, met-same}
use Rattle.apply.proofs.apply_plan.Goals as goal

pub returns-in_err-size_refusal : goal.returns-in_err-size_refusal
returns-in_err-size_refusal c =
    let a = c.args in
    let t = a.target in
    let e = c.in_err-size_refusal.field-0.0 in
    let r : c.from_residual.result ≡ Err e = search rules in
    rw r (met-refused _ _ e _ _ (lent-ones t.sector t.number t.generation t.sizes.items t.sizes.rows a.list.now a.table.now (lent a.plan) _ c.in_err-size_refusal.ensures.told (positive e)))

pub returns-in_err-lent_refusal : goal.returns-in_err-lent_refusal
returns-in_err-lent_refusal c =
    let a = c.args in
    let t = a.target in
    let e = c.in_err-lent_refusal.field-0.0 in
    let r : c.from_residual-in_err-lent_refusal.result ≡ Err e = search rules in
    rw r (met-refused _ _ e _ _ (lent-others t.sector t.number t.generation t.sizes.items t.sizes.rows a.list.now a.table.now (lent a.plan) _ _ c.in_ok-size_refusal.ensures.told refl c.in_err-lent_refusal.ensures (positive e)))

pub apply_ready-requires : goal.apply_ready-requires
apply_ready-requires c =
    let a = c.args in
    let t = a.target in
    lent_ready t.sector t.number t.generation t.sizes.items t.sizes.rows a.list.now a.table.now (lent a.plan) _ c.in_ok-size_refusal.ensures.inside c.in_ok-lent_refusal.ensures refl

pub returns : goal.returns
returns c =
    let a = c.args in
    let t = a.target in
    met-same _ _ _ _ _ _ _ (lent-apply t.sector t.number t.generation t.sizes.items t.sizes.rows a.list.now a.table.now (lent a.plan) _ c.in_ok-size_refusal.ensures.told refl) c.apply_ready.ensures
