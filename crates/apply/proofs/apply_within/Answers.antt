use mathlib.Core.Path.{◌≡◌, refl, ap}
use Rattle.std.proofs.Common.{rules}
use Rattle.std.specs.Prelude.{Err}
use Rattle.table.specs.declared.Table.{Table}
use Rattle.table.specs.Rows.{rows}
use Rattle.apply.proofs.Accepted.{lent_facts, lent_rising, lent-sector, lent_rows}
use Rattle.apply.proofs.Whole.{zeroed, result_refused, items_fit, rows_fit, result_done}
use Rattle.apply.proofs.apply_within.Goals as goal

pub invariant_of-kept : goal.invariant_of-kept
invariant_of-kept g c = let t = c.args.target in record { kept = (lent_facts t.number t.sector t.sizes.items t.sizes.rows c.args.list.now c.args.table.now c.args.plan.edits.now c.requires.0).tabled }

pub count_lines-missing-requires : goal.count_lines-missing-requires
count_lines-missing-requires g c = let t = c.args.target in rw (lent_rows t.number t.sector t.sizes.items t.sizes.rows c.args.list.now c.args.table.now c.args.plan.edits.now c.requires.0) (zeroed g.row.N t.sizes.rows c.requires.1)

pub invariant_of-edited : goal.invariant_of-edited
invariant_of-edited g c = let t = c.args.target in record { rising = lent_rising t.number t.sector t.sizes.items t.sizes.rows c.args.list.now c.args.table.now c.args.plan.edits.now c.requires.0 }

pub result_refusal-requires : goal.result_refusal-requires
result_refusal-requires g c = let t = c.args.target in lent-sector t.number t.sector t.sizes.items t.sizes.rows c.args.list.now c.args.table.now c.args.plan.edits.now c.requires.0

pub returns-in_err-result_refusal : goal.returns-in_err-result_refusal
returns-in_err-result_refusal g c =
    let a = c.args in
    let x = c.count_lines-missing.ensures in
    let e = c.in_err-result_refusal.field-0.0 in
    let r : c.from_residual.result ≡ Err e = search rules in
    rw r (result_refused a.target a.list.now a.table.now a.plan c.requires.0 c.count_lines-missing.result.0 _ (ap (λ (k : Table). rows k.numbers.now) x.2) x.0 x.1 _ c.room-room.ensures _ c.in_err-result_refusal.ensures e refl)

pub items_after-items-requires : goal.items_after-items-requires
items_after-items-requires g c =
    let a = c.args in
    let t = a.target in
    let x = c.count_lines-missing.ensures in
    let fit = items_fit t a.list.now a.table.now a.plan c.requires.0 c.count_lines-missing.result.0 _ (ap (λ (k : Table). rows k.numbers.now) x.2) x.0 x.1 _ c.room-room.ensures _ c.in_ok-result_refusal.ensures refl in
    (c.requires.0.inside.listed, lent_rising t.number t.sector t.sizes.items t.sizes.rows a.list.now a.table.now a.plan.edits.now c.requires.0, fit)

pub rows_after-rows-requires : goal.rows_after-rows-requires
rows_after-rows-requires g c =
    let a = c.args in
    let x = c.count_lines-missing.ensures in
    rows_fit a.target a.list.now a.table.now a.plan c.requires.0 c.count_lines-missing.result.0 _ (ap (λ (k : Table). rows k.numbers.now) x.2) x.0 x.1 _ c.room-room.ensures _ c.in_ok-result_refusal.ensures refl

pub returns : goal.returns
returns g c =
    let a = c.args in
    let x = c.count_lines-missing.ensures in
    result_done a.target a.list.now a.table.now a.plan c.requires.0 c.count_lines-missing.result.0 _ (ap (λ (k : Table). rows k.numbers.now) x.2) x.0 x.1 _ c.room-room.ensures _ c.in_ok-result_refusal.ensures refl _ _ _ _ c.items_after-items.ensures c.rows_after-rows.ensures
