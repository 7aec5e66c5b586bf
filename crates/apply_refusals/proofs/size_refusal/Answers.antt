use Rattle.std.proofs.Common.{◌≡◌, rules}
use Rattle.records.specs.Refusals.{why}
use Rattle.records.specs.Stages.{first}
use Rattle.apply_def.specs.Lent.{lent}
use Rattle.apply_refusals.specs.Stages.{ones}
use Rattle.apply_refusals.proofs.Lent.{ones_inside}
use Rattle.apply_refusals.proofs.size_refusal.Goals as goal

pub returns : goal.returns
unfolding first
returns c =
    let a = c.args in
    let h : why c.check-4.result ≡ ones a.sizes.items a.sizes.rows a.list.now a.table.now (lent a.plan) = search rules in
    record { told = h; inside = ones_inside a.sizes.items a.sizes.rows a.list.now a.table.now (lent a.plan) _ h }
