use Rattle.std.proofs.Common.{rules}
use Rattle.records.specs.Stages.{first}
use Rattle.request.proofs.Stages.{lent_groups}
use Rattle.request.proofs.lent_refusal.Goals as goal

pub returns-in_err-ones : goal.returns-in_err-ones
unfolding first
returns-in_err-ones c = let a = c.args in rw (← lent_groups a.l.volume a.l.file a.l.list.now a.l.shared.now a.l.table.now) (search rules)

pub returns-in_err-list_refusal : goal.returns-in_err-list_refusal
unfolding first
returns-in_err-list_refusal c = let a = c.args in rw (← lent_groups a.l.volume a.l.file a.l.list.now a.l.shared.now a.l.table.now) (search rules)

pub returns-in_err-table_refusal : goal.returns-in_err-table_refusal
unfolding first
returns-in_err-table_refusal c = let a = c.args in rw (← lent_groups a.l.volume a.l.file a.l.list.now a.l.shared.now a.l.table.now) (search rules)

pub returns : goal.returns
unfolding first
returns c = let a = c.args in rw (← lent_groups a.l.volume a.l.file a.l.list.now a.l.shared.now a.l.table.now) (search rules)
