use Rattle.std.proofs.Common.{rules}
use Rattle.records.specs.Stages.{first}
use Rattle.change_lay.proofs.Laying.{ready_now}
use Rattle.change_refusals.proofs.Refusing.{change_last, change-stages}
use Rattle.change_refusals.proofs.change_refusal.Goals as goal

pub returns-then-g : goal.returns-then-g
returns-then-g c = change_last c.args.b c.if-g.true

pub returns-in_err-splits_refusal : goal.returns-in_err-splits_refusal
unfolding first
returns-in_err-splits_refusal c = rw (← change-stages c.args.b c.if-g.false) (search rules)

pub returns-in_err-rewrites_refusal : goal.returns-in_err-rewrites_refusal
unfolding first
returns-in_err-rewrites_refusal c = rw (← change-stages c.args.b c.if-g.false) (search rules)

pub shares_refusal-requires : goal.shares_refusal-requires
shares_refusal-requires c = ready_now c.args.b (search rules)

pub returns-in_err-shares_refusal : goal.returns-in_err-shares_refusal
unfolding first
returns-in_err-shares_refusal c =
    let b = c.args.b in
    let s = c.in_err-shares_refusal.ensures b.base.file b.base.leaves.shared.now b.parting b.base.leaves.one_each in
    rw (← change-stages b c.if-g.false) (search (rules, s))

pub returns : goal.returns
unfolding first
returns c =
    let b = c.args.b in
    let s = c.in_ok-shares_refusal.ensures b.base.file b.base.leaves.shared.now b.parting b.base.leaves.one_each in
    let d = rw c.cut_of.ensures at (c.drops_refusal.ensures b.base.leaves.shared.now b.base.leaves.one_each) in
    rw (← change-stages b c.if-g.false) (search (rules, s, d))
