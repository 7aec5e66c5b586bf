use Rattle.std.proofs.Common.{rules}
use Rattle.records.specs.Stages.{first}
use Rattle.item.specs.Items.{items}
use Rattle.clone.proofs.Passing.{drops-same}
use Rattle.clone.proofs.asked.Parts.copies_refusal.Goals as goal

pub returns-in_err-drops_refusal : goal.returns-in_err-drops_refusal
unfolding first
returns-in_err-drops_refusal c = let p = c.args.self in let d = c.drops_refusal.ensures p.leaves.shared.now p.leaves.one_each in rw (drops-same p.copying.range _ (items p.leaves.list.records.now) p.leaves.shared.now c.cut_for-k.ensures) (search rules)

pub returns-in_err-splits_refusal : goal.returns-in_err-splits_refusal
unfolding first
returns-in_err-splits_refusal c = let p = c.args.self in let d = c.drops_refusal.ensures p.leaves.shared.now p.leaves.one_each in let s = rw c.cut_for-k.ensures at c.splits_refusal.ensures in rw (drops-same p.copying.range _ (items p.leaves.list.records.now) p.leaves.shared.now c.cut_for-k.ensures) (search rules)

pub returns-in_err-source_records : goal.returns-in_err-source_records
unfolding first
returns-in_err-source_records c = let p = c.args.self in let d = c.drops_refusal.ensures p.leaves.shared.now p.leaves.one_each in let s = rw c.cut_for-k.ensures at c.splits_refusal.ensures in rw (drops-same p.copying.range _ (items p.leaves.list.records.now) p.leaves.shared.now c.cut_for-k.ensures) (search rules)

pub returns : goal.returns
unfolding first
returns c = let p = c.args.self in let d = c.drops_refusal.ensures p.leaves.shared.now p.leaves.one_each in let s = rw c.cut_for-k.ensures at c.splits_refusal.ensures in rw (drops-same p.copying.range _ (items p.leaves.list.records.now) p.leaves.shared.now c.cut_for-k.ensures) (search rules)
