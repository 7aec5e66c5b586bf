use Rattle.item.specs.Items.{items}
use Rattle.punch.proofs.Starting.{left-first, start-turn, start_stop, start_none}
use Rattle.punch.proofs.range.first_held.Goals as goal

pub loop-item-init : goal.loop-item-init
loop-item-init c = let a = c.args in
    rw (c.into_iter-item-iterator.ensures.into_iter_gives, c.reader_at-item-items.ensures.0, c.reader_at-item-items.ensures.1, c.ending_by-from.ensures) (left-first a.offset 0 (items a.list.records.now) a.list.runs)

pub returns-then-not-is_hole : goal.returns-then-not-is_hole
returns-then-not-is_hole c = let a = c.args in rw c.max.ensures (start_stop a.offset (items a.list.records.now) _ _ _ _ c.in-Some.ensures.steps c.is_hole.ensures c.loop-item.invariant c.if-not-is_hole.true)

pub loop-item-preserved : goal.loop-item-preserved
loop-item-preserved c = let a = c.args in start-turn a.offset (items a.list.records.now) _ _ _ _ c.in-Some.ensures.steps c.is_hole.ensures c.loop-item.invariant c.if-not-is_hole.false

pub returns : goal.returns
returns c = let a = c.args in start_none a.offset (items a.list.records.now) _ c.in-None.ensures.steps.0 c.loop-item.invariant
