use native.Mathlib.Omega.{arith}
use Rattle.item.proofs.Laws.{items-length}
use Rattle.drop_chains.proofs.Reading.{leaves_many}
use Rattle.drop_chains.proofs.Links.{chained_first, chained_turn_kept, chained_turn_linked, linked_first, turn_kept, turn_linked}
use Rattle.drop_lines.specs.Dropped.{taken}
use Rattle.drop_lines.proofs.link.Goals as goal

pub loop-i-init : goal.loop-i-init
loop-i-init c = let l = c.args.leaves in
    (chained_first (taken c.args.c) _ _ _ _ c.requires (omega (arith, leaves_many l, l.one_each, items-length l.list.now)), λ b. linked_first (taken c.args.c) _ _ _ _ b (omega (arith, leaves_many l, l.one_each, items-length l.list.now)))

pub link-requires : goal.link-requires
link-requires c = let l = c.args.leaves in
    let i = c.loop-i.invariant.0 in
    (i.row_room, omega (arith, c.loop-i-test.true, i.room, leaves_many l, l.one_each, items-length l.list.now, c.loop-i.auto), omega (arith, c.loop-i-test.true, i.few, leaves_many l, l.one_each, items-length l.list.now, c.loop-i.auto))

pub loop-i-preserved-then-is_dropped : goal.loop-i-preserved-then-is_dropped
loop-i-preserved-then-is_dropped c = let l = c.args.leaves in
    let i = c.loop-i.invariant in (
      chained_turn_linked (taken c.args.c) c.args.table l _ _ _ (omega (arith, c.loop-i-test.true)) i.0 (omega (arith, c.loop-i-test.true, l.one_each, items-length l.list.now, c.loop-i.auto)) _ c.item_at-item.ensures _ c.is_dropped.ensures c.if-is_dropped.true _ c.link.ensures,
      λ b. turn_linked (taken c.args.c) c.args.table l _ _ _ (omega (arith, c.loop-i-test.true)) (i.1 b) (omega (arith, c.loop-i-test.true, l.one_each, items-length l.list.now, c.loop-i.auto)) _ c.item_at-item.ensures _ c.is_dropped.ensures c.if-is_dropped.true _ c.link.ensures,
    )

pub loop-i-preserved : goal.loop-i-preserved
loop-i-preserved c = let l = c.args.leaves in
    let i = c.loop-i.invariant in (
      chained_turn_kept (taken c.args.c) c.args.table l _ _ _ (omega (arith, c.loop-i-test.true)) i.0 (omega (arith, c.loop-i-test.true, l.one_each, items-length l.list.now, c.loop-i.auto)) _ c.item_at-item.ensures _ c.is_dropped.ensures c.if-is_dropped.false,
      λ b. turn_kept (taken c.args.c) c.args.table l _ _ _ (omega (arith, c.loop-i-test.true)) (i.1 b) (omega (arith, c.loop-i-test.true, l.one_each, items-length l.list.now, c.loop-i.auto)) _ c.item_at-item.ensures _ c.is_dropped.ensures c.if-is_dropped.false,
    )
