use mathlib.Core.Path.{◌∙◌, sym}
use Rattle.apply_items.proofs.Front.{pack_named, pack_kept, pack_done}
use Rattle.apply_items.proofs.pack.Goals.{then-not-names, else-not-names}
use Rattle.apply_items.proofs.pack.Goals as goal

pub loop-i-preserved : goal.loop-i-preserved
loop-i-preserved c = let n = c.names.ensures in
    let p = c.loop-i.invariant in
    elim c.if-not-names.branch [
      | then-not-names w ↦ rw (w.list-is, w.w-is) (pack_kept _ _ _ _ _ _ _ p c.requires.0 c.requires.1 c.loop-i-test.true _ c.item_at-item.ensures _ n.1 (sym w.if-not-names.true ∙ n.0) _ w.put_record.ensures)
      | else-not-names w ↦ rw (w.list-is, w.w-is) (pack_named _ _ _ _ _ _ _ p c.requires.0 c.requires.1 c.loop-i-test.true _ c.item_at-item.ensures _ n.1 (sym w.if-not-names.false ∙ n.0))
    ]

pub returns : goal.returns
returns c = pack_done _ _ _ _ _ _ _ c.loop-i.invariant c.loop-i.auto.i-end c.loop-i-test.false
