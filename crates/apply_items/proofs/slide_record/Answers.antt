use Rattle.apply_items.proofs.Back.{slide_put, slide_old, none_past, last_before}
use native.Mathlib.Omega.{arith}
use Rattle.apply_items.proofs.slide_record.Goals.{then-loop-i-test+else-item_at-item, else-loop-i-test}
use Rattle.apply_items.proofs.slide_record.Goals as goal

pub loop-i-preserved : goal.loop-i-preserved
loop-i-preserved c = let l = c.loop-i in
    (omega arith, λ whole left before olds e p. slide_old whole left _ before olds l.i c.args.skip l.list e (l.invariant.1 whole left before olds e p) c.loop-i-test.true _ c.item_at-moved.ensures (rw c.item_at-moved.ensures (rw c.item_at.ensures at c.if-item_at-item.true)) _ c.put_record.ensures)

pub returns : goal.returns
returns c = let l = c.loop-i in (
  omega arith,
  λ whole left before olds e p.
      let q = l.invariant.1 whole left before olds e p in
      slide_put whole left _ before olds l.i c.args.skip l.list e q
      (elim c.loop-i-test.branch [
        | then-loop-i-test+else-item_at-item w ↦ last_before whole left _ before olds l.i c.args.skip l.list e q w.loop-i-test.true _ w.item_at.ensures w.if-item_at-item.false
        | else-loop-i-test w ↦ none_past whole left _ before olds l.i c.args.skip l.list e q w.loop-i-test.false
      ]) _ c.put_record-2.ensures,
)
