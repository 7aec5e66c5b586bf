use Rattle.cut_segment.proofs.Inserting.{remove_turn, remove_done}
use Rattle.item.proofs.Laws.{items-length}
use Rattle.item.specs.Items.{items}
use borrow.Author.Rules.{rules}
use lib.ListN.{length}
use Prim.Native.Nat.{◌≤◌}
use mathlib.Core.Path.{◌≡◌, ◌∙◌, refl}
use native.Mathlib.Omega.{arith}
use Rattle.cut_joins.proofs.remove.Goals as goal

pub loop-i-init : goal.loop-i-init
loop-i-init c = (omega arith, refl, refl)

pub record_at-next-requires : goal.record_at-next-requires
record_at-next-requires c = omega (arith, items-length c.args.seg.now, items-length c.loop-i.seg)

pub put_record-requires : goal.put_record-requires
put_record-requires c = omega (arith, items-length c.args.seg.now, items-length c.loop-i.seg)

pub loop-i-preserved : goal.loop-i-preserved
loop-i-preserved c = let a = c.args in
    let l = c.loop-i in
    let h : a.n ≤ length (items l.seg) = omega (arith, items-length a.seg.now, items-length l.seg) in
    let e : length c.put_record.new.seg ≡ length l.seg = search rules in
    (omega arith, e ∙ l.invariant.1, remove_turn _ _ a.n l.i _ (omega arith) h c.put_record.ensures (omega arith) c.record_at-next.ensures ∙ l.invariant.2)

pub shape_of-seg : goal.shape_of-seg
shape_of-seg c = c.loop-i.invariant.1

pub returns : goal.returns
returns c = let a = c.args in
    let l = c.loop-i in
    remove_done _ a.n l.i (omega arith) (omega (arith, items-length a.seg.now, items-length l.seg)) ∙ l.invariant.2
