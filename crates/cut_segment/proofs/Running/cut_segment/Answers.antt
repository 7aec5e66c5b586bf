use Rattle.cut_def.specs.Cuts.{front}
use lib.Dec.{ltb}
use Rattle.cut_segment.proofs.Buffer.{items-room, added-few}
use Rattle.cut_segment.proofs.Segments.{cut-untouched, cut-range, cut-some, runs-item}
use Rattle.item.specs.Items.{fields}
use Prim.Native.Nat.{◌≤◌, ◌<◌}
use lib.ListN.{length}
use native.Mathlib.Omega.{arith}
use borrow.Author.Rules.{rules}
use Rattle.cut_segment.proofs.Running.cut_segment.Goals as goal

pub returns-then-from-to : goal.returns-then-from-to
returns-then-from-to c = cut-untouched _ _ _ _ c.args.self.runs c.touched-found.ensures _ c.if-from-to.true

pub put_front-n-requires : goal.put_front-n-requires
put_front-n-requires c = (omega (arith, items-room 2 c.args.seg.now c.requires), omega (arith, runs-item _ _ _ c.args.self.runs (omega (arith, c.touched-found.ensures.order)) c.record_at.ensures))

pub put_back-m-requires : goal.put_back-m-requires
put_back-m-requires c = let b = runs-item _ _ _ c.args.self.runs (omega arith) c.record_at-2.ensures in
    let l : 140 ≤ length c.put_front-n.new.seg = search rules in
    let r = items-room 2 c.put_front-n.new.seg l in
    let x = fields c.record_at.result in
    let n = added-few (ltb x.key c.args.lo) _ _ (front c.args.lo x) _ _ c.put_front-n.ensures in
    (omega arith, omega arith, omega arith)

pub returns : goal.returns
returns c = let l : 140 ≤ length c.put_back-m.new.seg = search rules in
    let f = c.touched-found in
    let t = f.ensures in
    let h : f.result.start < f.result.end = omega arith in
    let some = cut-range _ _ _ _ c.args.self.runs t h in
    cut-some _ _ _ _ _ some c.args.self.runs (t.first some) (t.last some) _ _ h c.record_at.ensures c.record_at-2.ensures _ _ _ _ _ c.put_front-n.ensures c.put_back-m.ensures (items-room 2 _ l)
