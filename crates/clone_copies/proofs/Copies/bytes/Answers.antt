use Rattle.std.proofs.Common.{ap, arith}
use Rattle.cut_def.specs.Pieces.{counted_bytes}
use Rattle.clone_copies.proofs.Walk.{sound_first, left-passed, bytes-copied, bytes-none}
use Rattle.clone_copies.proofs.Copies.bytes.Goals as goal

pub copy_of-requires : goal.copy_of-requires
copy_of-requires c = (sound_first c.args.self.copying.range _ _ _ c.in-Some.ensures.steps c.loop-item.invariant.sound).0

pub overflow_add-sum : goal.overflow_add-sum
overflow_add-sum c = let q = c.in-Some-copy_of.ensures in omega (arith, c.loop-item.invariant.sum, bytes-copied c.args.self.copying.range _ _ _ c.in-Some.ensures.steps q.0 _ q.1)

pub loop-item-preserved-in-Some-copy_of : goal.loop-item-preserved-in-Some-copy_of
loop-item-preserved-in-Some-copy_of c = let k = c.args.self.copying.range in let l = c.loop-item.invariant in let q = c.in-Some-copy_of.ensures in record {
  sound = (sound_first k _ _ _ c.in-Some.ensures.steps l.sound).1;
  sum = omega (arith, l.sum, bytes-copied k _ _ _ c.in-Some.ensures.steps q.0 _ q.1);
}

pub loop-item-preserved : goal.loop-item-preserved
loop-item-preserved c = let k = c.args.self.copying.range in let l = c.loop-item.invariant in record {
  sound = (sound_first k _ _ _ c.in-Some.ensures.steps l.sound).1;
  sum = omega (arith, l.sum, ap counted_bytes (left-passed k _ _ _ c.in-Some.ensures.steps c.in_default.ensures));
}

pub returns : goal.returns
returns c = omega (arith, c.loop-item.invariant.sum, bytes-none c.args.self.copying.range _ c.in-None.ensures.steps.0)
