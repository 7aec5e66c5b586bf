use Rattle.std.proofs.Common.{ap, ◌∙◌, ◌∷◌, [], length, arith}
use mathlib.Core.List.{map}
use Rattle.item.specs.Items.{fields}
use Rattle.item.specs.Reading.{left}
use Rattle.cut_def.specs.Refs.{ref_of}
use Rattle.plan_def.specs.Outputs.{ref_numbers}
use Rattle.plan_lines.proofs.Laws.{going_first, going-turn, going_done}
use Rattle.clone_items.specs.Copies.{clone_item, clones}
use Rattle.clone_copies.proofs.Walk.{sound_first, copy_ref, left-copied, left-passed, left-none}
use Rattle.clone_copies.proofs.Copies.put_refs.Goals as goal

pub loop-item-init : goal.loop-item-init
loop-item-init c =
    let e = ap left c.into_iter-item-iterator.ensures.into_iter_gives ∙ c.items-item-items.ensures.1 in
    rw e (record { sound = c.args.self.sound; few = omega arith; going = going_first ref_numbers 2 _ _ _ })

pub copy_of-requires : goal.copy_of-requires
copy_of-requires c = (sound_first c.args.self.copying.range _ _ _ c.in-Some.ensures.steps c.loop-item.invariant.sound).0

pub loop-item-preserved-in-Some-copy_of : goal.loop-item-preserved-in-Some-copy_of
loop-item-preserved-in-Some-copy_of c = let k = c.args.self.copying.range in let l = c.loop-item.invariant in let q = c.in-Some-copy_of.ensures in record {
  sound = (sound_first k _ _ _ c.in-Some.ensures.steps l.sound).1;
  few = omega (arith, l.few, ap length c.in-Some.ensures.steps, c.put_ref-m.ensures.lines);
  going =
      going-turn ref_numbers 2 _ _ _ _ (ref_of (clone_item k (fields c.in-Some.item)) ∷ []) (map ref_of (clones k (left c.next.new.self))) _ _ _
      (rw (left-copied k _ _ _ c.in-Some.ensures.steps q.0) at l.going)
      (rw (copy_ref k (fields c.in-Some.item) (fields c.in-Some-copy_of.copy) _ _ c.extent_start.ensures c.reference.ensures q.1) at c.put_ref-m.ensures);
}

pub loop-item-preserved : goal.loop-item-preserved
loop-item-preserved c = let k = c.args.self.copying.range in let l = c.loop-item.invariant in record {
  sound = (sound_first k _ _ _ c.in-Some.ensures.steps l.sound).1;
  few = omega (arith, l.few, ap length c.in-Some.ensures.steps);
  going = rw (left-passed k _ _ _ c.in-Some.ensures.steps c.in_default.ensures) at l.going;
}

pub returns : goal.returns
returns c = going_done ref_numbers 2 _ _ _ _ _ (rw (left-none c.args.self.copying.range _ c.in-None.ensures.steps.0) at c.loop-item.invariant.going)
