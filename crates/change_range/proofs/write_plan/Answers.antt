use mathlib.Core.Path.{◌≡◌, refl}
use mathlib.Core.Bool.{Bool}
use mir.Val.{bool_byte}
use native.Mathlib.Omega.{arith}
use Prim.Native.Nat.{ℕ}
use Rattle.std.specs.Prelude.{Option, Some, None, is_some}
use Rattle.std.proofs.Common.{rules}
use Rattle.plan_def.specs.Outputs.{outs_in}
use Rattle.change_def.specs.declared.Rewrite.{Rewrite}
use Rattle.change_segment.specs.Sides.{one_if}
use Rattle.change_draft.proofs.Drafting.{passed}
use Rattle.change_range.proofs.Finish.{wishes-places, order-at, part_fits, part-inside, pieced_at, written_at}
use Rattle.change_range.proofs.write_plan.Goals as goal

-- 1 if the front sector takes a new extent
front_counted : (o q : Option Rewrite) (b : Bool) (j : ℕ) → o ≡ q → b ≡ is_some o → j ≡ bool_byte b → j ≡ one_if q
front_counted o q b j po pb pj = rw (pj, pb, po) (go q)
  where
    go : (q : Option Rewrite) → bool_byte (is_some q) ≡ one_if q
    go (Some r) = refl
    go None = refl

pub put_adds-to-requires : goal.put_adds-to-requires
put_adds-to-requires c =
    let q = c.requires in
    rw (c.along-wanted.ensures.0, c.along-wanted.ensures.1) (wishes-places c.args.a c.args.n c.args.places.now q.accepted (outs_in c.args.out.now) q.placed q.roomed)

pub overflow_mul-to : goal.overflow_mul-to
overflow_mul-to c =
    let q = c.requires in
    let l = rw (c.along-wanted.ensures.0, c.along-wanted.ensures.1) at c.put_adds-to.ensures in
    search (rules, part_fits c.args.a c.args.n c.args.places.now q.accepted (outs_in c.args.out.now) q.placed q.roomed _ _ l)

pub invariant_of-started : goal.invariant_of-started
invariant_of-started c =
    let s = passed c.args.a c.requires.accepted.none in
    let n = s.0 in
    record { generation = omega (arith, n); written = s.1 }

pub lay_plan-requires-clause-inside : goal.lay_plan-requires-clause-inside
lay_plan-requires-clause-inside c =
    let q = c.requires in
    let l = rw (c.along-wanted.ensures.0, c.along-wanted.ensures.1) at c.put_adds-to.ensures in (
      order-at c.args.a c.args.n c.args.places.now q.accepted (outs_in c.args.out.now) q.placed q.roomed _ _ l (record { front = c.place_at.result; back = c.place_at-2.result }) _ _ c.place_at.ensures (front_counted _ _ _ _ c.front_new.ensures c.is_some-front.ensures c.from.ensures) c.place_at-2.ensures c.sectors_anew-from.ensures,
      part-inside c.args.a c.args.n c.args.places.now q.accepted (outs_in c.args.out.now) q.placed q.roomed _ _ l,
    )

pub lay_plan-requires-clause-pieced : goal.lay_plan-requires-clause-pieced
lay_plan-requires-clause-pieced c =
    let q = c.requires in
    let l = rw (c.along-wanted.ensures.0, c.along-wanted.ensures.1) at c.put_adds-to.ensures in
    pieced_at c.args.a c.args.n c.args.places.now q.accepted (outs_in c.args.out.now) q.placed q.roomed _ _ l (record { front = c.place_at.result; back = c.place_at-2.result }) _ _ c.place_at.ensures (front_counted _ _ _ _ c.front_new.ensures c.is_some-front.ensures c.from.ensures) c.place_at-2.ensures c.sectors_anew-from.ensures

pub returns-clause-left : goal.returns-clause-left
returns-clause-left c =
    let q = c.requires in
    let l = rw (c.along-wanted.ensures.0, c.along-wanted.ensures.1) at c.put_adds-to.ensures in
    written_at c.args.a c.args.n c.args.places.now q.accepted (outs_in c.args.out.now) q.placed q.roomed _ _ l (record { front = c.place_at.result; back = c.place_at-2.result }) _ _ c.place_at.ensures (front_counted _ _ _ _ c.front_new.ensures c.is_some-front.ensures c.from.ensures) c.place_at-2.ensures c.sectors_anew-from.ensures c.lay_plan.result _ c.lay_plan.ensures.laid
