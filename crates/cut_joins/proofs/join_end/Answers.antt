use Rattle.cut_joins.proofs.Joining.{end_none, end-yes}
use Rattle.cut_joins.proofs.Pairs.{bounded_of}
use Rattle.item.proofs.Laws.{items-length}
use Rattle.item.specs.Items.{Fields, items}
use lib.ListN.{length, set}
use Prim.Native.Nat.{◌<◌}
use mathlib.Core.Path.{◌∙◌, ap}
use native.Mathlib.Omega.{arith}
use Rattle.cut_joins.proofs.join_end.Goals as goal

pub returns-then-s-list : goal.returns-then-s-list
returns-then-s-list c = end_none _ _ _ _ _ c.requires.0 c.requires.1 c.if-s-list.true

pub record_at-requires-2 : goal.record_at-requires-2
record_at-requires-2 c = let a = c.args in omega (arith, c.requires.0.inside, items-length a.list.now)

pub joined-requires : goal.joined-requires
joined-requires c = let g = c.requires.0 in bounded_of (items c.args.list.now) _ _ g.sound (omega (arith, g.inside, items-length c.args.list.now)) c.record_at-2.ensures

pub overflow_add-result : goal.overflow_add-result
overflow_add-result c = omega (arith, c.requires.0.inside, items-length c.args.list.now, c.if-s-list.false, c.ranges, c.well_formed)

pub returns : goal.returns
returns c =
    let a = c.args in
    let g = c.requires.0 in
    let j = c.joined.ensures.there _ c.in-Some.is in
    let lt : a.s.to < length (items a.list.now) = omega (arith, g.inside, items-length a.list.now, c.if-s-list.false) in
    end-yes _ _ _ _ _ g c.requires.1 _ _ c.record_at.ensures c.record_at-2.ensures lt _ j.0 (c.put_record.ensures ∙ ap (λ (f : Fields). set (items a.seg.now) a.k f) j.1)
