use Rattle.cut_joins.proofs.Joining.{start_none, start-not, start-yes}
use Rattle.cut_joins.proofs.Pairs.{bounded_at}
use Rattle.item.specs.Items.{Fields, items}
use lib.ListN.{set}
use native.Mathlib.Omega.{arith}
use mathlib.Core.Path.{◌∙◌, ap}
use Rattle.cut_joins.proofs.join_start.Goals as goal

pub returns-then-s-eq0 : goal.returns-then-s-eq0
returns-then-s-eq0 c = start_none _ _ _ _ c.requires.0 c.requires.1 c.if-s-eq0.true

pub joined-requires : goal.joined-requires
joined-requires c = let g = c.requires.0 in bounded_at (items c.args.seg.now) _ _ _ g.small c.requires.1 g.room c.record_at-2.ensures

pub returns-in_default : goal.returns-in_default
returns-in_default c = start-not _ _ _ _ c.requires.0 c.requires.1 _ _ c.record_at.ensures c.record_at-2.ensures (omega arith) (c.joined.ensures.none c.in_default.is)

pub returns : goal.returns
returns c =
    let a = c.args in
    let j = c.joined.ensures.there _ c.in-Some.is in
    start-yes _ _ _ _ c.requires.0 c.requires.1 _ _ c.record_at.ensures c.record_at-2.ensures (omega arith) _ j.0 (c.put_record.ensures ∙ ap (λ (f : Fields). set (items a.seg.now) 0 f) j.1)
