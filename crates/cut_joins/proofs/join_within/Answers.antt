use Rattle.cut_joins.proofs.Pairs.{within-not, within-yes, bounded_at}
use Rattle.item.specs.Items.{Fields, items}
use lib.ListN.{set}
use Prim.Native.Nat.{◌+◌}
use mathlib.Core.Path.{◌∙◌, ap}
use Rattle.cut_joins.proofs.join_within.Goals as goal

pub joined-requires : goal.joined-requires
joined-requires c = let a = c.args in bounded_at (items a.seg.now) a.n (a.k + 1) _ c.requires.2 c.requires.0 c.requires.1 c.record_at-2.ensures

pub returns-in_default : goal.returns-in_default
returns-in_default c = within-not _ _ _ _ c.requires.0 c.requires.1 _ _ c.record_at.ensures c.record_at-2.ensures (c.joined.ensures.none c.in_default.is)

pub returns : goal.returns
returns c = let a = c.args in
    let j = c.joined.ensures.there _ c.in-Some.is in
    within-yes _ _ _ _ c.requires.0 c.requires.1 _ _ c.record_at.ensures c.record_at-2.ensures _ _ j.0 (c.put_record.ensures ∙ ap (λ (f : Fields). set (items a.seg.now) a.k f) j.1) c.remove.ensures
