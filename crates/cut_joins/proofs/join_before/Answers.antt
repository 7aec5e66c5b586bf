use Rattle.cut_joins.proofs.Joining.{before-within}
use Rattle.cut_segment.proofs.Buffer.{items-same}
use lib.ListN.{length}
use native.Mathlib.Omega.{arith}
use mathlib.Core.Path.{◌≡◌}
use borrow.Author.Rules.{rules}
use Rattle.cut_joins.proofs.join_before.Goals as goal

pub returns : goal.returns
returns c =
    let a = c.args in
    let l : length c.join_within-n.new.seg ≡ length a.seg.now = search rules in
    before-within _ _ _ _ c.requires.0 _ _ _ _ (omega arith) c.requires.1 c.join_within-n.ensures (items-same _ _ l)
