use Rattle.std.proofs.Common.{◌≡◌, length, rules}
use Rattle.item.proofs.Laws.{reads_self, with_kind}
use Rattle.item.proofs.Item.of_kind_byte.Goals as goal

pub returns : goal.returns
returns c = let a = c.args in
    let h : length a.self.«data» ≡ 53 = search rules in
    (with_kind a.self _ _ a.kind (reads_self a.self h) (search rules) c.with_num.ensures).told
