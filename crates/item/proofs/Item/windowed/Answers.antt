use Rattle.std.proofs.Common.{◌≡◌, length, rules}
use Rattle.item.proofs.Laws.{reads_self, with_position, with_length, with_key}
use Rattle.item.proofs.Item.windowed.Goals as goal

pub returns : goal.returns
returns c = let a = c.args in
    let h : length a.self.«data» ≡ 53 = search rules in
    let p = with_position a.self _ _ a.position (reads_self a.self h) (search rules) c.with_num.ensures in
    let l = with_length _ c.with_num-moved.result _ a.length p (search rules) c.with_num-moved.ensures in
    with_key c.with_num-moved.result _ a.file a.key l
