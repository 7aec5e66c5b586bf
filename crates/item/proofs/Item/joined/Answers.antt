use Rattle.std.proofs.Common.{◌≡◌, ℕ, ◌+◌, length, ap₂, arith, rules}
use Rattle.item.specs.Items.{fields}
use Rattle.item.proofs.Laws.{reads_self, with_generation, with_length}
use Rattle.item.proofs.Item.joined.Goals as goal

pub returns : goal.returns
returns c = let a = c.args in
    let h : length a.self.«data» ≡ 53 = search rules in
    let g = with_generation a.self _ _ a.generation (reads_self a.self h) c.ranges.generation.fits c.with_num.ensures in
    let e : c.length.result + c.length-2.result ≡ (fields a.self).length + (fields a.behind).length = ap₂ (λ (x y : ℕ). x + y) c.length.ensures c.length-2.ensures in
    rw (← e) (with_length _ _ _ _ g (omega (arith, e, c.requires)) c.with_num-2.ensures).told
