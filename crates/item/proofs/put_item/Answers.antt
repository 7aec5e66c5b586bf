use Rattle.std.proofs.Common.{◌≡◌, length, get_or, w8, Fits, rules}
use Rattle.endian.specs.Le.{Bytes}
use Rattle.item.proofs.Runs.{put_item}
use Rattle.item.proofs.put_item.Goals as goal

pub returns : goal.returns
returns c = let h : length c.args.item.«data» ≡ 53 = search rules in
    let b : Bytes c.args.item.«data» = λ i. (let f : Fits w8 (get_or c.args.item.«data» i 0) = search rules in f.fits) in
    put_item c.args.item c.args.at _ _ _ _ _ b h c.requires c.put_num.ensures c.put_num-2.ensures c.put_num-3.ensures c.copy.ensures
