use Rattle.item.specs.Items.{items}
use mathlib.Core.Path.{◌∙◌, ap}
use mir.Val.{Fits}
use mir.Syntax.{w8}
use lib.ListN.{get_or}
use Rattle.endian.specs.Le.{Bytes}
use Rattle.item.proofs.Laws.{items-length}
use Rattle.cut_segment.proofs.Buffer.{items-put, item-sound}
use native.Mathlib.Omega.{arith}
use borrow.Author.Rules.{rules}
use Rattle.cut_segment.proofs.put_record.Goals as goal

pub overflow_mul-n : goal.overflow_mul-n
overflow_mul-n c = omega (arith, items-length c.args.seg.now)

pub put_item-requires : goal.put_item-requires
put_item-requires c = omega (arith, items-length c.args.seg.now)

pub returns : goal.returns
returns c = let a = c.args in
    let b : Bytes a.item.«data» = λ i. (let f : Fits w8 (get_or a.item.«data» i 0) = search rules in f.fits) in
    ap items c.put_item.ensures ∙ items-put _ a.n _ (item-sound a.item b (search rules) (search rules) (search rules)) (omega (arith, items-length a.seg.now))
