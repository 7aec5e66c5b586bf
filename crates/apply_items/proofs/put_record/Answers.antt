use mathlib.Core.Path.{◌∙◌, ap}
use mir.Val.{Fits}
use mir.Syntax.{w8}
use lib.ListN.{get_or}
use Rattle.endian.specs.Le.{Bytes}
use Rattle.item.specs.Items.{items}
use Rattle.cut_segment.proofs.Buffer.{items-put, item-sound}
use native.Mathlib.Omega.{arith}
use borrow.Author.Rules.{rules}
use Rattle.apply_items.proofs.put_record.Goals as goal

pub returns : goal.returns
returns c = let a = c.args in
    let b : Bytes a.item.«data» = λ i. (let f : Fits w8 (get_or a.item.«data» i 0) = search rules in f.fits) in
    record {
      bytes = c.put_item.ensures;
      those = ap items c.put_item.ensures ∙ items-put _ a.k _ (item-sound a.item b (search rules) (search rules) (search rules)) (omega arith);
    }
