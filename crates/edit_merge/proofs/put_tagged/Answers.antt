use native.Mathlib.Omega.{arith}
use Rattle.endian.proofs.Puts.{put_cons}
use lib.ListN.{length-set}
use mathlib.Core.Path.{◌∙◌, sym}
use Rattle.edit_merge.proofs.put_tagged.Goals as goal

pub put_item-requires : goal.put_item-requires
put_item-requires c = simp length-set (omega arith)

pub shape_of-out : goal.shape_of-out
shape_of-out c = omega (arith, simp length-set at c.out-1.given)

pub returns : goal.returns
returns c = c.put_item.ensures ∙ sym (put_cons _ _ _ _ (omega arith))
