use Prim.Native.Nat.{◌*◌}
use mathlib.Core.Path.{◌∙◌, ap}
use Rattle.edit_lines.proofs.News.{piece_read}
use Rattle.item.specs.Items.{Fields, of_kind}
use Rattle.edit_lines.proofs.piece_at.Goals as goal

pub returns : goal.returns
returns c = let a = c.args in c.of_kind.ensures ∙ ap (λ (f : Fields). of_kind f 2) c.regular_extent_item-i.ensures ∙ piece_read a.file a.generation a.pieces.now (a.k * 3)
