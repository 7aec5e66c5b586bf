-- The row that stands at n * 5.
use Prim.Native.Nat.{◌*◌}
use mathlib.Core.Path.{◌∙◌}
use Rattle.table.proofs.Laws.{row_read}
use Rattle.table.proofs.row_at.Goals as goal

pub returns : goal.returns
returns c = let a = c.args in c.row_in.ensures ∙ row_read a.table.now (a.n * 5)
