use native.Mathlib.Omega.{arith}
use Prim.Native.Nat.{◌*◌}
use lib.ListN.{drop}
use Rattle.endian.proofs.Fields.{bytes_drop}
use Rattle.print_output.proofs.Lines.{edit_put, item_whole}
use Rattle.print_output.proofs.edit_line.Goals as goal

pub returns-then-is_put : goal.returns-then-is_put
returns-then-is_put c = let a = c.args in
    let s = drop (a.n * 71) a.edits.now in
    let w = item_whole s (bytes_drop (a.n * 71) a.edits.now (λ i. (c.type_inv.edits i).fits)) in
    grind (arith, edit_put s, w)
