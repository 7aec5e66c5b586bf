use Prim.Native.Nat.{◌+◌}
use mathlib.Core.Path.{◌∙◌, sym}
use native.Mathlib.Omega.{arith}
use Rattle.records.proofs.Tests.{leb_sub, ltb-suc}
use Rattle.records.proofs.sum_fits.Goals as goal

pub returns : goal.returns
returns c = let a = c.args.a in
    let b = c.args.b in
    leb_sub a b 18446744073709551615 (omega arith) ∙ sym (ltb-suc (a + b) 18446744073709551615)
