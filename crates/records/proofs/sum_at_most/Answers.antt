use Prim.Native.Nat.{◌+◌}
use mathlib.Core.Path.{sym}
use native.Mathlib.Omega.{arith}
use borrow.Author.Tests.{lt-leb}
use Rattle.records.proofs.Tests.{leb_sub}
use Rattle.records.proofs.sum_at_most.Goals as goal

pub returns-then-limit-a : goal.returns-then-limit-a
returns-then-limit-a c = let a = c.args in
    sym (lt-leb (a.a + a.b) a.limit (omega arith))

pub returns : goal.returns
returns c = let a = c.args in
    leb_sub a.a a.b a.limit (omega arith)
