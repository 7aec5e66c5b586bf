use mathlib.Core.Path.{sym}
use Prim.Native.Nat.{◌+◌, ◌-◌}
use native.Mathlib.Omega.{arith}
use lib.Dec.{eqb}
use borrow.Author.Tests.{ne_eqb, eqb-true, eq-eqb}
use Rattle.records.proofs.Tests.{same}
use Rattle.records.proofs.sum_is.Goals as goal

pub returns-then-c-a : goal.returns-then-c-a
returns-then-c-a c = let a = c.args in
    sym (ne_eqb (a.a + a.b) a.c (λ e. omega arith))

pub returns : goal.returns
returns c = let a = c.args in
    same (eqb a.b (a.c - a.a)) (eqb (a.a + a.b) a.c) (λ h. let e = eqb-true a.b (a.c - a.a) h in eq-eqb (a.a + a.b) a.c (omega arith)) (λ h. let e = eqb-true (a.a + a.b) a.c h in eq-eqb a.b (a.c - a.a) (omega arith))
