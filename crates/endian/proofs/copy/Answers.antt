use mathlib.Core.Path.{◌∙◌, refl}
use Prim.Native.Nat.{◌+◌, ◌-◌}
use native.Mathlib.Nat.{sub-zero, add-zero}
use lib.ListN.{length-set, drop}
use Rattle.endian.proofs.Puts.{copy_turn, take_none}
use native.Mathlib.Omega.{arith}
use Rattle.endian.proofs.copy.Goals as goal

pub loop-i-init : goal.loop-i-init
loop-i-init c = (omega arith, refl, simp (sub-zero, add-zero))

pub loop-i-preserved : goal.loop-i-preserved
loop-i-preserved c = let a = c.args in
    let l = c.loop-i in
    (omega arith, simp length-set (omega arith), copy_turn a.n l.i a.from a.to a.src.now l.out (omega arith) (omega arith) (omega arith) ∙ l.invariant.2)

pub shape_of-out : goal.shape_of-out
shape_of-out c = c.loop-i.invariant.1

pub returns : goal.returns
returns c = let a = c.args in
    let l = c.loop-i in
    take_none (drop (a.from + l.i) a.src.now) (a.to + l.i) l.out (a.n - l.i) (omega arith) ∙ l.invariant.2
