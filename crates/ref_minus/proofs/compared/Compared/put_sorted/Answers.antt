use Prim.Native.Nat.{◌≤◌}
use native.Mathlib.Omega.{arith}
use lib.ListN.{length}
use Rattle.item.specs.Items.{items}
use Rattle.item.proofs.Laws.{items-length}
use Rattle.ref_minus.proofs.compared.Compared.put_sorted.Goals as goal

pub put_sized-requires : goal.put_sized-requires
put_sized-requires c =
    let h : length (items c.args.self.x.now) ≤ 32 = omega (arith, items-length c.args.self.x.now, c.if-k-le32.true) in
    let k : 32 ≤ 65536 = omega arith in
    (h, c.requires.1, k)

pub put_sized-requires-then-k-le1024 : goal.put_sized-requires-then-k-le1024
put_sized-requires-then-k-le1024 c =
    let h : length (items c.args.self.x.now) ≤ 1024 = omega (arith, items-length c.args.self.x.now, c.if-k-le1024.true) in
    let k : 1024 ≤ 65536 = omega arith in
    (h, c.requires.1, k)

pub put_sized-requires-then-k-le8192 : goal.put_sized-requires-then-k-le8192
put_sized-requires-then-k-le8192 c =
    let h : length (items c.args.self.x.now) ≤ 8192 = omega (arith, items-length c.args.self.x.now, c.if-k-le8192.true) in
    let k : 8192 ≤ 65536 = omega arith in
    (h, c.requires.1, k)
