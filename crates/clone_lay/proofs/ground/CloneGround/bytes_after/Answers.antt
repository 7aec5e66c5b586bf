use native.Mathlib.Omega.{arith}
use Rattle.clone_lay.proofs.Cut.{bytes-fit, bytes-told}
use Rattle.clone_lay.proofs.ground.CloneGround.bytes_after.Goals as goal

pub bytes_after-requires : goal.bytes_after-requires
bytes_after-requires c = (bytes-fit c.args.self c.args.m c.requires).0

pub bytes-requires : goal.bytes-requires
bytes-requires c = (bytes-fit c.args.self c.args.m c.requires).1

pub overflow_add-result : goal.overflow_add-result
overflow_add-result c = omega (arith, c.bytes_after.ensures, c.bytes.ensures, (bytes-fit c.args.self c.args.m c.requires).2)

pub returns : goal.returns
returns c = bytes-told c.args.self c.args.m c.requires _ _ c.bytes_after.ensures c.bytes.ensures
