use native.Mathlib.Omega.{arith}
use lib.Seq.{length-take-le}
use Rattle.ref_minus.proofs.Turns.{among-rises}
use Rattle.ref_minus.proofs.compared.Compared.put_sized.Goals as goal

pub put_minus-requires : goal.put_minus-requires
put_minus-requires N c = (among-rises _ _ _ c.sorted_refs-k.ensures.1, among-rises _ _ _ c.sorted_refs-m.ensures.1, omega (arith, length-take-le c.sorted_refs-k.result c.sorted_refs-k.new.buf, c.sorted_refs-k.ensures.0, c.args.self.countable, c.requires.0, c.sorted_refs-k.auto.buf))
