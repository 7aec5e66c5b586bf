use Rattle.change_rewrites.proofs.Holding.{found_held}
use Rattle.change_rewrites.proofs.rewrite_refusal.Goals as goal

pub invariant_of-w : goal.invariant_of-w
invariant_of-w c = let q = found_held c.args.r c.args.g.leaves _ c.in-Some.holder c.in-Some.is c.holding_item.ensures in record { ranged = q.0; held = q.1 }
