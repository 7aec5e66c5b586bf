use Rattle.change_rewrites.proofs.Holding.{found_held}
use Rattle.change_rewrites.proofs.preallocated.Goals as goal

pub invariant_of-result : goal.invariant_of-result
invariant_of-result c = let q = found_held c.in_ok-rewrite.rewrite c.args.leaves _ c.in_ok-holder.holder c.in_ok-holder.was c.holding_item.ensures in record { ranged = q.0; held = q.1 }
