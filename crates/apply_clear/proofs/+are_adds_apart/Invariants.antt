use lib.ListN.{length}
use Rattle.apply_clear.proofs.+are_adds_apart.Given as goal

abbrev pub decreases-are_adds_apart : goal.decreases-are_adds_apart
decreases-are_adds_apart l = length l.adds.now
