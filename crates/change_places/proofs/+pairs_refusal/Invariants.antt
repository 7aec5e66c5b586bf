use lib.ListN.{length}
use Rattle.change_places.proofs.+pairs_refusal.Given as goal

abbrev pub decreases-pairs_refusal : goal.decreases-pairs_refusal
decreases-pairs_refusal l = length l.all.places.now
