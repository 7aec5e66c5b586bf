use Rattle.std.proofs.Common.{◌≡◌, rules}
use Rattle.records.specs.Stages.{first}
use Rattle.clone.specs.Raw.{lent_asked}
use Rattle.clone.proofs.Passing.{sound-sector, source-ends}
use Rattle.clone.proofs.asked.Asked.span.Goals as goal

pub sector_of-requires : goal.sector_of-requires
unfolding first
sector_of-requires c = let z : lent_asked c.args.self ≡ 0 = search rules in sound-sector c.args.self z

pub invariant_of-result : goal.invariant_of-result
unfolding first
invariant_of-result c = let z : lent_asked c.args.self ≡ 0 = search rules in record { ends = source-ends c.args.self z }
