use Rattle.std.proofs.Common.{rules, tests}
use Rattle.std.proofs.lemmas.Iterator.{YieldsList-from_map}
use Rattle.std.proofs.lemmas.Iterator.Consumers.{YieldsList-at, YieldsList-from_first}
use native.Mathlib.Omega.{arith}
use mathlib.Core.List.{map}
use mathlib.Core.Path.{refl}
use lib.ListN.{length-map}
use Rattle.drop_chains.specs.Chains.{byte_in}
use Rattle.drop_chains.specs.Reading.{leaf, left_ending}
use Rattle.drop_chains.proofs.Reading.{ending_few}
use Rattle.drop_chains.proofs.is_chain_freed.Goals as goal

pub is_freed-requires-clause-few : goal.is_freed-requires-clause-few
is_freed-requires-clause-few c = let l = left_ending c.args.chain in (
  map byte_in l,
  YieldsList-from_map _ byte_in (YieldsList-at c.map.ensures.source (YieldsList-from_first leaf left_ending l refl)) c.map.ensures.closure (λ x r q k. search (rules, tests)),
  omega (arith, length-map l byte_in, ending_few c.args.chain, c.ranges.chain),
)

pub returns : goal.returns
returns c = c.is_freed.ensures _ (YieldsList-from_map _ byte_in (YieldsList-at c.map.ensures.source (YieldsList-from_first leaf left_ending (left_ending c.args.chain) refl)) c.map.ensures.closure (λ x r q k. search (rules, tests)))
