use Rattle.std.proofs.Common.{rules, tests}
use Rattle.std.proofs.lemmas.Iterator.{YieldsList-from_map_by}
use Rattle.std.proofs.lemmas.Iterator.Consumers.{YieldsList-at, YieldsList-from_first}
use native.Mathlib.Omega.{arith}
use mathlib.Core.List.{map, map-map}
use mathlib.Core.Path.{refl, sym}
use lib.ListN.{length-map}
use Rattle.item.specs.Items.{Fields, fields}
use Rattle.ref_def.specs.Drops.{InLeaf}
use Rattle.plan_def.specs.Outputs.{ref_numbers}
use Rattle.plan_lines.proofs.Loops.{laid_same}
use Rattle.drop_chains.specs.Reading.{leaf, left_ending}
use Rattle.drop_chains.proofs.put_all.Goals as goal

pub put_refs-requires-clause-room : goal.put_refs-requires-clause-room
put_refs-requires-clause-room c = let item : InLeaf → Fields = λ d. d.item in (
  map item (left_ending c.args.chain),
  YieldsList-from_map_by _ fields item (YieldsList-at c.map.ensures.source (YieldsList-from_first leaf left_ending (left_ending c.args.chain) refl)) c.map.ensures.closure (λ x r q k. search (rules, tests)),
  omega (arith, c.requires, length-map (left_ending c.args.chain) item),
)

pub returns : goal.returns
returns c = let item : InLeaf → Fields = λ d. d.item in
    laid_same ref_numbers 2 _ _ _ _ _ _ (sym (map-map _ item (left_ending c.args.chain)))
    (c.put_refs.ensures _ (YieldsList-from_map_by _ fields item (YieldsList-at c.map.ensures.source (YieldsList-from_first leaf left_ending (left_ending c.args.chain) refl)) c.map.ensures.closure (λ x r q k. search (rules, tests))))
