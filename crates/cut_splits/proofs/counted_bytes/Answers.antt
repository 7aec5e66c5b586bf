use Rattle.std.proofs.Common.{rules, tests, ◌∙◌, sym}
use Rattle.std.proofs.lemmas.Iterator.{YieldsList-from_map}
use Rattle.std.proofs.lemmas.Iterator.Consumers.{YieldsList-at, YieldsList-from_first, YieldsList-from_filter, sum_by_from_yields_List, fits_by_from_yields_list}
use Rattle.item.specs.Items.{fields, items}
use Rattle.item.specs.Reading.{left}
use Rattle.cut_splits.proofs.Bytes.{stored, bytes, counted_sum}
use Rattle.cut_splits.proofs.counted_bytes.Goals as goal

pub sum-requires-clause-fits : goal.sum-requires-clause-fits
sum-requires-clause-fits c =
    fits_by_from_yields_list bytes _ c.map.result _ (YieldsList-from_map _ bytes (YieldsList-at c.map.ensures.source (YieldsList-from_filter _ stored (YieldsList-at c.filter.ensures.source (YieldsList-from_first fields left (items c.args.list.now) (cc))) c.filter.ensures.closure (λ x r q k. search (rules, tests)))) c.map.ensures.closure (λ x r q k. search (rules, tests)))
    (rw counted_sum at c.requires)

pub returns : goal.returns
returns c =
    sum_by_from_yields_List bytes _ c.map.result _ c.sum.ensures.ran (YieldsList-from_map _ bytes (YieldsList-at c.map.ensures.source (YieldsList-from_filter _ stored (YieldsList-at c.filter.ensures.source (YieldsList-from_first fields left (items c.args.list.now) (cc))) c.filter.ensures.closure (λ x r q k. search (rules, tests)))) c.map.ensures.closure (λ x r q k. search (rules, tests)))
    ∙ sym (counted_sum (items c.args.list.now))
