use Rattle.std.proofs.Common.{rules, tests}
use Rattle.std.proofs.lemmas.Slice.Zip.{length-zip}
use Rattle.std.proofs.lemmas.Iterator.{YieldsList-from_slice, YieldsList-from_zip, YieldsList-from_map}
use Rattle.std.proofs.lemmas.Iterator.Consumers.{YieldsList-at, YieldsList-from_first, YieldsList-from_filter}
use native.Mathlib.Omega.{arith}
use mathlib.Core.List.{map}
use mathlib.Core.Path.{◌∙◌}
use lib.ListN.{length-map}
use Rattle.std.specs.List.{filter, zip}
use Rattle.item.specs.Items.{fields, items}
use Rattle.item.specs.Reading.{left}
use Rattle.plan_lines.proofs.Filtered.{filter_few}
use Rattle.drop_lines.proofs.Released.{paired, byte_of, released_bytes}
use Rattle.drop_lines.proofs.is_released.Goals as goal

pub is_freed-requires-clause-few : goal.is_freed-requires-clause-few
is_freed-requires-clause-few c = let a = c.args in
    let test = paired a.c a.row.start in
    let all = zip (items a.leaves.list.now) a.leaves.shared.now in (
      map byte_of (filter test all),
      YieldsList-from_map _ byte_of (YieldsList-at c.map-bytes.ensures.source (YieldsList-from_filter _ test (YieldsList-at c.filter.ensures.source (YieldsList-from_zip (YieldsList-at c.zip.ensures.first (YieldsList-from_first fields left (items a.leaves.list.now) (cc))) (YieldsList-from_slice a.leaves.shared.now (cc)))) c.filter.ensures.closure (λ x r q k. search (rules, tests)))) c.map-bytes.ensures.closure (λ x r q k. search (rules, tests)),
      omega (arith, length-map (filter test all) byte_of, filter_few test all, length-zip (items a.leaves.list.now) a.leaves.shared.now, c.ranges.leaves),
    )

pub returns : goal.returns
returns c = let a = c.args in
    let test = paired a.c a.row.start in
    c.is_freed.ensures _ (YieldsList-from_map _ byte_of (YieldsList-at c.map-bytes.ensures.source (YieldsList-from_filter _ test (YieldsList-at c.filter.ensures.source (YieldsList-from_zip (YieldsList-at c.zip.ensures.first (YieldsList-from_first fields left (items a.leaves.list.now) (cc))) (YieldsList-from_slice a.leaves.shared.now (cc)))) c.filter.ensures.closure (λ x r q k. search (rules, tests)))) c.map-bytes.ensures.closure (λ x r q k. search (rules, tests)))
    ∙ released_bytes a.c a.row (items a.leaves.list.now) a.leaves.shared.now
