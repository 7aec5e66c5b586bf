use Rattle.std.proofs.Common.{rules, tests}
use Rattle.std.proofs.lemmas.Iterator.Consumers.{YieldsList-at, YieldsList-from_first, YieldsList-from_filter}
use native.Mathlib.Omega.{arith}
use lib.ListN.{length-map}
use Rattle.std.specs.List.{filter}
use Rattle.item.specs.Items.{fields, items}
use Rattle.item.specs.Reading.{left}
use Rattle.drop_lines.specs.Raw.{drop_of, line_of}
use Rattle.drop_lines.proofs.put_lines.Goals as goal

pub put_refs-requires-clause-room : goal.put_refs-requires-clause-room
put_refs-requires-clause-room c = let a = c.args in
    let test = drop_of a.c a.start in (
      filter test (items a.list.now),
      YieldsList-from_filter _ test (YieldsList-at c.filter-drops.ensures.source (YieldsList-from_first fields left (items a.list.now) (cc))) c.filter-drops.ensures.closure (λ x r q k. search (rules, tests)),
      omega (arith, c.requires, length-map (filter test (items a.list.now)) line_of),
    )

pub returns : goal.returns
returns c = let a = c.args in
    c.put_refs.ensures _ (YieldsList-from_filter _ (drop_of a.c a.start) (YieldsList-at c.filter-drops.ensures.source (YieldsList-from_first fields left (items a.list.now) (cc))) c.filter-drops.ensures.closure (λ x r q k. search (rules, tests)))
