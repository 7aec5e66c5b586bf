use Rattle.std.proofs.Common.{rules, tests}
use Rattle.std.proofs.lemmas.Iterator.Consumers.{YieldsList-at, YieldsList-from_first, YieldsList-from_filter}
use native.Mathlib.Omega.{arith}
use Rattle.item.specs.Items.{fields, items}
use Rattle.item.specs.Reading.{left}
use Rattle.plan_def.specs.Outputs.{ref_numbers}
use Rattle.plan_lines.proofs.Loops.{laid_same}
use Rattle.plan_lines.proofs.Filtered.{filter_few}
use Rattle.cut_splits.specs.Splits.{shared}
use Rattle.cut_splits.proofs.Shares.{split_refs}
use Rattle.cut_splits.proofs.put_splits.Goals as goal

pub put_refs-requires-clause-room : goal.put_refs-requires-clause-room
put_refs-requires-clause-room c = let k = c.args.k in
    let test = shared k.lo k.hi k.one k.two in (
      _,
      YieldsList-from_filter _ test (YieldsList-at c.filter.ensures.source (YieldsList-from_first fields left (items c.args.list.now) (cc))) c.filter.ensures.closure (λ x r q k. search (rules, tests)),
      omega (arith, c.requires, filter_few test (items c.args.list.now)),
    )

pub returns : goal.returns
returns c = let k = c.args.k in
    let test = shared k.lo k.hi k.one k.two in
    laid_same ref_numbers 2 _ _ _ _ _ _ (split_refs k.lo k.hi k.one k.two (items c.args.list.now))
    (c.put_refs.ensures _ (YieldsList-from_filter _ test (YieldsList-at c.filter.ensures.source (YieldsList-from_first fields left (items c.args.list.now) (cc))) c.filter.ensures.closure (λ x r q k. search (rules, tests))))
