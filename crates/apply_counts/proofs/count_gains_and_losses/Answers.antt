use mathlib.Core.Path.{◌≡◌, ◌∙◌, ap}
use Prim.Native.Nat.{ℕ}
use lib.ListN.{length}
use Rattle.records.specs.Refusals.{why}
use Rattle.records.specs.Stages.{first}
use Rattle.records.proofs.Tests.{first_assoc}
use Rattle.table.specs.Rows.{rows}
use Rattle.apply_def.specs.Lent.{lent, plan_lent}
use Rattle.apply_def.proofs.Whys.{why_and}
use Rattle.apply_counts.proofs.Nets.{three_stages, both_counted, few-lines, blank-few}
use native.Mathlib.Omega.{arith}
use borrow.Author.Rules.{rules}
use Rattle.apply_counts.proofs.count_gains_and_losses.Goals as goal

pub tally-b-requires : goal.tally-b-requires
tally-b-requires c =
    let z = c.requires.1 in
    record { places = z.moves; one = omega arith; room = λ y l. omega (arith, blank-few _ _ _ z y l, c.ranges.plan) }

pub tally-c-requires : goal.tally-c-requires
tally-c-requires c =
    let z = c.requires.1 in
    let k : length c.tally-b.new.changes ≡ length c.args.lost.now = search rules in
    record {
      places = omega (arith, k, z.moves);
      one = omega arith;
      room = λ y l. omega (arith, few-lines _ c.args.plan.unrefs.now _ _ _ _ c.tally-b.ensures (omega arith) y l, blank-few _ _ _ z y l, c.ranges.plan);
    }

pub returns : goal.returns
returns c =
    let rs = rows c.args.table.numbers.now in
    let t = three_stages rs _ _ _ _ _ _ _ c.tally-a.ensures.refusal c.tally-b.ensures.refusal c.tally-c.ensures.refusal (ap why c.and-2.ensures ∙ why_and c.and.result c.tally-c.result ∙ ap (λ (n : ℕ). first n (why c.tally-c.result)) (ap why c.and.ensures ∙ why_and c.tally-a.result c.tally-b.result) ∙ first_assoc (why c.tally-a.result) (why c.tally-b.result) (why c.tally-c.result)) in
    (t, both_counted rs (plan_lent (lent c.args.plan)) _ _ _ c.requires.0 c.requires.1 _ _ _ _ _ _ _ c.mark.ensures c.tally-a.ensures c.tally-b.ensures c.tally-c.ensures)
