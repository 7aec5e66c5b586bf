use mathlib.Core.Path.{◌≡◌, refl, ◌∙◌, ap}
use Prim.Native.Nat.{ℕ}
use lib.ListN.{length}
use Rattle.records.specs.Refusals.{why}
use Rattle.apply_def.proofs.Whys.{why_and}
use Rattle.records.proofs.Tests.{first_assoc}
use Rattle.records.specs.Stages.{first}
use Rattle.table.specs.Rows.{rows}
use Rattle.table.proofs.Laws.{rows-length}
use Rattle.apply_def.specs.Lent.{lent, plan_lent}
use Rattle.apply_counts.proofs.Nets.{three_stages, counted_all, few-lines, blank-few}
use native.Mathlib.Omega.{arith}
use borrow.Author.Rules.{rules}
use Rattle.apply_counts.proofs.count_lines.Goals as goal

pub tally-b-requires : goal.tally-b-requires
tally-b-requires c =
    let k : length c.tally-a.new.changes ≡ length c.args.changes.now = search rules in
    record {
      places = omega (arith, k, c.requires.moves);
      one = omega arith;
      room = λ y l. omega (arith, few-lines _ c.args.plan.shares.now _ _ _ _ c.tally-a.ensures (omega arith) y l, blank-few _ _ _ c.requires y l, c.ranges.plan);
    }

pub tally-c-requires : goal.tally-c-requires
tally-c-requires c =
    let k : length c.tally-b.new.changes ≡ length c.args.changes.now = search rules in
    record {
      places = omega (arith, k, c.requires.moves);
      one = omega arith;
      room = λ y l. omega (arith, few-lines _ c.args.plan.unrefs.now _ _ _ _ c.tally-b.ensures (omega arith) y l, few-lines _ c.args.plan.shares.now _ _ _ _ c.tally-a.ensures (omega arith) y l, blank-few _ _ _ c.requires y l, c.ranges.plan);
    }

pub invariant_of-counts : goal.invariant_of-counts
invariant_of-counts c =
    let l = rows-length c.args.table.numbers.now in
    let k : length c.tally-c.new.changes ≡ length c.args.changes.now = search rules in
    let m : length c.mark.new.gone ≡ length c.args.gone.now = search rules in
    record { each_changes = omega (arith, l, k, c.requires.moves); each_gone = omega (arith, l, m, c.requires.leaves) }

pub invariant_of-result : goal.invariant_of-result
invariant_of-result c = record { each_row = rows-length c.args.table.numbers.now }

pub returns : goal.returns
returns c =
    let rs = rows c.args.table.numbers.now in
    (three_stages rs _ _ _ _ _ _ _ c.tally-a.ensures.refusal c.tally-b.ensures.refusal c.tally-c.ensures.refusal (ap why c.and-2.ensures ∙ why_and c.and.result c.tally-c.result ∙ ap (λ (n : ℕ). first n (why c.tally-c.result)) (ap why c.and.ensures ∙ why_and c.tally-a.result c.tally-b.result) ∙ first_assoc (why c.tally-a.result) (why c.tally-b.result) (why c.tally-c.result)), counted_all rs (plan_lent (lent c.args.plan)) _ _ c.requires _ _ _ _ _ _ _ c.mark.ensures c.tally-a.ensures c.tally-b.ensures c.tally-c.ensures, refl)
