use Rattle.std.proofs.Common.{◌≡◌, ◌/◌, ℕ, List, [], length, get_or, sym, ap, ◌∙◌, true, false, rules, tests}
use native.Mathlib.Omega.{arith}
use Rattle.std.specs.List.Sorted.{IsPartitionPoint}
use Rattle.std.proofs.lemmas.List.Sorted.{IsPartitionPoint-from_clause}
use Rattle.table.specs.Rows.{row_of}
use Rattle.table.proofs.Arrays.{arrays}
use Rattle.plan_places.proofs.Clear.{ends_before, ends-parted, all_before, first-behind}
use Rattle.plan_places.proofs.place_clear.Goals as goal
use Rattle.plan_places.proofs.place_clear.Goals.{After-partition_point-k}

-- the rows as arrays, as many as there are, parted where the search stops
are : (c : After-partition_point-k) → c.as_chunks.result.0.now ≡ arrays c.args.table.numbers.now
are c = c.as_chunks.ensures.front

many : (c : After-partition_point-k) → length (arrays c.args.table.numbers.now) ≡ length c.args.table.numbers.now / 5
many c = sym (ap length (are c)) ∙ c.as_chunks.ensures.front_len

parted : (c : After-partition_point-k)
    → IsPartitionPoint (λ r. ends_before c.args.start (row_of r) ≡ true) (λ r. ends_before c.args.start (row_of r) ≡ false) (arrays c.args.table.numbers.now) c.partition_point-k.result
unfolding row_of
parted c =
    IsPartitionPoint-from_clause (λ r. ends_before c.args.start (row_of r)) _ _ (rw (are c) at c.partition_point-k.ensures.partitioned)
    (ends-parted c.args.table.numbers.now c.args.start c.args.table.kept (many c)) (λ a r f k. search (rules, tests))

pub returns-then-k-lines : goal.returns-then-k-lines
returns-then-k-lines c =
    let d = (goal.at.returns-then-k-lines c).After-partition_point-k in
    all_before d.args.table.numbers.now d.args.start d.args.table.kept (many d) _ (rw (are d) at d.partition_point-k.ensures.bound) (parted d) d.args.length (rw (are d) at c.if-k-lines.true)

pub returns : goal.returns
returns c =
    let d = (goal.at.returns c).After-partition_point-k in
    let b = (rw (are d) at d.partition_point-k.ensures.bound) in
    c.sum_at_most.ensures
    ∙ first-behind d.args.table.numbers.now d.args.start d.args.table.kept (many d) _ b (parted d) d.args.length _ (omega (arith, b, rw (are d) at c.if-k-lines.false))
    (ap (λ (xs : List (List ℕ)). get_or (get_or xs d.partition_point-k.result []) 0 0) (are d))
