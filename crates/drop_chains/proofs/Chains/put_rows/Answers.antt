use native.Mathlib.Omega.{arith}
use mathlib.Core.Path.{ap}
use lib.ListN.{length}
use Prim.Native.Nat.{◌/◌, ◌<◌}
use Rattle.table.specs.Rows.{rows}
use Rattle.table.proofs.Laws.{rows-length}
use Rattle.ref_def.specs.Lent.{leaves_of}
use Rattle.plan_def.specs.Outputs.{ref_numbers}
use Rattle.plan_lines.proofs.Loops.{laid_same, flat_room, flat_turn}
use Rattle.table.specs.Rows.{row_of}
use Rattle.drop_chains.specs.Chains.{unref_lines, release_lines}
use Rattle.drop_chains.proofs.Reading.{leaves_many}
use Rattle.drop_chains.proofs.Links.{row_chain, releases_chained, unrefs_chained, no_release, no_unref, chain_of, span-first, span-done}
use Rattle.drop_chains.proofs.Chains.put_rows.Goals as goal

pub loop-k-init : goal.loop-k-init
loop-k-init c = λ p l. let t = c.args.table.now in
    let ds = leaves_of c.args.leaves in
    (span-first p t ds _ l unref_lines no_unref ref_numbers 2 _ _, span-first p t ds _ l release_lines no_release ref_numbers 2 _ _)

pub row_at-row-requires : goal.row_at-row-requires
row_at-row-requires c = omega (arith, c.loop-k-test.true, c.requires.1.high, rows-length c.args.table.now)

pub invariant_of-chain : goal.invariant_of-chain
invariant_of-chain c = let l = c.requires.1 in
    let m = leaves_many c.args.leaves in
    let h : c.loop-k.k < length (rows c.args.table.now) = omega (arith, c.loop-k-test.true, l.high) in
    record { room = omega (arith, l.room, m); inside = rw m at (l.starts c.loop-k.k h); ended = l.ended c.loop-k.k h }

pub put_chain-counts-requires : goal.put_chain-counts-requires
put_chain-counts-requires c = let t = c.args.table.now in
    let p = c.requires.0 in
    let l = c.requires.1 in
    let ds = leaves_of c.args.leaves in
    let h : c.loop-k.k < length t / 5 = omega (arith, c.loop-k-test.true, l.high, rows-length t) in
    let i = c.loop-k.invariant p l in
    let q = chain_of p t ds _ l c.loop-k.k c.row_at-row.result h c.row_at-row.ensures in
    rw q (
      omega (arith, c.requires.2, ap length (unrefs_chained p ds (rows t)), flat_room ref_numbers 2 (row_chain unref_lines p ds) row_of 5 _ _ _ _ _ _ _ _ _ h c.row_at-row.ensures i.0),
      omega (arith, c.requires.3, ap length (releases_chained p ds (rows t)), flat_room ref_numbers 2 (row_chain release_lines p ds) row_of 5 _ _ _ _ _ _ _ _ _ h c.row_at-row.ensures i.1),
    )

pub loop-k-preserved : goal.loop-k-preserved
loop-k-preserved c = λ p l. let t = c.args.table.now in
    let ds = leaves_of c.args.leaves in
    let h : c.loop-k.k < length t / 5 = omega (arith, c.loop-k-test.true, l.high, rows-length t) in
    let i = c.loop-k.invariant p l in
    let q = chain_of p t ds _ l c.loop-k.k c.row_at-row.result h c.row_at-row.ensures in
    (flat_turn ref_numbers 2 (row_chain unref_lines p ds) row_of 5 _ _ _ _ _ _ _ _ _ h c.row_at-row.ensures i.0 _ _ (rw q at c.put_chain-counts.ensures.unrefs), flat_turn ref_numbers 2 (row_chain release_lines p ds) row_of 5 _ _ _ _ _ _ _ _ _ h c.row_at-row.ensures i.1 _ _ (rw q at c.put_chain-counts.ensures.releases))

pub returns-clause-unrefs : goal.returns-clause-unrefs
returns-clause-unrefs c = λ p l. let t = c.args.table.now in
    let ds = leaves_of c.args.leaves in
    laid_same ref_numbers 2 _ _ _ _ _ _ (unrefs_chained p ds (rows t)) (span-done p t ds _ l unref_lines no_unref ref_numbers 2 _ _ _ _ _ _ c.loop-k-test.false (c.loop-k.invariant p l).0)

pub returns-clause-releases : goal.returns-clause-releases
returns-clause-releases c = λ p l. let t = c.args.table.now in
    let ds = leaves_of c.args.leaves in
    laid_same ref_numbers 2 _ _ _ _ _ _ (releases_chained p ds (rows t)) (span-done p t ds _ l release_lines no_release ref_numbers 2 _ _ _ _ _ _ c.loop-k-test.false (c.loop-k.invariant p l).1)
