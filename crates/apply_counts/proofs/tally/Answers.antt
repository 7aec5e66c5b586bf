use mathlib.Core.Path.{sym, ◌∙◌}
use mathlib.Core.List.{List}
use Prim.Native.Nat.{ℕ, ◌<◌, ◌/◌}
use lib.IntN.{ℤ}
use lib.ListN.{length}
use mir.Syntax.{w64}
use mir.Val.{to_z, of_z}
use native.Mathlib.Omega.{arith}
use Rattle.std.specs.Prelude.{FitsSigned}
use Rattle.std.proofs.lemmas.Int.{to_z-of_z}
use Rattle.table.specs.declared.Row.{Row}
use Rattle.apply_counts.specs.Counts.{Room}
use Rattle.apply_counts.proofs.Lines.{there, tally_start, tally_found, tally_missing, tally_fits, tally_done, pair-start}
use Rattle.apply_counts.proofs.tally.Goals.{in-Some, in-None}
use Rattle.apply_counts.proofs.tally.Goals as goal

-- `by` as the code has it
same : {rs : List Row} {s : List ℕ} {by : ℤ} {changes : List ℤ} → FitsSigned w64 by → Room rs s by changes → Room rs s (to_z w64 (of_z w64 by)) changes
same {by = by} f r = rw (to_z-of_z w64 by f) r

pub loop-line-init : goal.loop-line-init
loop-line-init c = tally_start _ _ _ _

pub offset_bounds-changes-k : goal.offset_bounds-changes-k
offset_bounds-changes-k c = omega (arith, there _ c.args.table.kept _ _ _ (sym c.in-Some.is ∙ c.find_row.ensures), c.requires.places, c.well_formed)

pub slice_copy_out-changes : goal.slice_copy_out-changes
slice_copy_out-changes c = omega (arith, there _ c.args.table.kept _ _ _ (sym c.in-Some.is ∙ c.find_row.ensures), c.requires.places)

pub overflow_add-changes : goal.overflow_add-changes
overflow_add-changes c =
    let l = c.loop-line in
    let h : l.line-index < length c.args.lines.now / 2 = omega (arith, c.as_chunks.ensures.front_len) in
    tally_fits _ _ _ _ (same c.ranges.by c.requires) c.args.table.kept _ _ _ l.invariant _ (pair-start c.args.lines.now _ l.line-index c.as_chunks.ensures.front h) h c.in-Some.k (there _ c.args.table.kept _ _ _ (sym c.in-Some.is ∙ c.find_row.ensures))

pub bounds-changes-k : goal.bounds-changes-k
bounds-changes-k c = omega (arith, there _ c.args.table.kept _ _ _ (sym c.in-Some.is ∙ c.find_row.ensures), c.requires.places)

pub loop-line-preserved : goal.loop-line-preserved
loop-line-preserved c =
    let l = c.loop-line in
    let h : l.line-index < length c.args.lines.now / 2 = omega (arith, c.as_chunks.ensures.front_len) in
    let a = pair-start c.args.lines.now _ l.line-index c.as_chunks.ensures.front h in
    elim c.match-find_row.branch [
      | in-Some w ↦
          let f = sym w.in-Some.is ∙ c.find_row.ensures in
          rw w.found-is (tally_found _ _ _ _ (same c.ranges.by c.requires) c.args.table.kept _ _ _ l.invariant _ a h _ _ f (omega (arith, there _ c.args.table.kept _ _ _ f, c.requires.places)) _ w.changes-is)
      | in-None w ↦ rw (w.found-is, w.changes-is) (tally_missing _ _ _ _ (same c.ranges.by c.requires) c.args.table.kept _ _ _ l.invariant _ a h (sym w.in-None.is ∙ c.find_row.ensures))
    ]

pub returns : goal.returns
returns c = rw (c.check.ensures, ← to_z-of_z w64 c.args.by c.ranges.by) (tally_done _ _ _ _ c.loop-line.line-index _ _ c.loop-line.invariant (omega (arith, c.as_chunks.ensures.front_len)))
