use mathlib.Core.Path.{◌∙◌, sym}
use Prim.Native.Nat.{◌<◌, ◌/◌}
use lib.ListN.{length}
use native.Mathlib.Omega.{arith}
use Rattle.apply_counts.proofs.Lines.{there, mark-start, mark_found, mark_missing, mark-done, pair-start}
use Rattle.apply_counts.proofs.mark.Goals.{in-Some, in_default}
use Rattle.apply_counts.proofs.mark.Goals as goal

pub loop-line-init : goal.loop-line-init
loop-line-init c = mark-start _ _ _

pub bounds-gone-k : goal.bounds-gone-k
bounds-gone-k c = omega (arith, there _ c.args.table.kept _ _ _ (sym c.in-Some.is ∙ c.find_row.ensures), c.requires)

pub loop-line-preserved : goal.loop-line-preserved
loop-line-preserved c = let l = c.loop-line in
    let s = c.args.lines.now in
    let h : l.line-index < length s / 2 = omega (arith, c.as_chunks.ensures.front_len) in
    let a = pair-start s _ l.line-index c.as_chunks.ensures.front h in
    elim c.match-find_row.branch [
      | in-Some w ↦
          let f = sym w.in-Some.is ∙ c.find_row.ensures in
          rw w.gone-is (mark_found _ s _ c.args.table.kept l.line-index _ l.invariant _ a h _ _ f (omega (arith, there _ c.args.table.kept _ _ _ f, c.requires)))
      | in_default w ↦ rw w.gone-is (mark_missing _ s _ c.args.table.kept l.line-index _ l.invariant _ a h (sym w.in_default.is ∙ c.find_row.ensures))
    ]

pub returns : goal.returns
returns c = mark-done _ c.args.lines.now _ c.loop-line.line-index _ (omega (arith, c.as_chunks.ensures.front_len)) c.loop-line.invariant
