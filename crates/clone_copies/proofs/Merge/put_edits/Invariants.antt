use mathlib.Core.Path.{◌≡◌}
use Prim.Native.Nat.{◌+◌, ◌-◌, ◌/◌, ◌≤◌}
use lib.ListN.{length}
use Rattle.item.specs.Items.{items}
use Rattle.cut_def.specs.Edits.{edits}
use Rattle.plan_def.specs.Outputs.{edit_bytes}
use Rattle.plan_lines.proofs.Laws.{Going}
use Rattle.edit_merge.specs.Merge.{together}
use Rattle.clone_items.specs.Copies.{clones}
use Rattle.clone_copies.specs.Walk.{edits_from, Good}
use Rattle.clone_copies.proofs.Merge.put_edits.Given as goal

abbrev pub invariant-loop-at : goal.invariant-loop-at
invariant-loop-at l = record {
  few : l.at.n ≤ l.at.i + (l.at.j + l.at.k);
  same : length l.out ≡ length l.initial.out;
  good : Good l.self.copies.copying.range l.self.copies.source.now l.self.segment.now l.self.was.now l.at;
  going : Going (edit_bytes l.self.copies.copying.range.number) 71 0 (edits (items l.self.was.now) (together (clones l.self.copies.copying.range (items l.self.copies.source.now)) (items l.self.segment.now))) l.initial.out l.at.n (edits_from l.self.copies.copying.range l.self.copies.source.now l.self.segment.now l.self.was.now l.at) l.out;
}

abbrev pub decreases-loop-at : goal.decreases-loop-at
decreases-loop-at l = length l.self.was.now / 70 + (length l.self.segment.now / 70 + length l.self.copies.source.now / 70) - (l.at.i + (l.at.j + l.at.k))
