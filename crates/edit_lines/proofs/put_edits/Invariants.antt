use Rattle.edit_lines.specs.Merge.{news, edits_from}
use Rattle.edit_lines.specs.Pieced.{piece_items}
use Rattle.plan_lines.proofs.Laws.{Going}
use Rattle.plan_def.specs.Outputs.{edit_bytes}
use Rattle.cut_def.specs.Edits.{edits}
use Rattle.cut_def.specs.Pieces.{built, items_of, insert_all}
use Rattle.item.specs.Items.{items}
use Rattle.lists.specs.Lists.{rises}
use Rattle.records.specs.Stages.{pairs}
use lib.ListN.{length}
use Prim.Native.Nat.{◌+◌, ◌-◌, ◌/◌, ◌≤◌}
use mathlib.Core.Bool.{true}
use mathlib.Core.List.{map}
use mathlib.Core.Path.{◌≡◌}
use Rattle.edit_lines.proofs.put_edits.Given as goal

abbrev pub invariant-loop-at : goal.invariant-loop-at
invariant-loop-at l = (l.at.i ≤ length l.was / 70) × (l.at.j ≤ length l.segment / 70) × (l.at.k ≤ length l.pieces / 3) × (l.at.n ≤ l.n + (l.at.i + (l.at.j + l.at.k))) × (length l.out ≡ length l.initial.out) × (pairs rises (items_of (news l.file l.generation l.segment l.pieces l.at.j l.at.k)) ≡ true) × Going (edit_bytes l.file) 71 l.n (edits (items l.was) (insert_all (piece_items l.file l.generation l.pieces) (map built (items l.segment)))) l.initial.out l.at.n (edits_from l.file l.generation l.segment l.pieces l.was l.at) l.out

abbrev pub decreases-loop-at : goal.decreases-loop-at
decreases-loop-at l = length l.was / 70 + (length l.segment / 70 + length l.pieces / 3) - (l.at.i + (l.at.j + l.at.k))
