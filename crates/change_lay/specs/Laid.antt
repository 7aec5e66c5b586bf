-- For the code only: a plan laid over the outputs of a call, as far as each has room for it.
use Rattle.std.specs.Prelude.{true, List, ◌≡◌, ℕ, ◌+◌}
use Rattle.records.specs.Stages.{every, pairs}
use Rattle.item.specs.Items.{Fields}
use Rattle.lists.specs.Lists.{rises}
use Rattle.cut_def.specs.Pieces.{Piece, insert_all}
use Rattle.cut_def.specs.Edits.{Edit, edits}
use Rattle.cut_def.proofs.Inserts.{fresh}
use Rattle.edit_lines.specs.Pieced.{piece_items}
use Rattle.plan_def.specs.Plans.{Plan}
use Rattle.plan_def.specs.Outputs.{Outs, edit_bytes, ref_numbers, write_numbers}
use Rattle.plan_lines.specs.Lines.{Laid}
use Rattle.change_def.specs.Changes.{Change, pieces_after, plan_of}
use Rattle.change_def.specs.Raw.{change_of}
use Rattle.change_def.specs.Rewrites.{Ground, leaf_items}
use Rattle.change_def.specs.Preallocs.{piece_limit}
use Rattle.change_ground.specs.Lent.{leaves_in, ground}
use Rattle.change_segment.specs.declared.Places.{Places}
use Rattle.change_segment.specs.Sides.{places_at}
use Rattle.change_lay.specs.declared.Begun.{Begun}
use Rattle.change_lay.specs.declared.RefCounts.{RefCounts}
use Rattle.change_lay.specs.declared.Edited.{Edited}
use Rattle.change_lay.specs.declared.Counts.{Counts}

-- what the definitions call its ground and the change
abbrev pub ground_of : Begun → Ground
ground_of b = ground b.base

abbrev pub change_in : Begun → Change
change_in b = change_of b.range b.base.file.size

-- the plan of such a change, its two sectors at these places, where they take new extents
abbrev pub plan_at : Begun → Places → Plan
plan_at b at = plan_of (ground_of b) (change_in b) piece_limit (places_at b.range b.parts at.front at.back)

-- the file's items of that plan, but for the pieces of holes
abbrev pub after_at : Begun → Places → List Piece
after_at b at = pieces_after (ground_of b) (change_in b) piece_limit (places_at b.range b.parts at.front at.back)

-- the items of pieces of holes whose adds are these numbers, and the edits with them among the items
abbrev pub new_pieces : Begun → (numbers : List ℕ) → List Fields
new_pieces b numbers = piece_items b.base.file.number (b.base.volume.generation + 1) numbers

abbrev pub edits_at : Begun → Places → (pieces : List ℕ) → List Edit
edits_at b at pieces = edits (leaf_items (leaves_in b.base)) (insert_all (new_pieces b pieces) (after_at b at))

-- items that rise, with keys that neither of two lists has
pub record Pieced (before after ys : List Fields) : Type 0 where
  pub rise : pairs rises ys ≡ true
  pub olds : every (fresh before) ys ≡ true
  pub news : every (fresh after) ys ≡ true

-- ---- part by part

pub record RefsLaid (plan : Plan) (n : RefCounts) (s u r s' u' r' : List ℕ) : Type 0 where
  pub shares : Laid ref_numbers 2 0 plan.shares s n.shares s'
  pub unrefs : Laid ref_numbers 2 0 plan.unrefs u n.unrefs u'
  pub releases : Laid ref_numbers 2 0 plan.releases r n.releases r'

pub record EditsLaid (file : ℕ) (es : List Edit) (total : ℕ) (n : Edited) (e e' : List ℕ) : Type 0 where
  pub edits : Laid (edit_bytes file) 71 0 es e n.edits e'
  pub bytes : n.bytes ≡ total

-- a plan with these edits, but for its adds: its numbers, and each output
pub record PlanLaid (file : ℕ) (plan : Plan) (es : List Edit) (n : Counts) (before after : Outs) : Type 0 where
  pub refs : RefsLaid plan n.refs before.shares before.unrefs before.releases after.shares after.unrefs after.releases
  pub edits : EditsLaid file es plan.bytes n.edits before.edits after.edits
  pub writes : Laid write_numbers 4 0 plan.writes before.writes n.writes after.writes
  pub adds : after.adds ≡ before.adds
