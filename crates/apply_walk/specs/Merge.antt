-- For the code only: the list after a plan, record by record, with nothing stored: the old list and the edits rise by key, so that it is a
-- merge of both.
use Rattle.std.specs.Prelude.{true, List, ◌≡◌, ℕ, drop}
use Rattle.records.specs.Stages.{pairs}
use Rattle.item.specs.Items.{items}
use Rattle.lists.specs.Lists.{rises}
use Rattle.cut_def.specs.Pieces.{Piece}
use Rattle.cut_def.specs.Edits.{items_after}
use Rattle.apply_def.specs.Apply.{edits_rise}
use Rattle.plan_def.specs.ReadBack.{edits_in}

-- both rise by key
pub record Rising (list edits : List ℕ) : Type 0 where
  pub olds : pairs rises (items list) ≡ true
  pub news : pairs edits_rise (edits_in edits) ≡ true

-- the result that is left from old record i and edit j on
abbrev pub left : List ℕ → List ℕ → ℕ → ℕ → List Piece
left list edits i j = items_after (drop i (items list)) (drop j (edits_in edits))
