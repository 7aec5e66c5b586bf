-- For the code only: what the second half of a plan rests on, and its refusals, in the terms of the definitions.
use Rattle.std.specs.Prelude.{true, Ok, List, map, ◌≡◌, ℕ}
use Rattle.item.specs.Items.{Fields}
use Rattle.records.specs.Stages.{unless, first}
use Rattle.table.specs.declared.Row.{Row}
use Rattle.plan_def.specs.Plans.{Plan, numbers}
use Rattle.plan_def.specs.Places.{places_sound}
use Rattle.plan_def.specs.Outputs.{Rooms, room_for}
use Rattle.change_def.specs.Changes.{change_refusal}
use Rattle.change_def.specs.Drafts.{drafted}
use Rattle.change_def.specs.Preallocs.{piece_limit}
use Rattle.change_ground.specs.Lent.{items_in}
use Rattle.change_holes.specs.Walk.{wishes}
use Rattle.change_places.specs.Wishes.{wanted_of}
use Rattle.change_lay.specs.Laid.{ground_of}
use Rattle.change_draft.specs.declared.asked.Asked.{Asked}
use Rattle.change_draft.specs.declared.Needs.{Needs}
use Rattle.change_draft.specs.Raw.{draft_said, whole}

-- a change that nothing refuses but places and room, and what it needs
pub record Accepted (a : Asked) (n : Needs) : Type 0 where
  pub none : change_refusal (ground_of a.begun) (whole a) ≡ 0
  pub needs : draft_said (items_in a.begun.base) (Ok n) ≡ drafted (ground_of a.begun) (whole a) piece_limit

-- refusals 26 and 27: of any plan with these numbers
abbrev pub FinishWhy : Needs → List Fields → List Row → (places : List ℕ) → Rooms → ℕ → Type 0
FinishWhy n fs rows places rooms why =
    (q : Plan)
    → (places_sound rows places (map wanted_of (wishes n.extents fs)) ≡ true → numbers q ≡ n.numbers)
    → why ≡ first (unless (places_sound rows places (map wanted_of (wishes n.extents fs))) 26) (unless (room_for rooms q) 27)
