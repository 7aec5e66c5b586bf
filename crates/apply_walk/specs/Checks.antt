-- For the code only: the checks of edits and of the list after them, as the code makes them in one pass.
use Rattle.std.specs.Prelude.{Bool, ◌&&◌, List, ℕ, ◌%◌, eqb, length}
use Rattle.records.specs.Records.{records}
use Rattle.records.specs.Stages.{unless, first, every}
use Rattle.item.specs.Items.{Fields, items}
use Rattle.lists.specs.declared.Last.{Last}
use Rattle.lists.specs.Lists.{whole_sectors, well_kept}
use Rattle.lists.specs.Raw.{turn}
use Rattle.cut_def.specs.Pieces.{items_of}
use Rattle.cut_def.specs.Edits.{items_after}
use Rattle.plan_def.specs.ReadBack.{edits_in}
use Rattle.apply_def.specs.Lent.{tag_sound}

-- the list after the edits
abbrev pub items_now : List ℕ → List ℕ → List Fields
items_now list edits = items_of (items_after (items list) (edits_in edits))

-- whole edits, each a put or a delete
abbrev pub edits_sized : List ℕ → Bool
edits_sized s = eqb (length s % 71) 0 && every (λ (b : Bool). b) (records tag_sound 71 s)

-- a record of the result is sound, follows those before it, and is of whole sectors
abbrev pub result_turn : (number sector : ℕ) → Last → Fields → ℕ
result_turn number sector a f = first (turn number a f) (unless (whole_sectors sector f) 2)

abbrev pub result_sound : (number sector : ℕ) → List Fields → Bool
result_sound number sector fs = well_kept sector number fs
