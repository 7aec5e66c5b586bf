-- For the code only: the refusals of applying as the private functions group them: 1 of what is lent, then 2 to 4, then those of the
-- result.
use Rattle.std.specs.Prelude.{Bool, ◌&&◌, List, ℤ, ◌++◌, ◌≡◌, ℕ, ◌+◌, ◌*◌, ◌/◌, ◌≤◌, leb, length, take}
use Rattle.records.specs.Stages.{unless, first, stage, every, pairs}
use Rattle.item.specs.Items.{Fields, items}
use Rattle.table.specs.declared.Row.{Row}
use Rattle.table.specs.Rows.{rows, few_rows, table_kept}
use Rattle.lists.specs.Lists.{few_records, list_kept, whole_sectors, well_kept}
use Rattle.request.specs.Lent.{sector_sound}
use Rattle.plan_def.specs.Plans.{Plan}
use Rattle.apply_def.specs.Apply.{list_after, rows_after, row_missing, net_sound, edits_rise}
use Rattle.plan_def.specs.ReadBack.{edits_in, adds_in}
use Rattle.apply_def.specs.Lent.{Parts, count_broken, parts_broken}
use Rattle.apply_walk.specs.Checks.{items_now, result_sound}
use Rattle.apply_counts.specs.Counts.{Counted, nets}
use Rattle.apply_clear.specs.Clear.{adds_fit}

-- 1: broken, or over-long
abbrev pub ones : (countItems countRows : ℕ) → (list table : List ℕ) → Parts → ℕ
ones countItems countRows list table p =
    first (first (count_broken countItems 70 list) (first (count_broken countRows 5 table) (parts_broken p)))
    (first (unless (leb countItems 65536) 1) (unless (leb countRows 65536) 1))

-- 2 to 4
abbrev pub others : (number sector : ℕ) → (list table edits : List ℕ) → ℕ
others number sector list table edits =
    first (unless (list_kept number (items list)) 2)
    (first (unless (pairs edits_rise (edits_in edits)) 2)
    (first (unless (table_kept (rows table)) 3) (first (unless (sector_sound sector) 4) (unless (every (whole_sectors sector) (items list)) 4))))

-- so many records of a list and rows of a table are there, and no more than may be
pub record Inside (countItems countRows : ℕ) (list table : List ℕ) : Type 0 where
  pub listed : countItems ≤ length list / 70
  pub tabled : countRows ≤ length table / 5
  pub few_items : countItems ≤ 65536
  pub few_rows : countRows ≤ 65536

-- what is lent is accepted
pub record Ready (number sector countItems countRows : ℕ) (list table edits : List ℕ) : Type 0 where
  pub inside : Inside countItems countRows list table
  pub zero : others number sector (take (countItems * 70) list) (take (countRows * 5) table) edits ≡ 0

-- the rest: of the result, and of the room for it
abbrev pub result_refusal : (sector number generation room_items room_rows : ℕ) → List Fields → List Row → Plan → ℕ
result_refusal sector number generation room_items room_rows fs rs p =
    first (unless (few_records (list_after p fs) && few_rows (rows_after generation p rs)) 1)
    (first (stage (row_missing rs) (p.shares ++ (p.unrefs ++ p.releases)))
    (first (unless (every (net_sound p) rs) 3)
    (first (unless (well_kept sector number (list_after p fs)) 2)
    (first (unless (table_kept (rows_after generation p rs)) 3)
    (unless (leb (length (list_after p fs)) room_items && leb (length (rows_after generation p rs)) room_rows) 27)))))

-- the same as the code has it, from the list and edits, from what was counted by row, how many rows stay, and the refusal of a missing row
abbrev pub counted_refusal : (sector number room_items room_rows : ℕ) → (list edits adds : List ℕ) → List Row → List ℤ → List Bool → (staying missing : ℕ) → ℕ
counted_refusal sector number room_items room_rows list edits adds rs changes gone staying missing =
    first (unless (leb (length (items_now list edits)) 65536 && leb (staying + length adds / 3) 65536) 1)
    (first missing
    (first (unless (nets changes rs) 3)
    (first (unless (result_sound number sector (items_now list edits)) 2)
    (first (unless (adds_fit gone rs (adds_in adds)) 3)
    (unless (leb (length (items_now list edits)) room_items && leb (staying + length adds / 3) room_rows) 27)))))

-- a plan as the code has it: its edits and adds, and its lines counted by row, with the refusal of a missing row
pub record Stands (edits adds : List ℕ) (rs : List Row) (changes : List ℤ) (gone : List Bool) (missing : ℕ) (p : Plan) : Type 0 where
  pub edited : p.edits ≡ edits_in edits
  pub added : p.adds ≡ adds_in adds
  pub counted : Counted p rs changes gone
  pub lines : missing ≡ stage (row_missing rs) (p.shares ++ (p.unrefs ++ p.releases))
