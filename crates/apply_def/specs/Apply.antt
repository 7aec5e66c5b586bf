-- Applying a plan (document 01, "The leaves"): "Applying a plan to a list is `items_after`. Applying it to the table is
-- ours: shares, unrefs and releases move the count, a released row goes, an add makes a row (references 1, new generation,
-- keyed 0)." It is total: on plans that no planner made too.
use Rattle.std.specs.Prelude.{Bool, cond, ◌&&◌, not, List, [], ◌∷◌, ◌++◌, map, ℕ, zero, suc, ◌+◌, ◌-◌, ◌^◌, eqb, leb, ltb, length}
use Rattle.records.specs.Stages.{unless, first_of, stage, every, pairs}
use Rattle.records.specs.Select.{keep, any, count}
use Rattle.item.specs.Items.{Fields}
use Rattle.table.specs.declared.Row.{Row}
use Rattle.table.specs.Rows.{few_rows, table_kept, find, with_row}
use Rattle.lists.specs.Lists.{few_records, list_kept, whole_sectors, well_kept}
use Rattle.request.specs.Lent.{sector_sound}
use Rattle.cut_def.specs.Pieces.{items_of}
use Rattle.cut_def.specs.Refs.{Ref}
use Rattle.cut_def.specs.Edits.{Edit, key_of, items_after}
use Rattle.plan_def.specs.Plans.{Plan, Add}

-- ---- the list

-- "Applying a plan to a list is `items_after`."
abbrev pub list_after : Plan → List Fields → List Fields
list_after p fs = items_of (items_after fs p.edits)

-- ---- the table

-- how many lines name an extent
abbrev pub lines_at : ℕ → List Ref → ℕ
lines_at start rs = count (λ (r : Ref). eqb r.start start) rs

abbrev pub gained : Plan → ℕ → ℕ
gained p start = lines_at start p.shares

abbrev pub lost : Plan → ℕ → ℕ
lost p start = lines_at start p.unrefs + lines_at start p.releases

-- "a released row goes", even if shares name it too
abbrev pub goes : Plan → Row → Bool
goes p row = any (λ (r : Ref). eqb r.start row.start) p.releases

-- "shares, unrefs and releases move the count"
abbrev pub moved : Plan → Row → Row
moved p row =
    record { start = row.start; length = row.length; references = row.references + gained p row.start - lost p row.start; made = row.made; keyed = row.keyed }

-- "an add makes a row (references 1, new generation, keyed 0)"
abbrev pub row_of_add : ℕ → Add → Row
row_of_add generation a = record { start = a.start; length = a.length; references = 1; made = generation; keyed = 0 }

-- a row at its start
unfoldable pub insert_row : Row → List Row → List Row
insert_row x [] = x ∷ []
insert_row x (r ∷ rs) = cond (ltb x.start r.start) (x ∷ r ∷ rs) (r ∷ insert_row x rs)

unfoldable pub insert_rows : List Row → List Row → List Row
insert_rows [] rs = rs
insert_rows (x ∷ xs) rs = insert_rows xs (insert_row x rs)

unfoldable pub rows_after : (generation : ℕ) → Plan → List Row → List Row
rows_after generation p rs = insert_rows (map (row_of_add generation) p.adds) (map (moved p) (keep (λ (r : Row). not (goes p r)) rs))

-- ---- refusals

-- "14 if a row is missing": a line of an extent that has none
abbrev pub row_missing : List Row → Ref → ℕ
row_missing rs r = with_row (find r.start rs) (λ (row : Row). 0)

-- "3 if a net count leaves 64 bits", below zero or above
abbrev pub net_sound : Plan → Row → Bool
net_sound p row =
    leb (lost p row.start) (row.references + gained p row.start)
    && ltb (row.references + gained p row.start - lost p row.start) (2 ^ 64)

-- edits that do not rise by key are refused with 2, as a list that does not
abbrev pub edits_rise : Edit → Edit → Bool
edits_rise d e = ltb (key_of d) (key_of e)

module _ (sector number generation : ℕ) (fs : List Fields) (rs : List Row) (p : Plan) where
  -- 1 to 4 of what is lent, and then "1 if the result is over-long, 14 if a row is missing, 3 if a net count leaves 64
  -- bits, 2 or 3 for a broken result, in that order"; a broken result's sectors give 2 too
  unfoldable pub apply_refusal : ℕ
  apply_refusal =
      first_of
      (unless (few_records fs) 1
      ∷ unless (few_rows rs) 1
      ∷ unless (list_kept number fs) 2
      ∷ unless (pairs edits_rise p.edits) 2
      ∷ unless (table_kept rs) 3
      ∷ unless (sector_sound sector) 4
      ∷ unless (every (whole_sectors sector) fs) 4
      ∷ unless (few_records (list_after p fs) && few_rows (rows_after generation p rs)) 1
      ∷ stage (row_missing rs) (p.shares ++ (p.unrefs ++ p.releases))
      ∷ unless (every (net_sound p) rs) 3
      ∷ unless (well_kept sector number (list_after p fs)) 2
      ∷ unless (table_kept (rows_after generation p rs)) 3
      ∷ [])

-- the list and the table after a plan, or a refusal, which changes nothing
pub data Applying : Type 0 where
  applied : List Fields → List Row → Applying
  refusal : ℕ → Applying

abbrev pub or_applied : ℕ → Applying → Applying
or_applied zero a = a
or_applied (suc n) a = refusal (suc n)

-- the list and the table are lent with room for so many records and rows; "27: an output is too short" is here the last
unfoldable pub apply : (sector number generation room_items room_rows : ℕ) → List Fields → List Row → Plan → Applying
apply sector number generation room_items room_rows fs rs p =
    or_applied
    (first_of
    (apply_refusal sector number generation fs rs p
    ∷ unless (leb (length (list_after p fs)) room_items && leb (length (rows_after generation p rs)) room_rows) 27
    ∷ []))
    (applied (list_after p fs) (rows_after generation p rs))
