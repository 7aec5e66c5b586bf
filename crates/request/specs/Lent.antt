-- What a request is lent, and refusals 1 to 4 of it in the paper's order (document 01, "When a plan is refused").
use Rattle.std.specs.Prelude.{Bool, ◌||◌, not, List, [], ◌∷◌, ℕ, ◌^◌, eqb, ltb}
use Rattle.records.specs.Stages.{unless, first, first_of, every}
use Rattle.item.specs.Items.{Fields, items}
use Rattle.lists.specs.Lists.{whole_records, few_records, shared_sound, list_kept, whole_sectors}
use Rattle.table.specs.declared.Row.{Row}
use Rattle.table.specs.Rows.{rows, whole_rows, few_rows, table_kept}
use Rattle.request.specs.declared.Volume.{Volume}
use Rattle.request.specs.declared.File.{File}

-- 4: "sector (a power of two, 4,096 to 65,536)"
abbrev pub sector_sound : ℕ → Bool
sector_sound s = eqb s (2 ^ 12) || (eqb s (2 ^ 13) || (eqb s (2 ^ 14) || (eqb s (2 ^ 15) || eqb s (2 ^ 16))))

-- 4: "file sizes (at most 2^63 − 1)"
abbrev pub size_sound : ℕ → Bool
size_sound size = ltb size (2 ^ 63)

-- of one file: what a punch and a fallocate are lent, as items and rows
unfoldable pub lent_refusal : Volume → File → List Fields → (shared : List ℕ) → List Row → ℕ
lent_refusal v f fs shared rs =
    first_of
    (unless (few_records fs) 1
    ∷ unless (shared_sound shared fs) 1
    ∷ unless (few_rows rs) 1
    ∷ unless (list_kept f.number fs) 2
    ∷ unless (table_kept rs) 3
    ∷ unless (sector_sound v.sector) 4
    ∷ unless (size_sound f.size) 4
    ∷ unless (every (whole_sectors v.sector) fs) 4
    ∷ [])

-- of a clone's two files, the destination's list first; own: the source is the destination itself. Otherwise "a second
-- list of its number gives 2"
unfoldable pub lent_refusal2 : Volume → (dst src : File) → Bool → List Fields → (shared : List ℕ) → (source : List Fields) → List Row → ℕ
lent_refusal2 v dst src own fs shared source rs =
    first_of
    (unless (few_records source) 1
    ∷ unless (few_records fs) 1
    ∷ unless (shared_sound shared fs) 1
    ∷ unless (few_rows rs) 1
    ∷ unless (list_kept dst.number fs) 2
    ∷ unless (list_kept src.number source) 2
    ∷ unless (own || not (eqb src.number dst.number)) 2
    ∷ unless (table_kept rs) 3
    ∷ unless (sector_sound v.sector) 4
    ∷ unless (size_sound dst.size) 4
    ∷ unless (size_sound src.size) 4
    ∷ unless (every (whole_sectors v.sector) fs) 4
    ∷ unless (every (whole_sectors v.sector) source) 4
    ∷ [])

-- 1: "a list or table of broken length"
abbrev pub list_broken : List ℕ → ℕ
list_broken list = unless (whole_records list) 1

abbrev pub table_broken : List ℕ → ℕ
table_broken table = unless (whole_rows table) 1

-- from the bytes that are lent
abbrev pub lent : Volume → File → (list shared table : List ℕ) → ℕ
lent v f list shared table = first (first (list_broken list) (table_broken table)) (lent_refusal v f (items list) shared (rows table))

abbrev pub lent2 : Volume → (dst src : File) → Bool → (list shared source table : List ℕ) → ℕ
lent2 v dst src own list shared source table =
    first (first (list_broken source) (first (list_broken list) (table_broken table))) (lent_refusal2 v dst src own (items list) shared (items source) (rows table))
