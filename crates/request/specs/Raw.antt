-- For the code only: the stages as the private functions group them.
use Rattle.std.specs.Prelude.{Bool, ◌||◌, not, List, ℕ, eqb}
use Rattle.records.specs.Stages.{unless, first, every}
use Rattle.item.specs.Items.{items}
use Rattle.lists.specs.Lists.{shared_sound, list_kept, whole_sectors}
use Rattle.lists.specs.Raw.{list_sized}
use Rattle.table.specs.Raw.{table_sized}
use Rattle.request.specs.Lent.{sector_sound, size_sound}

-- 4 of one file
abbrev pub fours : ℕ → ℕ → List ℕ → ℕ
fours sector size list = first (unless (sector_sound sector) 4) (first (unless (size_sound size) 4) (unless (every (whole_sectors sector) (items list)) 4))

-- 4 of two files
abbrev pub fours2 : ℕ → ℕ → ℕ → List ℕ → List ℕ → ℕ
fours2 sector size size2 list source =
    first (unless (sector_sound sector) 4)
    (first (first (unless (size_sound size) 4) (unless (size_sound size2) 4))
    (first (unless (every (whole_sectors sector) (items list)) 4) (unless (every (whole_sectors sector) (items source)) 4)))

-- 1 of a list, its shared bytes and the table
abbrev pub ones : List ℕ → List ℕ → List ℕ → ℕ
ones list shared table = first (unless (list_sized list) 1) (first (unless (shared_sound shared (items list)) 1) (unless (table_sized table) 1))

-- 2 of two lists
abbrev pub twos : ℕ → ℕ → Bool → List ℕ → List ℕ → ℕ
twos number number2 own list source =
    first (unless (list_kept number (items list)) 2)
    (first (unless (list_kept number2 (items source)) 2) (unless (own || not (eqb number2 number)) 2))
