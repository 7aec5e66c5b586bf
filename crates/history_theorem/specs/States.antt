-- Demand 3 "runs on the table and one list a file".
use Rattle.std.specs.Prelude.{cond, List, [], ◌∷◌, ◌≡◌, ℕ, ◌+◌, ◌<◌, eqb, Some}
use Rattle.item.specs.Items.{Fields}
use Rattle.table.specs.declared.Row.{Row}
use Rattle.table.specs.Rows.{find}
use Rattle.cut_def.specs.Refs.{naming}

pub record FileList : Type 0 where
  pub number : ℕ
  pub items : List Fields

pub record State : Type 0 where
  pub files : List FileList
  pub rows : List Row

-- a file's list; a number that is not there reads as empty
unfoldable pub list_of : ℕ → List FileList → List Fields
list_of n [] = []
list_of n (f ∷ fs) = cond (eqb f.number n) f.items (list_of n fs)

-- with another list for a file, which joins if it was not there
unfoldable pub with_list : ℕ → List Fields → List FileList → List FileList
with_list n is [] = record { number = n; items = is } ∷ []
with_list n is (f ∷ fs) = cond (eqb f.number n) (record { number = f.number; items = is } ∷ fs) (f ∷ with_list n is fs)

-- "its true total, the number of items in all files naming it"
unfoldable pub total : ℕ → List FileList → ℕ
total start [] = 0
total start (f ∷ fs) = naming start f.items + total start fs

-- "the table started with every named extent and its true total"
abbrev pub TrueTable : State → Type 0
TrueTable s = (start : ℕ) → 0 < total start s.files → (k : ℕ) × (row : Row) × (find start s.rows ≡ Some (k, row)) × (row.references ≡ total start s.files)
