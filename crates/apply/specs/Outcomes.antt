-- What applying answers, and what it leaves in the list and the table that it was lent.
use Rattle.std.specs.Prelude.{List, ◌≡◌, ℕ, length, Result, Ok, Err}
use Rattle.records.specs.declared.refusal.Refusal.{Refusal}
use Rattle.records.specs.Refusals.{number}
use Rattle.records.specs.Lent.{Slice, old, new}
use Rattle.table.specs.Rows.{row_numbers}
use Rattle.item.specs.Items.{encode}
use Rattle.plan_def.specs.Outputs.{laid}
use Rattle.apply_def.specs.Apply.{Applying, applied, refusal}
use Rattle.apply_refusals.specs.declared.Sizes.{Sizes}

-- how many records and rows there are after a plan, or the number of a refusal
pub data Told : Type 0 where
  done : (items rows : ℕ) → Told
  refused : ℕ → Told

-- what the code answers
abbrev pub Applied : Type 0
Applied = Result Sizes Refusal

-- each case of it
abbrev pub applied_said : Applied → Told
applied_said (Ok s) = done s.items s.rows
applied_said (Err e) = refused (number e)

abbrev pub told : Applying → Told
told (applied fs rs) = done (length fs) (length rs)
told (refusal n) = refused n

-- the list and the table from their starts, all behind them as it was; a refusal changes nothing
abbrev pub list_left : Applying → List ℕ → List ℕ
list_left (applied fs rs) list = laid encode fs list
list_left (refusal n) list = list

abbrev pub table_left : Applying → List ℕ → List ℕ
table_left (applied fs rs) table = laid row_numbers rs table
table_left (refusal n) table = table

-- applying does what its definition says: the answer, and every byte and number of both after it
pub record MetApplyingWith (o : Applying) (r : Applied) (list list' table table' : List ℕ) : Type 0 where
  pub answer : applied_said r ≡ told o
  pub bytes : list' ≡ list_left o list
  pub numbers : table' ≡ table_left o table

abbrev pub MetApplying : Applying → Applied → (list table : Slice) → Type 0
MetApplying o r list table = MetApplyingWith o r (old list) (new list) (old table) (new table)
