-- What the export of applying gives: its answer as a byte, the two new counts over `answer`, the list and the table.
use Rattle.std.specs.Prelude.{List, [], ◌∷◌, ◌≡◌, ℕ, leb, length}
use Rattle.records.specs.Lent.{Slice, old, new}
use Rattle.records.specs.Stages.{unless}
use Rattle.endian.specs.Le.{put}
use Rattle.apply_def.specs.Apply.{Applying, or_applied}
use Rattle.apply.specs.Outcomes.{Told, done, refused, told, list_left, table_left}

-- each case of an answer as a byte: 0 for a plan that is applied, a refusal's own number
abbrev pub code : Told → ℕ
code (done items rows) = 0
code (refused n) = n

-- each case's counts: how many records and rows there are now, over the first of `answer`; a refusal leaves it as it was
abbrev pub counts_over : Told → List ℕ → List ℕ
counts_over (done items rows) answer = put (items ∷ rows ∷ []) 0 answer
counts_over (refused n) answer = answer

-- an `answer` of fewer than two numbers is refused with 27 before all else
abbrev pub with_two : List ℕ → Applying → Applying
with_two answer o = or_applied (unless (leb 2 (length answer)) 27) o

-- an answer told: the byte, and every number of `answer`
pub record Heard (t : Told) (r : ℕ) (answer answer' : List ℕ) : Type 0 where
  pub byte : r ≡ code t
  pub counts : answer' ≡ counts_over t answer

-- the export does what its definition says: the byte, and every number of `answer`, byte of the list and number of the table
pub record ExportedWith (o : Applying) (r : ℕ) (answer answer' list list' table table' : List ℕ) : Type 0 where
  pub heard : Heard (told o) r answer answer'
  pub bytes : list' ≡ list_left o list
  pub numbers : table' ≡ table_left o table

-- what the export ensures of a definition
abbrev pub Exported : Applying → ℕ → (answer list table : Slice) → Type 0
Exported o r answer list table = ExportedWith (with_two (old answer) o) r (old answer) (new answer) (old list) (new list) (old table) (new table)
