-- For the code only: the lines of a plan, counted by row: by how much the count of a row moves, and whether it goes.
use Rattle.std.specs.Prelude.{Bool, true, false, cond, ◌&&◌, ◌||◌, List, [], ◌∷◌, ◌≡◌, ℕ, suc, ◌+◌, ◌-◌, ◌/◌, ◌^◌, ◌≤◌, ◌<◌, eqb, leb, ltb, length, get_or, ℤ, pos, negsuc, ◌+ℤ◌, ◌-ℤ◌, unsigned_abs}
use Rattle.records.specs.Select.{any}
use Rattle.records.specs.Stages.{stage}
use Rattle.table.specs.declared.Row.{Row}
use Rattle.cut_def.specs.Refs.{Ref}
use Rattle.plan_def.specs.Plans.{Plan}
use Rattle.apply_def.specs.Apply.{gained, lost, goes, row_missing}

-- a line names the row that starts here
abbrev pub names : ℕ → Ref → Bool
names start r = eqb r.start start

-- by how much lines move its count, by so much each
unfoldable pub moved_by : ℤ → ℕ → List Ref → ℤ
moved_by by start [] = pos 0
moved_by by start (r ∷ rs) = cond (names start r) by (pos 0) +ℤ moved_by by start rs

-- ---- lines of one kind

-- each row has a count that so many lines, which move it by 1 or less, do not take out of 64 bits
pub record Room (rs : List Row) (lines : List ℕ) (by : ℤ) (changes : List ℤ) : Type 0 where
  pub places : length rs ≤ length changes
  pub one : unsigned_abs by ≤ 1
  pub room : (y : ℕ) → y < length rs → unsigned_abs (get_or changes y (pos 0)) + length lines / 2 < 2 ^ 63

pub record AllTallied (rs : List Row) (lines : List Ref) (by : ℤ) (changes : List ℤ) (r : ℕ) (changes' : List ℤ) : Type 0 where
  pub refusal : r ≡ stage (row_missing rs) lines
  pub count : (y : ℕ) (e : Row) → y < length rs → get_or changes' y (pos 0) ≡ get_or changes y (pos 0) +ℤ moved_by by (get_or rs y e).start lines

pub record AllMarked (rs : List Row) (lines : List Ref) (gone gone' : List Bool) : Type 0 where
  pub mark : (y : ℕ) (e : Row) → y < length rs → get_or gone' y false ≡ (any (names (get_or rs y e).start) lines || get_or gone y false)

-- ---- what the arrays say of each row

-- before anything is counted
pub record Zeros (rows : ℕ) (changes : List ℤ) (gone : List Bool) : Type 0 where
  pub moves : rows ≤ length changes
  pub leaves : rows ≤ length gone
  pub zero : (y : ℕ) → y < rows → (get_or changes y (pos 0) ≡ pos 0) × (get_or gone y false ≡ false)

-- and when all lines of a plan are
pub record Counted (p : Plan) (rs : List Row) (changes : List ℤ) (gone : List Bool) : Type 0 where
  pub moves : (y : ℕ) (e : Row) → y < length rs → get_or changes y (pos 0) ≡ pos (gained p (get_or rs y e).start) -ℤ pos (lost p (get_or rs y e).start)
  pub leaves : (y : ℕ) (e : Row) → y < length rs → get_or gone y false ≡ goes p (get_or rs y e)

-- or what each row gains and what it loses
pub record CountedBothWays (p : Plan) (rs : List Row) (raised lowered : List ℤ) (gone : List Bool) : Type 0 where
  pub gains : (y : ℕ) (e : Row) → y < length rs → get_or raised y (pos 0) ≡ pos (gained p (get_or rs y e).start)
  pub losses : (y : ℕ) (e : Row) → y < length rs → get_or lowered y (pos 0) ≡ pos (lost p (get_or rs y e).start)
  pub leaves : (y : ℕ) (e : Row) → y < length rs → get_or gone y false ≡ goes p (get_or rs y e)

-- ---- net counts

-- references with what moves them: not below zero, and in 64 bits
abbrev pub net_fits : ℕ → ℤ → Bool
net_fits references (pos n) = ltb (references + n) (2 ^ 64)
net_fits references (negsuc n) = leb (suc n) references && ltb (references - suc n) (2 ^ 64)

abbrev pub net : ℕ → ℤ → ℕ
net references (pos n) = references + n
net references (negsuc n) = references - suc n

-- the same of what is gained and what is lost
abbrev pub net_count_fits : (references gained lost : ℕ) → Bool
net_count_fits references gained lost = leb lost (references + gained) && ltb (references + gained - lost) (2 ^ 64)

-- of each row
unfoldable pub nets : (changes : List ℤ) → List Row → Bool
nets (d ∷ ds) (r ∷ rs) = net_fits r.references d && nets ds rs
nets ds rs = true
