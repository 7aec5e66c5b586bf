-- What the exports give: an operation's answer as a byte, a plan's numbers over `answer`, and the outputs.
use Rattle.std.specs.Prelude.{Bool, cond, List, [], ◌∷◌, ◌≡◌, ℕ, leb, length}
use denote.Triple.Both.{Both}
use Rattle.records.specs.Lent.{Slice, old, new}
use Rattle.records.specs.Stages.{unless}
use Rattle.endian.specs.Le.{put}
use Rattle.request.specs.declared.Volume.{Volume}
use Rattle.request.specs.declared.File.{File}
use Rattle.request.specs.declared.Range.{Range}
use Rattle.request.specs.declared.Numbers.{Numbers}
use Rattle.request.specs.Answers.{Outcome, plan, nothing, refused}
use Rattle.plan_def.specs.Plans.{Plan, told, refused_or}
use Rattle.plan_def.specs.Outputs.{Rooms, Outs, outs, rooms_of, left}
use Rattle.clone_span.specs.declared.CloneRange.{CloneRange}

-- the nine numbers of a plan: how many records each output gets, then size, bytes, and the mark for preallocation
abbrev pub nine : Numbers → List ℕ
nine n = n.edits ∷ n.shares ∷ n.unrefs ∷ n.releases ∷ n.adds ∷ n.writes ∷ n.size ∷ n.bytes ∷ cond n.prealloc 1 0 ∷ []

-- each case of an answer as a byte: 0 for a plan, 100 for nothing to do, a refusal's own number
abbrev pub code : Outcome Numbers → ℕ
code (plan n) = 0
code nothing = 100
code (refused n) = n

-- each case's numbers: a plan's nine over the first of `answer`; without a plan it keeps its own
abbrev pub numbers_over : Outcome Numbers → List ℕ → List ℕ
numbers_over (plan n) answer = put (nine n) 0 answer
numbers_over nothing answer = answer
numbers_over (refused n) answer = answer

-- an `answer` of fewer than nine numbers is refused with 27 before all else
abbrev pub with_nine : List ℕ → Outcome Plan → Outcome Plan
with_nine answer o = refused_or (unless (leb 9 (length answer)) 27) o

-- an answer told: the byte, and every number of `answer`
pub record Told (o : Outcome Numbers) (r : ℕ) (answer answer' : List ℕ) : Type 0 where
  pub byte : r ≡ code o
  pub numbers : answer' ≡ numbers_over o answer

-- an export on a file does what its definition says: the byte, and every number of `answer` and of the outputs
pub record ExportedWith (file : ℕ) (o : Outcome Plan) (r : ℕ) (answer answer' : List ℕ) (before after : Outs) : Type 0 where
  pub told : Told (told o) r answer answer'
  pub outputs : after ≡ left file o before

-- what an export ensures of a definition from the rooms
abbrev pub Exported : (file : ℕ) → (Rooms → Outcome Plan) → ℕ → Slice → Both Outs Outs → Type 0
Exported file definition r answer o = ExportedWith file (with_nine (old answer) (definition (rooms_of o.entry))) r (old answer) (new answer) o.entry o.exit

-- the outputs when an export is called and when it returns: six, or a clone's four
abbrev pub six : (edits shares unrefs releases adds writes : Slice) → Both Outs Outs
six e s u r a w = record { entry = outs (old e) (old s) (old u) (old r) (old a) (old w); exit = outs (new e) (new s) (new u) (new r) (new a) (new w) }

abbrev pub four : (edits shares unrefs releases : Slice) → Both Outs Outs
four e s u r = record { entry = outs (old e) (old s) (old u) (old r) [] []; exit = outs (new e) (new s) (new u) (new r) [] [] }

-- numbers as the structs that they stand for
abbrev pub volume : (sector total generation snapshot : ℕ) → Volume
volume sector total generation snapshot = record { sector = sector; total = total; generation = generation; snapshot = snapshot }

abbrev pub file : (number size : ℕ) → Bool → File
file number size nodatacow = record { number = number; size = size; nodatacow = nodatacow }

abbrev pub range : (offset length : ℕ) → Range
range offset length = record { offset = offset; length = length }

abbrev pub clone_range : (from to length : ℕ) → CloneRange
clone_range from to length = record { from = from; to = to; length = length }
