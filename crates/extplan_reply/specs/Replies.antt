-- What extplan answers to at most 65,536 bytes, line by line (document 01, "extplan").
use Rattle.std.specs.Prelude.{cond, ◌≡◌, ℕ, eqb, take, Result, Ok, Err}
use mathlib.Core.List.{List, [], ◌∷◌, flat_map}
use Rattle.table.specs.Rows.{row_numbers}
use Rattle.item.specs.Items.{encode}
use Rattle.request.specs.Answers.{Outcome, said}
use Rattle.plan_def.specs.Plans.{Plan}
use Rattle.plan_def.specs.Outputs.{Rooms, Outs}
use Rattle.plan_bounds.specs.Ample.{enough}
use Rattle.read_order.specs.Run.{Reading}
use Rattle.read_order.specs.Taking.{fault}
use Rattle.read_input.specs.Input.{read_input}
use Rattle.extplan_operate.specs.Operations.{operation}
use Rattle.print_line.specs.Lines.{fault_line}
use Rattle.print_answer.specs.Printed.{printed, shown, HoldsAnswer}
use Rattle.request.specs.Given.{Answer}

-- the operation on what was read; "Items under a second `file` line are the clone's source", and their `shared` is not
-- looked at
unfoldable pub operation_on : Reading → Rooms → Outcome Plan
operation_on x rooms =
    operation x.numbers (flat_map encode x.items) (take x.numbers.items x.shared) (flat_map encode x.source) (flat_map row_numbers x.rows) x.places rooms

-- "line N unreadable or out of this order gives `(line N)`, no request the next N"; else these lines
abbrev pub lines_or : ℕ → List (List ℕ) → List (List ℕ)
lines_or n ls = cond (eqb n 0) ls (fault_line n ∷ [])

-- with outputs that are long enough, as all longer ones are (`operation-same`, proofs/Operation): never 27 (`never_27`,
-- proofs/Never)
unfoldable pub answer_to : List ℕ → List (List ℕ)
answer_to input = lines_or (fault (read_input input).numbers) (printed (operation_on (read_input input) enough))

-- what a reply says, an answer or the line at fault, with a plan's lines in the outputs
abbrev pub reply_lines : Result Answer ℕ → Outs → List (List ℕ)
reply_lines (Ok a) o = shown a o
reply_lines (Err n) o = fault_line n ∷ []

abbrev pub HoldsReply : Result Answer ℕ → Outs → Type 0
HoldsReply (Ok a) o = HoldsAnswer (said a) o
HoldsReply (Err n) o = Unit {0}

-- a reply to an input, with its lines in the outputs
pub record Replied (input : List ℕ) (r : Result Answer ℕ) (o : Outs) : Type 0 where
  pub lines : reply_lines r o ≡ answer_to input
  pub holds : HoldsReply r o
