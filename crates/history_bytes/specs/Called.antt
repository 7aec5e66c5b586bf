-- The calls of demand 3 as a caller of the code makes them: the operation, whose contract is `Met`, and applying, whose contract is
-- `MetApplying`, with nothing known of either but its contract.
use Rattle.std.specs.Prelude.{Some, None, Ok, Err, List, [], ◌∷◌, ◌≡◌, ℕ, ◌+◌, ◌*◌, ◌/◌, length, take}
use Rattle.request.specs.declared.Numbers.{Numbers}
use Rattle.request.specs.Given.{Answer}
use Rattle.plan_def.specs.Outputs.{Outs, rooms_of, MetWith}
use Rattle.apply_def.specs.Lent.{Parts, apply_lent}
use Rattle.apply.specs.Outcomes.{Applied, MetApplyingWith}
use Rattle.history_theorem.specs.Calls.{Call, Lent, lent_of}
use Rattle.history_bytes.specs.StoredState.{StoredState, Buffers, BytesCall, bytes_of, with_bytes, answer_from, list_lent, table_lent, Lendable}

-- the lines of a plan in the outputs, by the answer's counts
abbrev pub parts_by : Numbers → Outs → Parts
parts_by n o =
    record {
      edits = take (n.edits * 71) o.edits;
      shares = take (n.shares * 2) o.shares;
      unrefs = take (n.unrefs * 2) o.unrefs;
      releases = take (n.releases * 2) o.releases;
      adds = take (n.adds * 3) o.adds;
    }

-- what is stored after applying, by its answer's counts
abbrev pub stored_by : StoredState → Lent → Applied → (list table : List ℕ) → StoredState
stored_by s l (Ok z) list table = record { files = with_bytes l.number (take (z.items * 70) list) s.files; table = take (z.rows * 5) table }
stored_by s l (Err e) list table = s

-- applying a plan of so many lines in the outputs, on the list and the table with the room behind them: what it answers and leaves is
-- what its contract says, and t is stored then
pub record AppliedBy (sector : ℕ) (s : StoredState) (l : Lent) (b : Buffers) (n : Numbers) (o : Outs) (t : StoredState) : Type 0 where
  pub answer : Applied
  pub list : List ℕ
  pub table : List ℕ
  pub met :
      MetApplyingWith
      (apply_lent sector l.number (l.generation + 1) (length (bytes_of l.number s.files) / 70) (length s.table / 5) (list_lent sector s l b) (table_lent sector s l b) (parts_by n o))
      answer (list_lent sector s l b) list (table_lent sector s l b) table
  pub stored : t ≡ stored_by s l answer list table

-- what is done with an answer: a plan is applied; nothing to do, and a refusal, leave all as it was
abbrev pub DoneWith : ℕ → StoredState → Lent → Buffers → Outs → StoredState → Answer → Type 0
DoneWith sector s l b o t (Ok (Some n)) = AppliedBy sector s l b n o t
DoneWith sector s l b o t (Ok None) = t ≡ s
DoneWith sector s l b o t (Err e) = t ≡ s

-- one call: what the operation answers and leaves in its outputs is what its contract says (of a clone adds and writes are empty)
pub record Called (sector : ℕ) (s : StoredState) (c : Call) (b : Buffers) (t : StoredState) : Type 0 where
  pub lendable : Lendable s c b
  pub answer : Answer
  pub outputs : Outs
  pub met : MetWith (lent_of c).number (answer_from sector s c (rooms_of b.outputs)) answer b.outputs outputs
  pub done : DoneWith sector s (lent_of c) b outputs t answer

-- calls one behind the other, each on what the last left
abbrev pub AllCalled : ℕ → StoredState → List BytesCall → StoredState → Type 0
AllCalled sector s [] t = t ≡ s
AllCalled sector s (c ∷ cs) t = (m : StoredState) × Called sector s c.call c.buffers m × AllCalled sector m cs t
