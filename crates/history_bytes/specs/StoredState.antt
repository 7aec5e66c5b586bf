-- The calls of demand 3 on bytes: a volume's lists and table as the bytes and numbers that are lent, and what the contracts of
-- the three operations and of applying say of them, one behind the other (`punch_lent`, `fallocate_lent`, `clone_lent`,
-- `apply_lent`).
use Rattle.std.specs.Prelude.{cond, List, [], ◌∷◌, ◌++◌, map, ◌≡◌, ℕ, ◌+◌, ◌*◌, ◌/◌, ◌%◌, ◌<◌, ◌^◌, eqb, length, take}
use Rattle.endian.specs.Le.{Bytes}
use Rattle.item.specs.Items.{items}
use Rattle.table.specs.Rows.{rows}
use Rattle.request.specs.Answers.{Outcome, plan, nothing, refused}
use Rattle.plan_def.specs.Plans.{Plan}
use Rattle.plan_def.specs.Outputs.{Rooms, Outs, rooms_of, left}
use Rattle.punch_def.specs.Punch.{punch_lent}
use Rattle.fallocate_def.specs.Fallocate.{fallocate_lent}
use Rattle.clone_def.specs.Clone.{clone_lent}
use Rattle.apply_def.specs.Apply.{Applying, applied, refusal}
use Rattle.apply_def.specs.Lent.{Parts, apply_lent}
use Rattle.apply.specs.Outcomes.{list_left, table_left}
use Rattle.history_theorem.specs.States.{FileList, State}
use Rattle.history_theorem.specs.Calls.{Call, Lent, Applied, punching, fallocating, cloning, lent_of, volume_of, file_of, run, trace}
use Rattle.history_theorem.specs.Claims.{Demand3}

-- ---- what is stored

pub record FileBytes : Type 0 where
  pub number : ℕ
  pub bytes : List ℕ

pub record StoredState : Type 0 where
  pub files : List FileBytes
  pub table : List ℕ

-- a file's list; a number that is not there reads as empty
unfoldable pub bytes_of : ℕ → List FileBytes → List ℕ
bytes_of n [] = []
bytes_of n (f ∷ fs) = cond (eqb f.number n) f.bytes (bytes_of n fs)

-- with another list for a file, which joins if it was not there
unfoldable pub with_bytes : ℕ → List ℕ → List FileBytes → List FileBytes
with_bytes n b [] = record { number = n; bytes = b } ∷ []
with_bytes n b (f ∷ fs) = cond (eqb f.number n) (record { number = f.number; bytes = b } ∷ fs) (f ∷ with_bytes n b fs)

-- what it decodes to: a state of demand 3
abbrev pub read_file : FileBytes → FileList
read_file f = record { number = f.number; items = items f.bytes }

abbrev pub read_state : StoredState → State
read_state s = record { files = map read_file s.files; rows = rows s.table }

-- ---- a call

-- what it is lent beside: six outputs, and room behind the file's list and behind the table
pub record Buffers : Type 0 where
  pub outputs : Outs
  pub behind_list : List ℕ
  pub behind_table : List ℕ

unfoldable pub answer_from : ℕ → StoredState → Call → Rooms → Outcome Plan
answer_from sector s (punching l ps r) rooms = punch_lent (volume_of sector l) (file_of l) r (bytes_of l.number s.files) l.shared s.table ps rooms
answer_from sector s (fallocating l ps r k) rooms = fallocate_lent (volume_of sector l) (file_of l) r k (bytes_of l.number s.files) l.shared s.table ps rooms
answer_from sector s (cloning l src own span) rooms =
    clone_lent (volume_of sector l) (file_of l) src own span (bytes_of l.number s.files) l.shared (bytes_of src.number s.files) s.table rooms

abbrev pub answer_lent : ℕ → StoredState → Call → Outcome Plan
answer_lent sector s c = answer_from sector s c (lent_of c).rooms

-- the lines of a plan in the outputs, without what is behind them: what is lent to applying
abbrev pub filled : Plan → Outs → Parts
filled p o =
    record {
      edits = take (length p.edits * 71) o.edits;
      shares = take (length p.shares * 2) o.shares;
      unrefs = take (length p.unrefs * 2) o.unrefs;
      releases = take (length p.releases * 2) o.releases;
      adds = take (length p.adds * 3) o.adds;
    }

module _ (sector : ℕ) (s : StoredState) (l : Lent) (b : Buffers) where
  abbrev pub list_lent : List ℕ
  list_lent = bytes_of l.number s.files ++ b.behind_list

  abbrev pub table_lent : List ℕ
  table_lent = s.table ++ b.behind_table

  abbrev pub applying_lent : Plan → Applying
  applying_lent p =
      apply_lent sector l.number (l.generation + 1) (length (bytes_of l.number s.files) / 70) (length s.table / 5) list_lent table_lent
      (filled p (left l.number (plan p) b.outputs))

  -- the list and the table as applying leaves them, without what is behind them
  abbrev pub stored_after : Applying → StoredState
  stored_after (applied is rs) =
      record {
        files = with_bytes l.number (take (length is * 70) (list_left (applied is rs) list_lent)) s.files;
        table = take (length rs * 5) (table_left (applied is rs) table_lent);
      }
  stored_after (refusal n) = s

-- a step: the operation, and its plan applied
abbrev pub step_lent_of : ℕ → StoredState → Call → Buffers → Outcome Plan → StoredState
step_lent_of sector s c b (plan p) = stored_after sector s (lent_of c) b (applying_lent sector s (lent_of c) b p)
step_lent_of sector s c b nothing = s
step_lent_of sector s c b (refused n) = s

abbrev pub step_lent : ℕ → StoredState → Call → Buffers → StoredState
step_lent sector s c b = step_lent_of sector s c b (answer_lent sector s c)

-- the plans that a run applied, in order, each with what was stored before and after it
pub record AppliedLent : Type 0 where
  pub call : Call
  pub plan : Plan
  pub before : StoredState
  pub after : StoredState

abbrev pub read_applied : AppliedLent → Applied
read_applied a = record { call = a.call; plan = a.plan; before = read_state a.before; after = read_state a.after }

abbrev pub trace_lent_of : ℕ → StoredState → Call → Buffers → Plan → Applying → List AppliedLent
trace_lent_of sector s c b p (applied is rs) = record { call = c; plan = p; before = s; after = stored_after sector s (lent_of c) b (applied is rs) } ∷ []
trace_lent_of sector s c b p (refusal n) = []

abbrev pub step_trace_lent : ℕ → StoredState → Call → Buffers → Outcome Plan → List AppliedLent
step_trace_lent sector s c b (plan p) = trace_lent_of sector s c b p (applying_lent sector s (lent_of c) b p)
step_trace_lent sector s c b nothing = []
step_trace_lent sector s c b (refused n) = []

-- ---- what a machine lends

-- a list of whole records, of bytes
abbrev pub WholeFiles : List FileBytes → Type 0
WholeFiles [] = Unit {0}
WholeFiles (f ∷ fs) = (length f.bytes % 70 ≡ 0) × Bytes f.bytes × WholeFiles fs

pub record Whole (s : StoredState) : Type 0 where
  pub lists : WholeFiles s.files
  pub rows : length s.table % 5 ≡ 0

-- the call's rooms are those of the buffers, and its numbers have 64 bits
pub record Lendable (s : StoredState) (c : Call) (b : Buffers) : Type 0 where
  pub outputs : (lent_of c).rooms ≡ rooms_of b.outputs
  pub items : (lent_of c).room_items ≡ length (bytes_of (lent_of c).number s.files ++ b.behind_list) / 70
  pub rows : (lent_of c).room_rows ≡ length (s.table ++ b.behind_table) / 5
  pub number : (lent_of c).number < 2 ^ 64
  pub generation : (lent_of c).generation < 2 ^ 64

-- ---- a run

pub record BytesCall : Type 0 where
  pub call : Call
  pub buffers : Buffers

abbrev pub calls_of : List BytesCall → List Call
calls_of cs = map (λ (c : BytesCall). c.call) cs

unfoldable pub run_lent : ℕ → StoredState → List BytesCall → StoredState
run_lent sector s [] = s
run_lent sector s (c ∷ cs) = run_lent sector (step_lent sector s c.call c.buffers) cs

unfoldable pub trace_lent : ℕ → StoredState → List BytesCall → List AppliedLent
trace_lent sector s [] = []
trace_lent sector s (c ∷ cs) =
    step_trace_lent sector s c.call c.buffers (answer_lent sector s c.call) ++ trace_lent sector (step_lent sector s c.call c.buffers) cs

-- each call can be lent where it is made
abbrev pub AllLendable : ℕ → StoredState → List BytesCall → Type 0
AllLendable sector s [] = Unit {0}
AllLendable sector s (c ∷ cs) = Lendable s c.call c.buffers × AllLendable sector (step_lent sector s c.call c.buffers) cs

-- demand 3 of the bytes: the claim of what they decode to; what the run leaves decodes to what that run leaves, and the plans that
-- it applied, in order, are those of which the claim speaks
pub record OfBytes (sector : ℕ) (s : StoredState) (cs : List BytesCall) : Type 0 where
  pub claim : Demand3 sector (read_state s) (calls_of cs)
  pub state : read_state (run_lent sector s cs) ≡ run sector (read_state s) (calls_of cs)
  pub plans : map read_applied (trace_lent sector s cs) ≡ trace sector (read_state s) (calls_of cs)
