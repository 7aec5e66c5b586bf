-- The calls of demand 3: "calls that plan (punch, fallocate, clone) on one volume's files, refused ones, those with nothing
-- to do and those whose applying is refused included, each on the lists and table the last left, each plan applied before
-- the next". The sector stays; all else that is lent is free at each call.
use Rattle.std.specs.Prelude.{Bool, List, [], ◌∷◌, ◌++◌, ℕ, ◌+◌}
use Rattle.request.specs.declared.Volume.{Volume}
use Rattle.request.specs.declared.File.{File}
use Rattle.request.specs.declared.Range.{Range}
use Rattle.request.specs.Answers.{Outcome, plan, nothing, refused}
use Rattle.plan_def.specs.Plans.{Plan}
use Rattle.plan_def.specs.Outputs.{Rooms}
use Rattle.change_def.specs.Rounding.{round_down, round_up}
use Rattle.punch_def.specs.Punch.{punch}
use Rattle.fallocate_def.specs.Fallocate.{fallocate, end_sector, end_stop}
use Rattle.clone_span.specs.declared.CloneRange.{CloneRange}
use Rattle.clone_span.specs.Spans.{resolved}
use Rattle.clone_def.specs.Clone.{clone, chosen}
use Rattle.apply_def.specs.Apply.{Applying, applied, refusal, apply}
use Rattle.history_theorem.specs.States.{State, list_of, with_list}

-- what every call is lent beside the lists, the table and the sector
pub record Lent : Type 0 where
  pub number : ℕ
  pub size : ℕ
  pub nodatacow : Bool
  pub total : ℕ
  pub generation : ℕ
  pub snapshot : ℕ
  pub shared : List ℕ
  pub rooms : Rooms
  pub room_items : ℕ
  pub room_rows : ℕ

pub data Call : Type 0 where
  punching : Lent → (places : List ℕ) → Range → Call
  fallocating : Lent → (places : List ℕ) → Range → (keepSize : Bool) → Call
  cloning : Lent → (source : File) → (own : Bool) → CloneRange → Call

abbrev pub lent_of : Call → Lent
lent_of (punching l ps r) = l
lent_of (fallocating l ps r k) = l
lent_of (cloning l src own s) = l

abbrev pub volume_of : ℕ → Lent → Volume
volume_of sector l = record { sector = sector; total = l.total; generation = l.generation; snapshot = l.snapshot }

abbrev pub file_of : Lent → File
file_of l = record { number = l.number; size = l.size; nodatacow = l.nodatacow }

-- what the operation answers on a state
unfoldable pub answer_of : ℕ → State → Call → Outcome Plan
answer_of sector s (punching l ps r) = punch (volume_of sector l) (file_of l) r (list_of l.number s.files) l.shared s.rows ps l.rooms
answer_of sector s (fallocating l ps r k) = fallocate (volume_of sector l) (file_of l) r k (list_of l.number s.files) l.shared s.rows ps l.rooms
answer_of sector s (cloning l src own span) =
    clone (volume_of sector l) (file_of l) src own span (list_of l.number s.files) l.shared (list_of src.number s.files) s.rows l.rooms

-- offsets that a call may change: "the changed range is the request's, a clone's in the destination", widened to sectors;
-- "the old end's sector counts in a fallocate"
pub record Offsets : Type 0 where
  pub from : ℕ
  pub to : ℕ

abbrev pub changes : ℕ → Call → List Offsets
changes sector (punching l ps r) = record { from = round_down sector r.offset; to = round_up sector (r.offset + r.length) } ∷ []
changes sector (fallocating l ps r k) =
    record { from = round_down sector r.offset; to = round_up sector (r.offset + r.length) }
    ∷ record { from = end_sector l.size sector (r.offset + r.length); to = end_stop l.size sector (r.offset + r.length) }
    ∷ []
changes sector (cloning l src own s) =
    record { from = round_down sector s.to; to = round_up sector (s.to + resolved (chosen own (file_of l) src).size s.from s.length) } ∷ []

-- the offset that one outside these stretches showed before: "each plan applied has kept extent and position", so itself;
-- an operation that moves what it keeps has another
abbrev pub origin : Call → ℕ → ℕ
origin (punching l ps r) o = o
origin (fallocating l ps r k) o = o
origin (cloning l src own s) o = o

-- ---- a step, and a run with the plans that were applied

pub record Applied : Type 0 where
  pub call : Call
  pub plan : Plan
  pub before : State
  pub after : State

-- a plan applied, or the state as it was
abbrev pub after_applying : Lent → State → Applying → State
after_applying l s (applied is rs) = record { files = with_list l.number is s.files; rows = rs }
after_applying l s (refusal n) = s

abbrev pub applying : ℕ → State → Lent → Plan → Applying
applying sector s l p = apply sector l.number (l.generation + 1) l.room_items l.room_rows (list_of l.number s.files) s.rows p

abbrev pub trace_of : Call → State → Plan → Applying → List Applied
trace_of c s p (applied is rs) = record { call = c; plan = p; before = s; after = after_applying (lent_of c) s (applied is rs) } ∷ []
trace_of c s p (refusal n) = []

abbrev pub step_of : ℕ → State → Call → Outcome Plan → State
step_of sector s c (plan p) = after_applying (lent_of c) s (applying sector s (lent_of c) p)
step_of sector s c nothing = s
step_of sector s c (refused n) = s

abbrev pub step_trace : ℕ → State → Call → Outcome Plan → List Applied
step_trace sector s c (plan p) = trace_of c s p (applying sector s (lent_of c) p)
step_trace sector s c nothing = []
step_trace sector s c (refused n) = []

abbrev pub step : ℕ → State → Call → State
step sector s c = step_of sector s c (answer_of sector s c)

unfoldable pub run : ℕ → State → List Call → State
run sector s [] = s
run sector s (c ∷ cs) = run sector (step sector s c) cs

-- the plans that a run applied, in order
unfoldable pub trace : ℕ → State → List Call → List Applied
trace sector s [] = []
trace sector s (c ∷ cs) = step_trace sector s c (answer_of sector s c) ++ trace sector (step sector s c) cs
