-- The operation that an input asks for (document 01, "extplan"), on the bytes and numbers that it was stored as.
use Rattle.std.specs.Prelude.{cond, List, ℕ, ◌*◌, ◌-◌, ◌≤◌, eqb, length, take, drop}
use Rattle.request.specs.declared.Range.{Range}
use Rattle.request.specs.Answers.{Outcome}
use Rattle.plan_def.specs.Plans.{Plan}
use Rattle.plan_def.specs.Outputs.{Rooms}
use Rattle.clone_span.specs.declared.CloneRange.{CloneRange}
use Rattle.punch_def.specs.Punch.{punch_lent}
use Rattle.fallocate_def.specs.Fallocate.{fallocate_lent}
use Rattle.clone_def.specs.Clone.{clone_lent}
use Rattle.read_order.specs.Taking.{Asked, Numbers}
use Rattle.read_order.specs.Numbers.{numbers}
use Rattle.read_order.specs.declared.Read.{Read}
use Rattle.read_order.specs.declared.Request.{Request}
use Rattle.read_order.specs.declared.Phase.TheVariants as Phases
use Rattle.read_store.specs.Buffers.{Buffers}

abbrev pub range_of : Asked → Range
range_of a = record { offset = a.from; length = a.length }

abbrev pub clone_range_of : Asked → CloneRange
clone_range_of a = record { from = a.from; to = a.to; length = a.length }

-- a request is 6 a punch, 7 a fallocate, 8 a clone
unfoldable pub operation : Numbers → (list shared source table places : List ℕ) → Rooms → Outcome Plan
operation r list shared source table places rooms =
    cond (eqb r.asked.kind 8) (clone_lent r.volume r.file r.second r.own (clone_range_of r.asked) list shared source table rooms)
    (cond (eqb r.asked.kind 7) (fallocate_lent r.volume r.file (range_of r.asked) r.asked.keep list shared table places rooms)
    (punch_lent r.volume r.file (range_of r.asked) list shared table places rooms))

-- the parts of the buffers that an input was stored in
abbrev pub list_in : Numbers → List ℕ → List ℕ
list_in r items = take (r.items * 70) items

abbrev pub source_in : Numbers → List ℕ → List ℕ
source_in r items = take (r.stored * 70 - r.items * 70) (drop (r.items * 70) items)

abbrev pub shared_in : Numbers → List ℕ → List ℕ
shared_in r shared = take r.items shared

abbrev pub table_in : Numbers → List ℕ → List ℕ
table_in r table = take (r.rows * 5) table

abbrev pub places_in : Numbers → List ℕ → List ℕ
places_in r places = take r.places places

-- they lie in them
pub record LieIn (r : Numbers) (b : Buffers) : Type 0 where
  pub few : r.items ≤ r.stored
  pub items : r.stored * 70 ≤ length b.items
  pub shared : r.items ≤ length b.shared
  pub table : r.rows * 5 ≤ length b.table
  pub places : r.places ≤ length b.places

abbrev pub operation_in : Numbers → Buffers → Rooms → Outcome Plan
operation_in r b rooms = operation r (list_in r b.items) (shared_in r b.shared) (source_in r b.items) (table_in r b.table) (places_in r b.places) rooms

-- what was read, with this request
abbrev pub asking : Read → Request → Numbers
asking r q = numbers (record r { phase = Phases.Request q })
