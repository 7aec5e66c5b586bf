-- For the code only: what a line of the input leaves in the buffers that hold items, shared bytes, rows and places.
use Rattle.std.specs.Prelude.{List, [], ◌∷◌, ◌++◌, ◌≡◌, ℕ, Option, Some, None}
use Rattle.table.specs.Rows.{row_numbers}
use Rattle.item.specs.Items.{encode}
use Rattle.plan_lines.specs.Lines.{lay}
use Rattle.read_item.specs.Raw.{byte}
use Rattle.read_line.specs.declared.Form.{Form}
use Rattle.read_line.specs.Forms.{kind_number}
use Rattle.read_order.specs.declared.Read.{Read}
use Rattle.read_order.specs.Numbers.{numbers, phase_number}
use Rattle.read_order.specs.Order.{next}
use Rattle.read_order.specs.Run.{Reading}
use Rattle.read_order.specs.Taking.{Numbers, taken, items_in, shared_in, rows_in, places_in}
use Rattle.read_store.specs.Buffers.{Buffers}

-- a place as its number
abbrev pub alone : ℕ → List ℕ
alone v = v ∷ []

-- what a line adds stands behind what was stored before it
pub record Kept (r : Numbers) (kind : ℕ) (v : List ℕ) (b b' : Buffers) : Type 0 where
  pub items : b'.items ≡ lay encode 70 r.stored (items_in r kind v) b.items
  pub shared : b'.shared ≡ lay byte 1 r.stored (shared_in r kind v) b.shared
  pub table : b'.table ≡ lay row_numbers 5 r.rows (rows_in r kind v) b.table
  pub places : b'.places ≡ lay alone 1 r.places (places_in r kind v) b.places

-- one line is taken
pub record Took (r : Numbers) (kind : ℕ) (v : List ℕ) (b : Buffers) (r' : Numbers) (b' : Buffers) : Type 0 where
  pub numbers : r' ≡ taken r kind v
  pub kept : Kept r kind v b b'

-- the same in code; None: no right input goes on with it, and the buffers are as they were
abbrev pub TakesIn : Read → Form → Buffers → Option Read → Buffers → Type 0
TakesIn r f b None b' = (next (phase_number r.phase) (kind_number f.kind) ≡ 0) × (b' ≡ b)
TakesIn r f b (Some t) b' = Took (numbers r) (kind_number f.kind) f.values b (numbers t) b'

-- the lists of a reading stored, from the buffers' start: the items of the file, then those of the source
pub record Filled (x : Reading) (b b' : Buffers) : Type 0 where
  pub items : b'.items ≡ lay encode 70 0 (x.items ++ x.source) b.items
  pub shared : b'.shared ≡ lay byte 1 0 x.shared b.shared
  pub table : b'.table ≡ lay row_numbers 5 0 x.rows b.table
  pub places : b'.places ≡ lay alone 1 0 x.places b.places

-- all of a reading
pub record Stored (x : Reading) (b : Buffers) (r : Numbers) (b' : Buffers) : Type 0 where
  pub numbers : r ≡ x.numbers
  pub filled : Filled x b b'
