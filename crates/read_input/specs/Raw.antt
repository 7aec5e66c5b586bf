-- For the code only: what the code's results say of a line, and of a whole input.
use Rattle.std.specs.Prelude.{List, ◌≡◌, ℕ, Option, Some, None, Result, Ok, Err}
use Rattle.read_order.specs.declared.Read.{Read}
use Rattle.read_order.specs.Numbers.{numbers, phase_number}
use Rattle.read_order.specs.Order.{next}
use Rattle.read_order.specs.Run.{Reading}
use Rattle.read_store.specs.Buffers.{Buffers}
use Rattle.read_store.specs.Storing.{Took, Filled, Stored}
use Rattle.read_input.specs.Input.{kind_of, values_of}

abbrev pub TakesLine : Read → List ℕ → Buffers → Option Read → Buffers → Type 0
TakesLine r l b None b' = (next (phase_number r.phase) (kind_of l) ≡ 0) × (b' ≡ b)
TakesLine r l b (Some t) b' = Took (numbers r) (kind_of l) (values_of l) b (numbers t) b'

-- all that was read; where a line is at fault, what was read before it, which the reading is but for its phase, 0
abbrev pub ReadsLines : Reading → Buffers → Result Read Read → Buffers → Type 0
ReadsLines x b (Ok r) b' = Stored x b (numbers r) b'
ReadsLines x b (Err r) b' = Stored x b (record (numbers r) { phase = 0 }) b'

abbrev pub ReadsIn : Reading → Buffers → Result Read ℕ → Buffers → Type 0
ReadsIn x b (Ok r) b' = Stored x b (numbers r) b'
ReadsIn x b (Err n) b' = (x.numbers.phase ≡ 0) × (x.numbers.line ≡ n) × Filled x b b'
