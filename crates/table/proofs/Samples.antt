-- The extent of the sample items (item/proofs/Samples). Assumes nothing.
use Prim.Native.Nat.{ℕ}
use Rattle.table.specs.declared.Row.{Row}

abbrev pub sample_row : (references : ℕ) → Row
sample_row references = record { start = 1048576; length = 16384; references = references; made = 5; keyed = 0 }
