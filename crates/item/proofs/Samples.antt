-- Items for computed examples in this and other crates. Assumes nothing.
use Rattle.std.proofs.Common.{ℕ}
use Rattle.item.specs.Items.{Fields, regular_item, with_numbers}

-- a window of the extent at `start`, 16384 bytes long, made in generation 7
abbrev pub window_of : (file kind key start position length : ℕ) → Fields
window_of file kind key start position length = with_numbers (regular_item file key 7 start 16384) file key 7 kind position length

-- in file 257, of the extent at 1048576
abbrev pub sample : (kind key position length : ℕ) → Fields
sample kind key position length = window_of 257 kind key 1048576 position length
