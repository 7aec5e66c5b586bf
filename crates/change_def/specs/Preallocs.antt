-- `prealloc_pieces` (fallocate.rs): "Each hole is laid in preallocated pieces of at most 268,435,456 bytes." The limit
-- is a parameter, at least 1.
use Rattle.std.specs.Prelude.{List, [], ◌∷◌, ℕ, zero, suc, ◌+◌, ◌-◌, ◌*◌, ◌/◌, min}

-- a stretch of a file
pub record Stretch : Type 0 where
  pub start : ℕ
  pub length : ℕ

-- how many bytes some have
unfoldable pub sum_of : List Stretch → ℕ
sum_of [] = 0
sum_of (s ∷ ss) = s.length + sum_of ss

abbrev pub piece_limit : ℕ
piece_limit = 268435456

-- how many pieces a hole of this length has
abbrev pub piece_count : (limit length : ℕ) → ℕ
piece_count limit length = (length + (limit - 1)) / limit

-- the nth piece of a hole, n from 0
abbrev pub nth_piece : (limit : ℕ) → Stretch → ℕ → Stretch
nth_piece limit hole n = record { start = hole.start + n * limit; length = min limit (hole.length - n * limit) }

-- k pieces from the nth on
unfoldable pub pieces_from : (limit : ℕ) → Stretch → (n k : ℕ) → List Stretch
pieces_from limit hole n zero = []
pieces_from limit hole n (suc k) = nth_piece limit hole n ∷ pieces_from limit hole (n + 1) k

abbrev pub prealloc_pieces : (limit : ℕ) → Stretch → List Stretch
prealloc_pieces limit hole = pieces_from limit hole 0 (piece_count limit hole.length)
