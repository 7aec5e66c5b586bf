-- Offsets and sectors.
use Rattle.std.specs.Prelude.{ℕ, ◌+◌, ◌-◌, ◌*◌, ◌/◌}

-- the start of the sector that holds x, and the first sector start at or past x
abbrev pub round_down : (sector x : ℕ) → ℕ
round_down sector x = x / sector * sector

abbrev pub round_up : (sector x : ℕ) → ℕ
round_up sector x = (x + (sector - 1)) / sector * sector
