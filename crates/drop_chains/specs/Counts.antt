-- For the code only: how many lines of drops there are.
use Rattle.std.specs.Prelude.{ℕ, ◌+◌, ◌<◌, ◌^◌}
use Rattle.drop_chains.specs.declared.DropCounts.{DropCounts}

-- with n lines more of either kind they still have 64 bits
abbrev pub Countable : DropCounts → ℕ → Type 0
Countable at n = (at.unrefs + n < 2 ^ 64) × (at.releases + n < 2 ^ 64)
