-- For the code only: how much was read, at most. (No line is counted twice, so that a count never leaves its type.)
use Rattle.std.specs.Prelude.{ℕ, ◌≤◌}
use Rattle.read_order.specs.Taking.{Numbers}

pub record Few (r : Numbers) (n : ℕ) : Type 0 where
  pub line : r.line ≤ n
  pub items : r.items ≤ n
  pub stored : r.stored ≤ n
  pub rows : r.rows ≤ n
  pub places : r.places ≤ n
