-- For the code only: a list and a table are changed in place, record by record.
use Rattle.std.specs.Prelude.{List, ◌≡◌, ℕ, ◌*◌, ◌/◌, length, drop}

-- a buffer that was changed in whole records of width w alone: what is behind the last of them is as it was
pub record Same (w : ℕ) (before after : List ℕ) : Type 0 where
  pub long : length after ≡ length before
  pub rest : drop (length before / w * w) after ≡ drop (length before / w * w) before
