-- For the code only: a line of at most 256 bytes, and what is added to it.
use Rattle.std.specs.Prelude.{List, ◌++◌, ℕ, take}

-- what no longer fits is dropped
unfoldable pub added : List ℕ → List ℕ → List ℕ
added line text = take 256 (line ++ text)
