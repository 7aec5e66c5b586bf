-- What the whole input of extplan says (document 01, "extplan").
use Rattle.std.specs.Prelude.{List, ℕ}
use Rattle.read_line.specs.Forms.{read_line}
use Rattle.read_order.specs.Run.{Reading, reading_of}
use Rattle.read_input.specs.Split.{lines}

-- a line's kind and its numbers
abbrev pub kind_of : List ℕ → ℕ
kind_of l = (read_line l).kind

abbrev pub values_of : List ℕ → List ℕ
values_of l = (read_line l).values

unfoldable pub read_input : List ℕ → Reading
read_input s = reading_of kind_of values_of (lines s)
