-- For the code only: what the code reads behind a line's word.
use Rattle.std.specs.Prelude.{cond, List, [], ◌∷◌, ℕ, drop, length, replicate, get_or}
use Rattle.read_field.specs.Words.{bytes, starts}
use Rattle.read_field.specs.Parts.{Parser, next, word, numbers, end}
use Rattle.read_field.specs.Raw.{fields_by}
use Rattle.read_line.specs.Forms.{Shape, Line, shape, shapes, most, line_of, unreadable, kind_number}
use Rattle.read_line.specs.declared.Shape.{Shape as Row}

-- row n of the table
abbrev pub shape_at : ℕ → Shape
shape_at n = get_or shapes n (shape 0 "" [] [])

-- a row of the table in code
abbrev pub whole_by : Row → Parser
whole_by h = next (next (numbers (replicate h.count most)) (fields_by h.fields.now)) (next (word (bytes ")")) end)

-- rows of the table in code, tried one behind another
unfoldable pub rows_by : List Row → List ℕ → Line
rows_by [] s = unreadable
rows_by (r ∷ rs) s = cond (starts r.opening.now s) (line_of (kind_number r.kind) (whole_by r (drop (length r.opening.now) s))) (rows_by rs s)
