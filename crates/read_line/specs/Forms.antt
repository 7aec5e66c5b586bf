-- A line of extplan's input (document 01, "extplan"): "a form a line".
use Rattle.std.specs.Prelude.{cond, List, [], ◌∷◌, ◌++◌, ℕ, ◌-◌, ◌^◌, length, drop, Option as Maybe, Some, None}
use Rattle.std.proofs.Math.Option.{Option, none, some}
use Prim.Native.String.{String}
use Rattle.read_field.specs.Words.{bytes, starts}
use Rattle.read_field.specs.Parts.{Part, Parser, next, word, numbers, end, filled}
use Rattle.read_field.specs.Fields.{Field, one, two, fields}
use Rattle.read_line.specs.declared.Form.{Form}
use Rattle.read_line.specs.declared.Kind.{Kind}
use Rattle.read_line.specs.declared.Kind.TheVariants.{Volume, File, Item, Extent, Place, Punch, Fallocate, Clone}

-- A line: its number among the shapes, its word, the limits of numbers that stand right behind the word, and its fields.
pub record Shape : Type 0 where
  pub kind : ℕ
  pub name : String
  pub limits : List ℕ
  pub fields : List Field

abbrev pub shape : ℕ → String → List ℕ → List Field → Shape
shape kind name limits fields = record { kind = kind; name = name; limits = limits; fields = fields }

-- the greatest u64; 65535 and 255 are those of u16 and u8; "`cow` and `keep` are 0 or 1"
abbrev pub most : ℕ
most = 2 ^ 64 - 1

-- The lines of the paper's example, and "other input lines", each with its fields in the paper's order. "`extent` is start
-- and length, `window` position and length"; "an item may add" the fields behind `window`.
abbrev pub shapes : List Shape
shapes =
    shape 1 "volume" [] (one "sector" most ∷ one "total" most ∷ one "generation" most ∷ one "snapshot" most ∷ [])
    ∷ shape 2 "file" [] (one "number" most ∷ one "size" most ∷ one "cow" 1 ∷ [])
    ∷ shape 3 "item" []
    (one "key" most ∷ one "kind" 255 ∷ two "extent" most ∷ two "window" most ∷ one "generation" most ∷ one "ram" most
    ∷ one "compression" 255 ∷ one "encryption" 255 ∷ one "other" 65535 ∷ one "shared" 255 ∷ [])
    ∷ shape 4 "extent" [] (one "at" most ∷ one "len" most ∷ one "refs" most ∷ one "made" most ∷ one "keyed" most ∷ [])
    ∷ shape 5 "place" (most ∷ []) []
    ∷ shape 6 "punch" [] (one "from" most ∷ one "len" most ∷ [])
    ∷ shape 7 "fallocate" [] (one "from" most ∷ one "len" most ∷ one "keep" 1 ∷ [])
    ∷ shape 8 "clone" [] (one "from" most ∷ one "to" most ∷ one "len" most ∷ [])
    ∷ []

-- "(" and a line's word
abbrev pub opening : String → List ℕ
opening name = bytes "(" ++ bytes name

-- what is behind the word of a line, to the line's end
abbrev pub whole_line : Shape → Parser
whole_line h = next (next (numbers h.limits) (fields h.fields)) (next (word (bytes ")")) end)

-- A line that was read: which shape it has, and its numbers, filled up with zeros to twelve. Kind 0 is an unreadable line.
pub record Line : Type 0 where
  pub kind : ℕ
  pub values : List ℕ

abbrev pub unreadable : Line
unreadable = record { kind = 0; values = filled [] }

abbrev pub line_of : ℕ → Option Part → Line
line_of kind none = unreadable
line_of kind (some p) = record { kind = kind; values = filled p.numbers }

-- the line's word says which shape it should have
unfoldable pub read_by : List Shape → List ℕ → Line
read_by [] s = unreadable
read_by (h ∷ hs) s = cond (starts (opening h.name) s) (line_of h.kind (whole_line h (drop (length (opening h.name)) s))) (read_by hs s)

unfoldable pub read_line : List ℕ → Line
read_line s = read_by shapes s

-- the kinds in code by these numbers, and a line that was read in code; None is an unreadable one
abbrev pub kind_number : Kind → ℕ
kind_number Volume = 1
kind_number File = 2
kind_number Item = 3
kind_number Extent = 4
kind_number Place = 5
kind_number Punch = 6
kind_number Fallocate = 7
kind_number Clone = 8

abbrev pub line_in : Maybe Form → Line
line_in None = unreadable
line_in (Some f) = record { kind = kind_number f.kind; values = f.values }
