-- Computed examples: a text's lines, and what document 01's input says. Assumes nothing.
use mathlib.Core.Path.{◌≡◌, refl}
use mathlib.Core.Bool.{true, false}
use mathlib.Core.List.{List, [], ◌∷◌}
use Prim.Native.Nat.{ℕ}
use Prim.Native.String.{String}
use lib.Dec.{eqb}
use Rattle.table.specs.Rows.{row_of}
use Rattle.records.specs.Stages.{every}
use Rattle.read_field.specs.Decimal.{digits, value, plain}
use Rattle.read_field.specs.Words.{bytes, starts}
use Rattle.read_field.specs.Parts.{more, into, numbers}
use Rattle.read_field.specs.Fields.{fields}
use Rattle.read_line.specs.Forms.{read_by, read_line}
use Rattle.read_order.specs.Order.{next}
use Rattle.read_order.specs.Taking.{begin, taken_to, taken, fault, items_in, shared_in, rows_in, places_in}
use Rattle.read_order.specs.Run.{after, along, reading_of}
use Rattle.read_input.specs.Split.{onto, lines}
use Rattle.read_input.specs.Input.{read_input}

-- a text's lines
split : lines (1 ∷ 2 ∷ 10 ∷ 10 ∷ 3 ∷ []) ≡ (1 ∷ 2 ∷ []) ∷ [] ∷ (3 ∷ []) ∷ []
unfolding lines onto
split = refl

ended : lines (1 ∷ 2 ∷ 10 ∷ []) ≡ (1 ∷ 2 ∷ []) ∷ []
unfolding lines onto
ended = refl

-- document 01's input
abbrev shown : String
shown =
    "(volume (sector 4096) (total 1073741824) (generation 7) (snapshot 0))\n(file (number 257) (size 16384) (cow 1))\n(item (key 0) (kind 1) (extent 1048576 16384) (window 0 16384))\n(extent (at 1048576) (len 16384) (refs 1) (made 5) (keyed 0))\n(punch (from 4096) (len 4096))\n"

whole :
    read_input (bytes shown)
    ≡ record {
      numbers =
          record {
            phase = 8;
            line = 6;
            volume = record { sector = 4096; total = 1073741824; generation = 7; snapshot = 0 };
            file = record { number = 257; size = 16384; nodatacow = false };
            second = record { number = 0; size = 0; nodatacow = false };
            own = true;
            items = 1;
            stored = 1;
            rows = 1;
            places = 0;
            asked = record { kind = 6; from = 4096; to = 0; length = 4096; keep = false };
          };
      items =
          record {
            file = 257;
            key_type = 108;
            key = 0;
            generation = 0;
            ram = 0;
            compression = 0;
            encryption = 0;
            other = 0;
            kind = 1;
            extent_start = 1048576;
            extent_length = 16384;
            position = 0;
            length = 16384;
          }
          ∷ [];
      source = [];
      shared = 0 ∷ [];
      rows = record { start = 1048576; length = 16384; references = 1; made = 5; keyed = 0 } ∷ [];
      places = [];
    }
unfolding read_input lines onto read_line read_by fields numbers into more starts digits value plain reading_of after along begin taken taken_to next items_in shared_in rows_in places_in row_of
whole = refl

-- the line at fault
abbrev at-fault : String → ℕ
at-fault s = fault (read_input (bytes s)).numbers

abbrev cases : List (String × ℕ)
cases =
    ("", 1)
    ∷ ("\n", 1)
    ∷ ("(volume)\n(file)\n(punch)", 0)
    ∷ ("(volume)\n(file)\n(punch)\n", 0)
    ∷ ("(volume)\n(file)\n(punch)\n\n", 4)
    ∷ ("(volume)\n(file)\n", 3)
    ∷ ("(volume)\n(file)", 3)
    ∷ ("(volume)\n\n(file)\n(punch)\n", 2)
    ∷ ("(volume)\n(file)\n(place 1)\n(clone)\n", 4)
    ∷ ("(volume)\n(file)\n(file)\n(punch)\n", 4)
    ∷ ("(volume)\n(file)\n(file)\n(place 1)\n", 4)
    ∷ ("(volume)\n(file (cow 2))\n(punch)\n", 2)
    ∷ []

right : every (λ (c : String × ℕ). eqb (at-fault c.0) c.1) cases ≡ true
unfolding every fault read_input lines onto read_line read_by fields numbers into more starts digits value plain reading_of after along begin taken taken_to next items_in shared_in rows_in places_in
right = refl
