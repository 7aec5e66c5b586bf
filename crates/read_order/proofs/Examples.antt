-- Computed examples: which line is at fault, and what a whole input says. Assumes nothing.
use mathlib.Core.Path.{◌≡◌, refl}
use mathlib.Core.Bool.{true, false}
use mathlib.Core.List.{List, [], ◌∷◌}
use Prim.Native.Nat.{ℕ}
use lib.Dec.{eqb}
use lib.ListN.{get_or, drop}
use Rattle.table.specs.Rows.{row_of}
use Rattle.records.specs.Stages.{every}
use Rattle.read_order.specs.Order.{next}
use Rattle.read_order.specs.Taking.{begin, taken_to, taken, fault, item_of, items_in, shared_in, rows_in, places_in}
use Rattle.read_order.specs.Run.{Reading, after, along, reading_of}

-- ---- the line at fault, by the lines' kinds: 0 unreadable, 1 volume, 2 file, 3 item, 4 extent, 5 place, 6 punch,
-- 7 fallocate, 8 clone

abbrev at-fault : List ℕ → ℕ
at-fault kinds = fault (after (λ (k : ℕ). k) (λ (k : ℕ). []) begin kinds)

-- the kinds of an input's lines, and the number of the line at fault; 0: none
abbrev cases : List (List ℕ × ℕ)
cases =
    ([], 1)
    ∷ (1 ∷ [], 2)
    ∷ (1 ∷ 2 ∷ [], 3)
    ∷ (1 ∷ 2 ∷ 3 ∷ 4 ∷ 5 ∷ [], 6)
    ∷ (1 ∷ 2 ∷ 6 ∷ [], 0)
    ∷ (1 ∷ 2 ∷ 7 ∷ [], 0)
    ∷ (1 ∷ 2 ∷ 8 ∷ [], 0)
    ∷ (1 ∷ 2 ∷ 3 ∷ 3 ∷ 4 ∷ 4 ∷ 5 ∷ 5 ∷ 6 ∷ [], 0)
    ∷ (1 ∷ 2 ∷ 3 ∷ 4 ∷ 5 ∷ 7 ∷ [], 0)
    ∷ (1 ∷ 2 ∷ 3 ∷ 4 ∷ 8 ∷ [], 0)
    ∷ (1 ∷ 2 ∷ 3 ∷ 8 ∷ [], 0)
    ∷ (1 ∷ 2 ∷ 5 ∷ 6 ∷ [], 0)
    ∷ (1 ∷ 2 ∷ 4 ∷ 7 ∷ [], 0)
    ∷ (1 ∷ 2 ∷ 3 ∷ 2 ∷ 3 ∷ 3 ∷ 4 ∷ 4 ∷ 8 ∷ [], 0)
    ∷ (1 ∷ 2 ∷ 2 ∷ 8 ∷ [], 0)
    ∷ (0 ∷ 2 ∷ 6 ∷ [], 1)
    ∷ (2 ∷ 1 ∷ 6 ∷ [], 1)
    ∷ (1 ∷ 1 ∷ [], 2)
    ∷ (1 ∷ 6 ∷ [], 2)
    ∷ (1 ∷ 2 ∷ 1 ∷ 6 ∷ [], 3)
    ∷ (1 ∷ 2 ∷ 0 ∷ 6 ∷ [], 3)
    ∷ (1 ∷ 2 ∷ 9 ∷ 6 ∷ [], 3)
    ∷ (1 ∷ 2 ∷ 4 ∷ 3 ∷ 6 ∷ [], 4)
    ∷ (1 ∷ 2 ∷ 4 ∷ 2 ∷ 8 ∷ [], 4)
    ∷ (1 ∷ 2 ∷ 5 ∷ 3 ∷ 6 ∷ [], 4)
    ∷ (1 ∷ 2 ∷ 5 ∷ 4 ∷ 6 ∷ [], 4)
    ∷ (1 ∷ 2 ∷ 5 ∷ 8 ∷ [], 4)
    ∷ (1 ∷ 2 ∷ 2 ∷ 2 ∷ 8 ∷ [], 4)
    ∷ (1 ∷ 2 ∷ 2 ∷ 5 ∷ 8 ∷ [], 4)
    ∷ (1 ∷ 2 ∷ 2 ∷ 6 ∷ [], 4)
    ∷ (1 ∷ 2 ∷ 2 ∷ 7 ∷ [], 4)
    ∷ (1 ∷ 2 ∷ 2 ∷ 4 ∷ 3 ∷ 8 ∷ [], 5)
    ∷ (1 ∷ 2 ∷ 2 ∷ 4 ∷ 5 ∷ 8 ∷ [], 5)
    ∷ (1 ∷ 2 ∷ 2 ∷ 4 ∷ 6 ∷ [], 5)
    ∷ (1 ∷ 2 ∷ 2 ∷ 4 ∷ 7 ∷ [], 5)
    ∷ (1 ∷ 2 ∷ 6 ∷ 6 ∷ [], 4)
    ∷ (1 ∷ 2 ∷ 8 ∷ 0 ∷ 0 ∷ [], 4)
    ∷ []

right : every (λ (c : List ℕ × ℕ). eqb (at-fault c.0) c.1) cases ≡ true
unfolding every fault after begin taken taken_to next
right = refl

-- ---- what an input says, each line as its kind and its numbers

abbrev reads : List (List ℕ) → Reading
reads ls = reading_of (λ (l : List ℕ). get_or l 0 0) (λ (l : List ℕ). drop 1 l) ls

abbrev item : ℕ → List ℕ
item n = 3 ∷ n ∷ 1 ∷ 2 ∷ 3 ∷ 4 ∷ 5 ∷ 6 ∷ 7 ∷ 8 ∷ 9 ∷ 10 ∷ n ∷ []

abbrev volume : List ℕ
volume = 1 ∷ 4096 ∷ 100 ∷ 7 ∷ 5 ∷ []

-- a clone of another file
clone :
    reads (volume ∷ (2 ∷ 257 ∷ 16 ∷ 0 ∷ []) ∷ item 0 ∷ item 1 ∷ (2 ∷ 258 ∷ 32 ∷ 1 ∷ []) ∷ item 2 ∷ (4 ∷ 11 ∷ 12 ∷ 13 ∷ 14 ∷ 15 ∷ []) ∷ (8 ∷ 21 ∷ 22 ∷ 23 ∷ []) ∷ [])
    ≡ record {
      numbers =
          record {
            phase = 8;
            line = 9;
            volume = record { sector = 4096; total = 100; generation = 7; snapshot = 5 };
            file = record { number = 257; size = 16; nodatacow = true };
            second = record { number = 258; size = 32; nodatacow = false };
            own = false;
            items = 2;
            stored = 3;
            rows = 1;
            places = 0;
            asked = record { kind = 8; from = 21; to = 22; length = 23; keep = false };
          };
      items = item_of 257 (drop 1 (item 0)) ∷ item_of 257 (drop 1 (item 1)) ∷ [];
      source = item_of 258 (drop 1 (item 2)) ∷ [];
      shared = 0 ∷ 1 ∷ 2 ∷ [];
      rows = record { start = 11; length = 12; references = 13; made = 14; keyed = 15 } ∷ [];
      places = [];
    }
unfolding reading_of after along begin taken taken_to next items_in shared_in rows_in places_in row_of
clone = refl

-- a fallocate with two places, which keeps the size
fallocate :
    reads (volume ∷ (2 ∷ 257 ∷ 16 ∷ 1 ∷ []) ∷ (5 ∷ 31 ∷ []) ∷ (5 ∷ 32 ∷ []) ∷ (7 ∷ 41 ∷ 42 ∷ 1 ∷ []) ∷ [])
    ≡ record {
      numbers =
          record {
            phase = 8;
            line = 6;
            volume = record { sector = 4096; total = 100; generation = 7; snapshot = 5 };
            file = record { number = 257; size = 16; nodatacow = false };
            second = record { number = 0; size = 0; nodatacow = false };
            own = true;
            items = 0;
            stored = 0;
            rows = 0;
            places = 2;
            asked = record { kind = 7; from = 41; to = 0; length = 42; keep = true };
          };
      items = [];
      source = [];
      shared = [];
      rows = [];
      places = 31 ∷ 32 ∷ [];
    }
unfolding reading_of after along begin taken taken_to next items_in shared_in rows_in places_in
fallocate = refl

-- an item's numbers go to their fields
fields :
    item_of 257 (drop 1 (item 0))
    ≡ record {
      file = 257;
      key_type = 108;
      key = 0;
      generation = 6;
      ram = 7;
      compression = 8;
      encryption = 9;
      other = 10;
      kind = 1;
      extent_start = 2;
      extent_length = 3;
      position = 4;
      length = 5;
    }
fields = refl
