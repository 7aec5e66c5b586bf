-- What one line of an input adds to what was read before it (document 01, "extplan").
use Rattle.std.specs.Prelude.{Bool, true, false, cond, ◌&&◌, not, List, ℕ, ◌+◌, eqb, get_or}
use Rattle.records.specs.Select.{only}
use Rattle.item.specs.Items.{Fields}
use Rattle.table.specs.declared.Row.{Row}
use Rattle.table.specs.Rows.{row_of}
use Rattle.request.specs.declared.Volume.{Volume}
use Rattle.request.specs.declared.File.{File}
use Rattle.read_order.specs.Order.{next}

-- ---- what was read

-- What is asked for: 6 a punch, 7 a fallocate, 8 a clone, with its numbers; 0: nothing yet.
pub record Asked : Type 0 where
  pub kind : ℕ
  pub from : ℕ
  pub to : ℕ
  pub length : ℕ
  pub keep : Bool

-- How far the input has come (`Order`), the number of the next line (or of the one at fault), the volume and the files,
-- whether the file is its own source, how many items of the file, item lines, rows and places there were, and the request.
pub record Numbers : Type 0 where
  pub phase : ℕ
  pub line : ℕ
  pub volume : Volume
  pub file : File
  pub second : File
  pub own : Bool
  pub items : ℕ
  pub stored : ℕ
  pub rows : ℕ
  pub places : ℕ
  pub asked : Asked

-- ---- a line's numbers, by its kind

-- "(volume (sector 4096) (total 1073741824) (generation 7) (snapshot 0))"
abbrev pub volume_of : List ℕ → Volume
volume_of v = record { sector = get_or v 0 0; total = get_or v 1 0; generation = get_or v 2 0; snapshot = get_or v 3 0 }

-- "(file (number 257) (size 16384) (cow 1))"; "`cow` 0 being nodatacow"
abbrev pub file_of : List ℕ → File
file_of v = record { number = get_or v 0 0; size = get_or v 1 0; nodatacow = eqb (get_or v 2 0) 0 }

-- "(item (key 0) (kind 1) (extent 1048576 16384) (window 0 16384))", and then generation, ram, compression, encryption
-- and other; of a file with that number
abbrev pub item_of : ℕ → List ℕ → Fields
item_of number v =
    record {
      file = number;
      key_type = 108;
      key = get_or v 0 0;
      generation = get_or v 6 0;
      ram = get_or v 7 0;
      compression = get_or v 8 0;
      encryption = get_or v 9 0;
      other = get_or v 10 0;
      kind = get_or v 1 0;
      extent_start = get_or v 2 0;
      extent_length = get_or v 3 0;
      position = get_or v 4 0;
      length = get_or v 5 0;
    }

-- an item's last number: "An item may add .. `shared`"
abbrev pub shared_of : List ℕ → ℕ
shared_of v = get_or v 11 0

-- "(place N)"
abbrev pub place_of : List ℕ → ℕ
place_of v = get_or v 0 0

-- "(punch (from 4096) (len 4096))", "(fallocate (from N) (len N) (keep 0))", "(clone (from N) (to N) (len N))"
abbrev pub asked_of : ℕ → List ℕ → Asked
asked_of kind v =
    record {
      kind = kind;
      from = get_or v 0 0;
      to = cond (eqb kind 8) (get_or v 1 0) 0;
      length = cond (eqb kind 8) (get_or v 2 0) (get_or v 1 0);
      keep = eqb kind 7 && eqb (get_or v 2 0) 1;
    }

-- ---- before the first line

abbrev pub no_request : Asked
no_request = record { kind = 0; from = 0; to = 0; length = 0; keep = false }

abbrev pub no_file : File
no_file = record { number = 0; size = 0; nodatacow = false }

unfoldable pub begin : Numbers
begin =
    record {
      phase = 1;
      line = 1;
      volume = record { sector = 0; total = 0; generation = 0; snapshot = 0 };
      file = no_file;
      second = no_file;
      own = true;
      items = 0;
      stored = 0;
      rows = 0;
      places = 0;
      asked = no_request;
    }

-- ---- one line

-- a line of the kind wanted, in order: `phase` is what is read after it
abbrev pub comes : (wanted phase kind : ℕ) → Bool
comes wanted phase kind = eqb kind wanted && not (eqb phase 0)

-- what is read after a line, where `phase` says what that is: a line at fault is not counted and changes nothing else,
-- nor does any line behind it. "Items under a second `file` line are the clone's source; without one the file is its own."
unfoldable pub taken_to : Numbers → (phase kind : ℕ) → List ℕ → Numbers
taken_to r phase kind v =
    record {
      phase = phase;
      line = r.line + cond (not (eqb phase 0)) 1 0;
      volume = cond (eqb phase 2) (volume_of v) r.volume;
      file = cond (eqb kind 2 && eqb phase 3) (file_of v) r.file;
      second = cond (eqb kind 2 && eqb phase 4) (file_of v) r.second;
      own = r.own && not (eqb phase 4);
      items = r.items + cond (eqb kind 3 && eqb phase 3) 1 0;
      stored = r.stored + cond (comes 3 phase kind) 1 0;
      rows = r.rows + cond (comes 4 phase kind) 1 0;
      places = r.places + cond (comes 5 phase kind) 1 0;
      asked = cond (eqb phase 8) (asked_of kind v) r.asked;
    }

unfoldable pub taken : Numbers → (kind : ℕ) → List ℕ → Numbers
taken r kind v = taken_to r (next r.phase kind) kind v

-- "line N unreadable or out of this order gives `(line N)`, no request the next N"; 0: none
unfoldable pub fault : Numbers → ℕ
fault r = cond (eqb r.phase 8) 0 r.line

-- ---- what a line adds to the lists: one or nothing

-- the file that an item belongs to
abbrev pub holder : Numbers → (phase : ℕ) → ℕ
holder r phase = cond (eqb phase 3) r.file.number r.second.number

unfoldable pub items_in : Numbers → (kind : ℕ) → List ℕ → List Fields
items_in r kind v = only (comes 3 (next r.phase kind) kind) (item_of (holder r (next r.phase kind)) v)

unfoldable pub shared_in : Numbers → (kind : ℕ) → List ℕ → List ℕ
shared_in r kind v = only (comes 3 (next r.phase kind) kind) (shared_of v)

-- "(extent (at 1048576) (len 16384) (refs 1) (made 5) (keyed 0))": a row's five numbers, in its order
unfoldable pub rows_in : Numbers → (kind : ℕ) → List ℕ → List Row
rows_in r kind v = only (comes 4 (next r.phase kind) kind) (row_of v)

unfoldable pub places_in : Numbers → (kind : ℕ) → List ℕ → List ℕ
places_in r kind v = only (comes 5 (next r.phase kind) kind) (place_of v)
