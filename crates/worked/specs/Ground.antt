-- What the worked examples P1 to P12 of document 01 ("Cards") start from: the volume, file, item and extent of its
-- section "extplan".
use Rattle.std.specs.Prelude.{true, false, List, [], ◌∷◌, ℕ}
use Rattle.item.specs.Items.{Fields}
use Rattle.table.specs.declared.Row.{Row}
use Rattle.request.specs.declared.Volume.{Volume}
use Rattle.request.specs.declared.File.{File}
use Rattle.request.specs.Answers.{Outcome}
use Rattle.plan_def.specs.Plans.{Plan}
use Rattle.plan_def.specs.Outputs.{Rooms}
use Rattle.punch_def.specs.Punch.{punch}
use Rattle.fallocate_def.specs.Fallocate.{fallocate}
use Rattle.clone_def.specs.Clone.{clone}

-- (volume (sector 4096) (total 1073741824) (generation 7) (snapshot 0))
abbrev pub volume : Volume
volume = record { sector = 4096; total = 1073741824; generation = 7; snapshot = 0 }

-- (file (number 257) (size 16384) (cow 1))
abbrev pub file_of : (size : ℕ) → File
file_of size = record { number = 257; size = size; nodatacow = false }

-- an item of file 257, with the fields that the paper's lines show; those not shown are 0
abbrev pub item : (key generation ram kind start length position window : ℕ) → Fields
item key generation ram kind start length position window =
    record {
      file = 257;
      key_type = 108;
      key = key;
      generation = generation;
      ram = ram;
      compression = 0;
      encryption = 0;
      other = 0;
      kind = kind;
      extent_start = start;
      extent_length = length;
      position = position;
      length = window;
    }

-- (item (key 0) (kind 1) (extent 1048576 16384) (window 0 16384)), and the same of kind 2
abbrev pub one_item : (kind : ℕ) → Fields
one_item kind = item 0 0 0 kind 1048576 16384 0 16384

-- (extent (at 1048576) (len 16384) (refs 1) (made 5) (keyed 0))
abbrev pub extent : (references : ℕ) → Row
extent references = record { start = 1048576; length = 16384; references = references; made = 5; keyed = 0 }

abbrev pub rooms : Rooms
rooms = record { edits = 710; shares = 20; unrefs = 20; releases = 20; adds = 30; writes = 40 }

-- a request on that file
abbrev pub punched : (kind offset length : ℕ) (places : List ℕ) → Outcome Plan
punched kind offset length places =
    punch volume (file_of 16384) (record { offset = offset; length = length }) (one_item kind ∷ []) (0 ∷ []) (extent 1 ∷ []) places rooms

abbrev pub allocated : (offset length : ℕ) (places : List ℕ) → Outcome Plan
allocated offset length places =
    fallocate volume (file_of 16384) (record { offset = offset; length = length }) false (one_item 1 ∷ []) (0 ∷ []) (extent 1 ∷ []) places rooms

-- cloned into itself
abbrev pub cloned : (size from to length : ℕ) → Outcome Plan
cloned size from to length =
    clone volume (file_of size) (file_of size) true (record { from = from; to = to; length = length }) (one_item 1 ∷ []) (0 ∷ []) [] (extent 1 ∷ []) rooms
