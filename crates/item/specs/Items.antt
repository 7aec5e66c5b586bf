-- An item: its key and its 53 data bytes as thirteen numbers, and a list as its items (document 01, "What a call is lent").
use Rattle.std.specs.Prelude.{ℕ, ◌+◌, ◌-◌, ◌%◌, ◌^◌, ◌<◌, Bool, ◌||◌, List, ◌++◌, take, drop, ◌==◌}
use Rattle.endian.specs.Le.{num, enc, room}
use Rattle.records.specs.Records.{records}
use Rattle.item.specs.declared.Item.{Item}

-- the thirteen numbers of an item, in the order of its bytes
pub record Fields : Type 0 where
  pub file : ℕ
  pub key_type : ℕ
  pub key : ℕ
  pub generation : ℕ
  pub ram : ℕ
  pub compression : ℕ
  pub encryption : ℕ
  pub other : ℕ
  pub kind : ℕ
  pub extent_start : ℕ
  pub extent_length : ℕ
  pub position : ℕ
  pub length : ℕ

-- "generation at 0, ram bytes 8, compression 16 (u8), encryption 17 (u8), other encoding 18 (u16), kind 20 (u8 ..),
-- extent start 21, extent length 29, position 37, length 45; u64 where no width is given"
abbrev pub fields : Item → Fields
fields i =
    record {
      file = i.file;
      key_type = i.key_type;
      key = i.key;
      generation = num 8 0 i.«data»;
      ram = num 8 8 i.«data»;
      compression = num 1 16 i.«data»;
      encryption = num 1 17 i.«data»;
      other = num 2 18 i.«data»;
      kind = num 1 20 i.«data»;
      extent_start = num 8 21 i.«data»;
      extent_length = num 8 29 i.«data»;
      position = num 8 37 i.«data»;
      length = num 8 45 i.«data»;
    }

-- "A record is 70 bytes, little-endian: file number (u64), key type (u8, 108), key offset (u64), then the data"
unfoldable pub item_of : List ℕ → Item
item_of s = record { file = num 8 0 s; key_type = num 1 8 s; key = num 8 9 s; «data» = take 53 (drop 17 s) }

-- the item in the first 70 bytes, and the 70 bytes of an item
unfoldable pub decode : List ℕ → Fields
decode s = fields (item_of s)

unfoldable pub encode : Fields → List ℕ
encode f =
    enc 8 f.file
    ++ enc 1 f.key_type
    ++ enc 8 f.key
    ++ enc 8 f.generation
    ++ enc 8 f.ram
    ++ enc 1 f.compression
    ++ enc 1 f.encryption
    ++ enc 2 f.other
    ++ enc 1 f.kind
    ++ enc 8 f.extent_start
    ++ enc 8 f.extent_length
    ++ enc 8 f.position
    ++ enc 8 f.length

-- the items of a list
unfoldable pub items : List ℕ → List Fields
items s = records decode 70 s

-- each number fits its width
pub record Sound (f : Fields) : Type 0 where
  pub file : f.file < room 8
  pub key_type : f.key_type < room 1
  pub key : f.key < room 8
  pub generation : f.generation < room 8
  pub ram : f.ram < room 8
  pub compression : f.compression < room 1
  pub encryption : f.encryption < room 1
  pub other : f.other < room 2
  pub kind : f.kind < room 1
  pub extent_start : f.extent_start < room 8
  pub extent_length : f.extent_length < room 8
  pub position : f.position < room 8
  pub length : f.length < room 8

-- ---- what an item says

-- "kind 20 (u8: 0 inline, 1 regular, 2 preallocated)"; the rules on ranges are "for kinds 1 and 2"
abbrev pub ranged : Fields → Bool
ranged f = f.kind == 1 || f.kind == 2

-- "Extent start 0 marks an explicit hole."; an item of any kind is asked alike
abbrev pub hole : Fields → Bool
hole f = f.extent_start == 0

-- past the last offset of an item of kind 1 or 2
abbrev pub end : Fields → ℕ
end f = f.key + f.length

-- "The reference offset is the key minus the position, wrapping at 2^64."
abbrev pub reference : Fields → ℕ
reference f = (f.key + 2 ^ 64 - f.position) % 2 ^ 64

-- ---- items that plans make

-- a new item: "position 0, ram bytes and length alike", and so is the extent's length; kind 1, type 108
abbrev pub regular_item : ℕ → ℕ → ℕ → ℕ → ℕ → Fields
regular_item file key generation start length =
    record {
      file = file;
      key_type = 108;
      key = key;
      generation = generation;
      ram = length;
      compression = 0;
      encryption = 0;
      other = 0;
      kind = 1;
      extent_start = start;
      extent_length = length;
      position = 0;
      length = length;
    }

-- an item with other numbers where a plan may change them: its data else are kept
abbrev pub with_numbers : Fields → (file key generation kind position length : ℕ) → Fields
with_numbers f file key generation kind position length =
    record {
      file = file;
      key_type = f.key_type;
      key = key;
      generation = generation;
      ram = f.ram;
      compression = f.compression;
      encryption = f.encryption;
      other = f.other;
      kind = kind;
      extent_start = f.extent_start;
      extent_length = f.extent_length;
      position = position;
      length = length;
    }

-- what a cut leaves of an item, and where a clone puts it in a file: its data but position and length are kept
abbrev pub windowed : Fields → (file key position length : ℕ) → Fields
windowed f file key position length = with_numbers f file key f.generation f.kind position length

-- "The joined item has the first's data, both lengths and the new generation."
abbrev pub joined : Fields → Fields → ℕ → Fields
joined f g generation = with_numbers f f.file f.key generation f.kind f.position (f.length + g.length)

-- a part of a preallocated item "written in place as regular", with the new generation
abbrev pub written_in_place : Fields → (key generation position length : ℕ) → Fields
written_in_place f key generation position length = with_numbers f f.file key generation 1 position length

-- a new item of another kind: a preallocated piece
abbrev pub of_kind : Fields → ℕ → Fields
of_kind f kind = with_numbers f f.file f.key f.generation kind f.position f.length
