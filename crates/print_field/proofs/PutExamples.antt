-- Lines of items that are put, computed.
use mathlib.Core.Path.{◌≡◌, refl}
use mathlib.Core.List.{[], ◌∷◌, map}
use Prim.Native.Nat.{ℕ, ◌-◌, ◌^◌}
use lib.ListN.{length}
use Rattle.read_field.specs.Words.{bytes as text}
use Rattle.print_field.specs.Text.{digits, decimal, joined}
use Rattle.print_field.specs.Fields.{spaced, field, pair, unless_zero}
use Rattle.item.specs.Items.{Fields}
use Rattle.print_field.specs.Puts.{item_fields, added_fields, put_line}

-- an item of file 257 whose window is a part of the extent at 1048576
item : (key position length : ℕ) → (generation ram compression encryption other : ℕ) → Fields
item key position length generation ram compression encryption other =
    record {
      file = 257;
      key_type = 108;
      key = key;
      generation = generation;
      ram = ram;
      compression = compression;
      encryption = encryption;
      other = other;
      kind = 1;
      extent_start = 1048576;
      extent_length = 16384;
      position = position;
      length = length;
    }

-- "the fields not shown are 0": the two puts of the printed example
puts : map put_line (item 0 0 4096 0 0 0 0 0 ∷ item 8192 8192 8192 0 0 0 0 0 ∷ []) ≡ text "(put (key 0) (kind 1) (extent 1048576 16384) (window 0 4096))\n" ∷ text "(put (key 8192) (kind 1) (extent 1048576 16384) (window 8192 8192))\n" ∷ []
unfolding digits decimal joined spaced field pair unless_zero item_fields added_fields put_line item
puts = refl

-- all five added fields, and every second one
added : map put_line (item 0 0 1 7 2 3 4 5 ∷ item 0 0 1 7 0 3 0 5 ∷ item 0 0 1 0 2 0 4 0 ∷ []) ≡ text "(put (key 0) (kind 1) (extent 1048576 16384) (window 0 1) (generation 7) (ram 2) (compression 3) (encryption 4) (other 5))\n" ∷ text "(put (key 0) (kind 1) (extent 1048576 16384) (window 0 1) (generation 7) (compression 3) (other 5))\n" ∷ text "(put (key 0) (kind 1) (extent 1048576 16384) (window 0 1) (ram 2) (encryption 4))\n" ∷ []
unfolding digits decimal joined spaced field pair unless_zero item_fields added_fields put_line item
added = refl

-- the longest line
largest : Fields
largest =
    record {
      file = 2 ^ 64 - 1;
      key_type = 255;
      key = 2 ^ 64 - 1;
      generation = 2 ^ 64 - 1;
      ram = 2 ^ 64 - 1;
      compression = 255;
      encryption = 255;
      other = 65535;
      kind = 255;
      extent_start = 2 ^ 64 - 1;
      extent_length = 2 ^ 64 - 1;
      position = 2 ^ 64 - 1;
      length = 2 ^ 64 - 1;
    }

longest : length (put_line largest) ≡ 256
unfolding digits decimal joined spaced field pair unless_zero item_fields added_fields put_line largest
longest = refl
