-- Places, room, edits and written bytes at each bound of the definitions, computed.
use mathlib.Core.Path.{◌≡◌, refl}
use mathlib.Core.Bool.{false}
use mathlib.Core.List.{List, [], ◌∷◌, ◌++◌, map}
use Prim.Native.Nat.{ℕ, ◌+◌, ◌-◌, ◌^◌}
use lib.ListN.{replicate}
use Rattle.endian.specs.Le.{enc}
use Rattle.records.specs.Stages.{unless, every, pairs}
use Rattle.item.specs.Items.{Fields, regular_item, windowed, encode}
use Rattle.cut_def.specs.Refs.{Ref}
use Rattle.cut_def.specs.Edits.{put, delete}
use Rattle.plan_def.specs.Plans.{Plan, written_byte}
use Rattle.plan_def.specs.Places.{Wanted, placed, places_sound}
use Rattle.plan_def.specs.Outputs.{room_for, edit_bytes}

-- ---- places: a table of one extent, [1000, 1100), and extents wanted, by their lengths

want : ℕ → Wanted
want length = record { key = 0; length = length; kind = 1 }

places : List ℕ → List ℕ → ℕ
places ps lengths = unless (places_sound (record { start = 1000; length = 100; references = 1; made = 7; keyed = 0 } ∷ []) ps (map want lengths)) 26

-- ---- room: a plan with one part of each sort

room : (edits shares unrefs releases adds writes : ℕ) → ℕ
room edits shares unrefs releases adds writes =
    unless (room_for (record { edits = edits; shares = shares; unrefs = unrefs; releases = releases; adds = adds; writes = writes }) one) 27
  where
    ref : Ref
    ref = record { start = 1; offset = 0 }

    one : Plan
    one =
        record {
          edits = delete 0 ∷ [];
          shares = ref ∷ [];
          unrefs = ref ∷ [];
          releases = ref ∷ [];
          adds = record { start = 1; length = 1; key = 0 } ∷ [];
          writes = record { key = 0; at = 1; first = 0; end = 1 } ∷ [];
          size = 0;
          bytes = 0;
          prealloc = false;
        }

-- ---- bytes

-- eight bytes, the lowest three of which are given
eight : ℕ → ℕ → ℕ → List ℕ
eight a b c = a ∷ b ∷ c ∷ replicate 5 0

item : Fields
item = windowed (regular_item 257 4096 7 1048576 16384) 257 4096 8192 4096

item_bytes : List ℕ
item_bytes =
    eight 1 1 0 ++ (108 ∷ []) ++ eight 0 16 0 ++ eight 7 0 0 ++ eight 0 64 0 ++ (0 ∷ 0 ∷ 0 ∷ 0 ∷ 1 ∷ []) ++ eight 0 0 16
    ++ eight 0 64 0 ++ eight 0 32 0 ++ eight 0 16 0

-- the byte at o of a sector of a file of 300 bytes, where the file read o + 1 and [100, 200) is zeroed
written : ℕ → ℕ
written o = written_byte (record { key = 0; at = 1; first = 100; end = 200 }) 300 (λ o. o + 1) o

-- what is given, and what is due
numbers : List (ℕ × ℕ)
numbers =
    (places [] [], 0)
    -- too few, too many
    ∷ (places [] (5 ∷ []), 26)
    ∷ (places (10 ∷ []) (5 ∷ 5 ∷ []), 26)
    ∷ (places (10 ∷ 20 ∷ []) (5 ∷ []), 26)
    -- not 0
    ∷ (places (0 ∷ []) (5 ∷ []), 26)
    ∷ (places (1 ∷ []) (5 ∷ []), 0)
    -- a 64-bit end
    ∷ (places ((2 ^ 64 - 4097) ∷ []) (4096 ∷ []), 0)
    ∷ (places ((2 ^ 64 - 4096) ∷ []) (4096 ∷ []), 26)
    -- touching the table's extent, or meeting it by a byte
    ∷ (places (900 ∷ []) (100 ∷ []), 0)
    ∷ (places (901 ∷ []) (100 ∷ []), 26)
    ∷ (places (1100 ∷ []) (100 ∷ []), 0)
    ∷ (places (1099 ∷ []) (100 ∷ []), 26)
    ∷ (places (1000 ∷ []) (1 ∷ []), 26)
    -- touching another place, or meeting it by a byte
    ∷ (places (10 ∷ 15 ∷ []) (5 ∷ 5 ∷ []), 0)
    ∷ (places (10 ∷ 14 ∷ []) (5 ∷ 5 ∷ []), 26)
    ∷ (places (15 ∷ 10 ∷ []) (5 ∷ 5 ∷ []), 0)
    ∷ (places (14 ∷ 10 ∷ []) (5 ∷ 5 ∷ []), 26)
    ∷ (places (10 ∷ 20 ∷ 10 ∷ []) (5 ∷ 5 ∷ 5 ∷ []), 26)
    -- exact room, and one short
    ∷ (room 71 2 2 2 3 4, 0)
    ∷ (room 70 2 2 2 3 4, 27)
    ∷ (room 71 1 2 2 3 4, 27)
    ∷ (room 71 2 1 2 3 4, 27)
    ∷ (room 71 2 2 1 3 4, 27)
    ∷ (room 71 2 2 2 2 4, 27)
    ∷ (room 71 2 2 2 3 3, 27)
    -- outside the zeroed part, inside, and past the size
    ∷ (written 99, 100)
    ∷ (written 100, 0)
    ∷ (written 199, 0)
    ∷ (written 200, 201)
    ∷ (written 299, 300)
    ∷ (written 300, 0)
    ∷ []

edits : List (List ℕ × List ℕ)
edits =
    (edit_bytes 257 (put item), 1 ∷ item_bytes)
    ∷ (edit_bytes 257 (delete 4096), 2 ∷ eight 1 1 0 ++ (108 ∷ []) ++ eight 0 16 0 ++ replicate 53 0)
    ∷ []

-- what is given is what is due
abbrev Right : {A : Type 0} → List (A × A) → Type 0
Right {A} cases = map (λ (c : A × A). c.0) cases ≡ map (λ (c : A × A). c.1) cases

right : Right numbers × Right edits
unfolding numbers edits places want room item item_bytes eight written places_sound placed every pairs encode enc
right = (refl, refl)
