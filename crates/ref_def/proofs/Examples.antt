-- References compared, drops refused, and the lines that drops give, computed. Assumes nothing.
use mathlib.Core.Path.{◌≡◌, refl}
use mathlib.Core.List.{List, [], ◌∷◌, ◌++◌, map, flat_map}
use Prim.Native.Nat.{ℕ, ◌-◌, ◌^◌}
use Rattle.records.specs.Select.{keep, any}
use Rattle.records.specs.Stages.{every}
use Rattle.item.specs.Items.{Fields}
use Rattle.table.specs.declared.Row.{Row}
use Rattle.table.specs.Rows.{find_from}
use Rattle.cut_def.specs.Refs.{Ref}
use Rattle.ref_def.specs.Compared.{insert_ref, sorted, without, minus, compared_shares, compared_unrefs}
use Rattle.ref_def.specs.Drops.{in_leaves, due_of, drops_refusal, releases, unrefs}

-- a line, and lines as numbers
abbrev ref : (start offset : ℕ) → Ref
ref start offset = record { start = start; offset = offset }

abbrev shown : List Ref → List ℕ
shown rs = flat_map (λ (r : Ref). r.start ∷ r.offset ∷ []) rs

-- an item of kind 1 that holds 10 offsets, and others
abbrev other : (kind compression start key position : ℕ) → Fields
other kind compression start key position =
    record {
      file = 257;
      key_type = 108;
      key = key;
      generation = 7;
      ram = 100;
      compression = compression;
      encryption = 0;
      other = 0;
      kind = kind;
      extent_start = start;
      extent_length = 100;
      position = position;
      length = 10;
    }

abbrev item : (start key position : ℕ) → Fields
item start key position = other 1 0 start key position

-- three extents of length 100 with these references
abbrev row : (start references : ℕ) → Row
row start references = record { start = start; length = 100; references = references; made = 7; keyed = 0 }

abbrev table : (a b c : ℕ) → List Row
table a b c = row 1000 a ∷ row 2000 b ∷ row 3000 c ∷ []

-- what is computed: lines as numbers, or one refusal
abbrev shares : (before after : List Fields) → List ℕ
shares before after = shown (compared_shares (1000 ∷ 2000 ∷ []) before after)

abbrev ends : (before after : List Fields) → List ℕ
ends before after = shown (compared_unrefs (1000 ∷ 2000 ∷ []) before after)

abbrev refusal : List Fields → List ℕ
refusal fs = drops_refusal (table 1 1 1) (in_leaves fs (map (λ (f : Fields). 0) fs)) ∷ []

-- releases, 0, unrefs
abbrev drops : List Row → List Fields → (bytes : List ℕ) → List ℕ
drops rows fs bytes = shown (releases rows (in_leaves fs bytes)) ++ (0 ∷ shown (unrefs rows (in_leaves fs bytes)))

-- what is computed, and what is due
abbrev cases : List (List ℕ × List ℕ)
cases =
    -- by start, then by offset; equal lines stay
    (shown (sorted (ref 2 5 ∷ ref 1 9 ∷ ref 1 3 ∷ ref 2 5 ∷ [])), 1 ∷ 3 ∷ 1 ∷ 9 ∷ 2 ∷ 5 ∷ 2 ∷ 5 ∷ [])
    -- line by line
    ∷ (shown (minus (ref 1 3 ∷ ref 1 3 ∷ ref 2 5 ∷ []) (ref 1 3 ∷ [])), 1 ∷ 3 ∷ 2 ∷ 5 ∷ [])
    ∷ (shown (minus (ref 1 3 ∷ []) (ref 1 3 ∷ ref 1 3 ∷ [])), [])
    ∷ (shown (minus (ref 1 3 ∷ []) (ref 1 4 ∷ ref 2 3 ∷ [])), 1 ∷ 3 ∷ [])
    -- an item split in two: a reference more at the same offset; and the way back
    ∷ (shares (item 1000 0 0 ∷ []) (item 1000 0 0 ∷ item 1000 20 20 ∷ []), 1000 ∷ 0 ∷ [])
    ∷ (ends (item 1000 0 0 ∷ []) (item 1000 0 0 ∷ item 1000 20 20 ∷ []), [])
    ∷ (ends (item 1000 0 0 ∷ item 1000 20 20 ∷ []) (item 1000 0 0 ∷ []), 1000 ∷ 0 ∷ [])
    -- two more: two equal lines
    ∷ (shares (item 1000 0 0 ∷ []) (item 1000 0 0 ∷ item 1000 20 20 ∷ item 1000 40 40 ∷ []), 1000 ∷ 0 ∷ 1000 ∷ 0 ∷ [])
    -- another offset: one gone, one new; below 0 it wraps
    ∷ (shares (item 1000 50 0 ∷ []) (item 1000 50 60 ∷ []), 1000 ∷ (2 ^ 64 - 10) ∷ [])
    ∷ (ends (item 1000 50 0 ∷ []) (item 1000 50 60 ∷ []), 1000 ∷ 50 ∷ [])
    -- the lines' order is not the items'
    ∷ (shares [] (item 2000 0 0 ∷ item 1000 20 0 ∷ item 1000 30 20 ∷ []), 1000 ∷ 10 ∷ 1000 ∷ 20 ∷ 2000 ∷ 0 ∷ [])
    -- only extents that are asked for, and only items that name one: kind 1 or 2
    ∷ (shares [] (item 3000 0 0 ∷ item 0 10 0 ∷ other 0 0 1000 20 0 ∷ other 2 0 1000 30 0 ∷ []), 1000 ∷ 30 ∷ [])
    -- ---- drops refused
    ∷ (refusal [], 0 ∷ [])
    -- 17: a window that ends past its extent, unless it is compressed
    ∷ (refusal (item 1000 0 90 ∷ []), 0 ∷ [])
    ∷ (refusal (item 1000 0 91 ∷ []), 17 ∷ [])
    ∷ (refusal (other 1 1 1000 0 91 ∷ []), 0 ∷ [])
    -- 14: no row, compressed or not
    ∷ (refusal (item 1500 0 0 ∷ []), 14 ∷ [])
    ∷ (refusal (other 1 1 1500 0 0 ∷ []), 14 ∷ [])
    -- by extent start, lowest first, in any order of the list
    ∷ (refusal (item 1000 0 0 ∷ item 2000 10 91 ∷ item 1500 20 0 ∷ []), 14 ∷ [])
    ∷ (refusal (item 1500 0 0 ∷ item 2000 10 91 ∷ item 1000 20 0 ∷ []), 14 ∷ [])
    ∷ (refusal (item 1500 0 0 ∷ item 1000 10 91 ∷ []), 17 ∷ [])
    ∷ (refusal (item 1000 0 91 ∷ item 1500 10 0 ∷ []), 17 ∷ [])
    -- ---- releases and unrefs
    ∷ (drops (table 1 1 1) (item 1000 5 0 ∷ []) (0 ∷ []), 1000 ∷ 5 ∷ 0 ∷ [])
    -- the extent has another reference
    ∷ (drops (table 2 1 1) (item 1000 5 0 ∷ []) (0 ∷ []), 0 ∷ 1000 ∷ 5 ∷ [])
    -- both of its two are dropped
    ∷ (drops (table 2 1 1) (item 1000 5 0 ∷ item 1000 20 10 ∷ []) (0 ∷ 0 ∷ []), 1000 ∷ 5 ∷ 1000 ∷ 10 ∷ 0 ∷ [])
    -- more drops than references
    ∷ (drops (table 1 1 1) (item 1000 5 0 ∷ item 1000 20 10 ∷ []) (0 ∷ 0 ∷ []), 0 ∷ 1000 ∷ 5 ∷ 1000 ∷ 10 ∷ [])
    -- a shared leaf
    ∷ (drops (table 1 1 1) (item 1000 5 0 ∷ []) (1 ∷ []), 0 ∷ 1000 ∷ 5 ∷ [])
    ∷ (drops (table 2 1 1) (item 1000 5 0 ∷ item 1000 20 10 ∷ []) (0 ∷ 1 ∷ []), 0 ∷ 1000 ∷ 5 ∷ 1000 ∷ 10 ∷ [])
    -- of another extent
    ∷ (drops (table 1 1 1) (item 1000 5 0 ∷ item 2000 20 10 ∷ []) (0 ∷ 1 ∷ []), 1000 ∷ 5 ∷ 0 ∷ 2000 ∷ 10 ∷ [])
    -- in the table's order, and those of one extent in the list's
    ∷ (drops (table 2 2 1) (item 3000 5 0 ∷ item 1000 10 0 ∷ item 2000 20 0 ∷ item 1000 30 25 ∷ []) (0 ∷ 0 ∷ 0 ∷ 0 ∷ []), 1000 ∷ 10 ∷ 1000 ∷ 5 ∷ 3000 ∷ 5 ∷ 0 ∷ 2000 ∷ 20 ∷ [])
    -- a row without references or drops
    ∷ (drops (table 0 1 1) (item 2000 5 0 ∷ []) (0 ∷ []), 2000 ∷ 5 ∷ 0 ∷ [])
    ∷ []

all_right : map (λ (c : List ℕ × List ℕ). c.0) cases ≡ map (λ (c : List ℕ × List ℕ). c.1) cases
unfolding flat_map keep any every find_from insert_ref sorted without minus in_leaves due_of
all_right = refl
