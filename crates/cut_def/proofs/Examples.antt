-- Cuts, joins and edits, computed.
use mathlib.Core.Path.{◌≡◌, refl}
use mathlib.Core.List.{List, [], ◌∷◌, map, flat_map}
use mathlib.Core.Option.{Option, none, some}
use Prim.Native.Nat.{ℕ}
use Rattle.records.specs.Select.{keep, any}
use Rattle.item.specs.Items.{Fields, regular_item, joined}
use Rattle.item.proofs.Samples.{sample}
use Rattle.cut_def.specs.Cuts.{cut_range, covered, split}
use Rattle.cut_def.specs.Mappings.{Mapping, mapping}
use Rattle.cut_def.specs.Pieces.{Piece, built, kept, cut_pieces, insert, insert_all, counted_bytes}
use Rattle.cut_def.specs.Joins.{join_around, join_all}
use Rattle.cut_def.specs.Edits.{Edit, put, delete, edits, items_after}

-- of another extent
other : (key length : ℕ) → Fields
other key length = regular_item 257 key 7 4194304 length

one : List Fields
one = sample 1 0 0 16384 ∷ []

three : List Fields
three = sample 1 0 0 4096 ∷ other 4096 8192 ∷ sample 1 12288 12288 4096 ∷ []

extent : Option Mapping → ℕ
extent none = 0
extent (some m) = m.start

position : Option Mapping → ℕ
position none = 0
position (some m) = m.position

-- what the examples speak of
data Told : Type 0 where
  items : List Fields → Told
  pieces : List Piece → Told
  changes : List Edit → Told
  number : ℕ → Told

-- what is asked, and what is due
cases : List (Told × Told)
cases =
    -- an item cut in the middle: the front keeps its position, the back's is advanced
    (items (cut_range 4096 8192 one), items (sample 1 0 0 4096 ∷ sample 1 8192 8192 8192 ∷ []))
    -- one side only, all of it, nothing, an empty range
    ∷ (items (cut_range 0 4096 one), items (sample 1 4096 4096 12288 ∷ []))
    ∷ (items (cut_range 8192 20480 one), items (sample 1 0 0 8192 ∷ []))
    ∷ (items (cut_range 0 16384 one), items [])
    ∷ (items (cut_range 16384 20480 one), items one)
    ∷ (items (cut_range 4096 4096 one), items one)
    -- only a cut on both sides is a split, and only of an item that is no hole
    ∷ (items (keep (split 4096 8192) one), items one)
    ∷ (items (keep (split 0 4096) one), items [])
    ∷ (items (keep (split 4096 16384) one), items [])
    ∷ (items (keep (split 4096 8192) (regular_item 257 0 7 0 16384 ∷ [])), items [])
    -- covered items lie inside
    ∷ (items (keep (covered 4096 12288) three), items (other 4096 8192 ∷ []))
    ∷ (items (keep (covered 4096 8192) three), items [])
    -- what is mapped where
    ∷ (number (extent (mapping 4096 (cut_range 4096 8192 one))), number 0)
    ∷ (number (extent (mapping 4095 (cut_range 4096 8192 one))), number 1048576)
    ∷ (number (position (mapping 4095 (cut_range 4096 8192 one))), number 4095)
    ∷ (number (position (mapping 8192 (cut_range 4096 8192 one))), number 8192)
    ∷ (number (extent (mapping 0 (regular_item 257 0 7 0 4096 ∷ []))), number 0)
    -- bytes of items that are no holes
    ∷ (number (counted_bytes three), number 16384)
    ∷ (number (counted_bytes (regular_item 257 0 7 0 4096 ∷ sample 1 4096 4096 4096 ∷ [])), number 4096)
    -- joins: the item at the sector with the one behind, then with the one before; the new generation
    ∷ (pieces (join_around 8 4096 (kept (sample 1 0 0 4096) ∷ built (sample 1 4096 4096 4096) ∷ kept (sample 1 8192 8192 4096) ∷ [])), pieces (built (joined (sample 1 0 0 4096) (sample 1 4096 4096 8192) 8) ∷ []))
    -- not across a gap, nor over another extent or reference offset
    ∷ (pieces (join_around 8 8192 (kept (sample 1 0 0 4096) ∷ built (sample 1 8192 8192 4096) ∷ [])), pieces (kept (sample 1 0 0 4096) ∷ built (sample 1 8192 8192 4096) ∷ []))
    ∷ (pieces (join_around 8 4096 (kept (other 0 4096) ∷ built (sample 1 4096 4096 4096) ∷ [])), pieces (kept (other 0 4096) ∷ built (sample 1 4096 4096 4096) ∷ []))
    ∷ (pieces (join_around 8 4096 (kept (sample 1 0 4096 4096) ∷ built (sample 1 4096 4096 4096) ∷ [])), pieces (kept (sample 1 0 4096 4096) ∷ built (sample 1 4096 4096 4096) ∷ []))
    -- two adjoining sectors: the second round starts from the joined item, and reaches the one before that
    ∷ (pieces (join_all 8 (8192 ∷ 12288 ∷ []) (kept (sample 1 0 0 4096) ∷ kept (sample 1 4096 4096 4096) ∷ built (sample 1 8192 8192 4096) ∷ built (sample 1 12288 12288 4096) ∷ [])), pieces (built (joined (sample 1 0 0 4096) (joined (sample 1 4096 4096 4096) (sample 1 8192 8192 8192) 8) 8) ∷ []))
    -- edits by key: put what is built, delete what is gone
    ∷ (changes (edits one (cut_pieces 4096 8192 one)), changes (put (sample 1 0 0 4096) ∷ put (sample 1 8192 8192 8192) ∷ []))
    ∷ (changes (edits three (insert (other 4096 4096) (cut_pieces 4096 16384 three))), changes (put (other 4096 4096) ∷ delete 12288 ∷ []))
    ∷ (changes (edits one (cut_pieces 16384 20480 one)), changes [])
    -- and applied
    ∷ (pieces (items_after three (put (other 4096 4096) ∷ delete 12288 ∷ delete 20480 ∷ [])), pieces (kept (sample 1 0 0 4096) ∷ built (other 4096 4096) ∷ []))
    ∷ []

right : map (λ (c : Told × Told). c.0) cases ≡ map (λ (c : Told × Told). c.1) cases
unfolding cases other one three extent position cut_range keep any flat_map mapping cut_pieces insert insert_all counted_bytes join_around join_all edits items_after
right = refl
