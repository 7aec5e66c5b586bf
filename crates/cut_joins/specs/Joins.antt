-- For the code only: joins in a segment: what its items become.
use Rattle.std.specs.Prelude.{◌≡◌, true, false, cond, Option, Some, None, List, [], ◌∷◌, ◌++◌, map, ℕ, ◌+◌, ◌≤◌, ◌<◌, take, drop}
use Rattle.item.specs.declared.Item.{Item}
use Rattle.item.specs.Items.{Fields, fields, items, joined}
use Rattle.cut_def.specs.Pieces.{Piece, built, kept}
use Rattle.cut_def.specs.Joins.{joinable, join_next, join_around}
use Rattle.cut_segment.specs.declared.Segment.{Segment}
use Rattle.cut_segment.specs.declared.making.Making.{Making}
use Rattle.cut_segment.specs.Segments.{item_at, segment_of, pieces, Good, Around}

-- an item joined with the one behind it, if they are joinable
abbrev pub join_items : ℕ → Fields → List Fields → List Fields
join_items generation f [] = f ∷ []
join_items generation f (g ∷ fs) = cond (joinable f g) (joined f g generation ∷ fs) (f ∷ g ∷ fs)

-- the last of a list's pieces joined with those behind them
unfoldable pub join_last : ℕ → List Piece → List Piece → List Piece
join_last generation [] ps = ps
join_last generation (p ∷ []) ps = join_next generation p ps
join_last generation (p ∷ (q ∷ qs)) ps = p ∷ join_last generation (q ∷ qs) ps

-- two items joined, if they are joinable
pub record Joined (generation : ℕ) (f g : Fields) (item : Option Item) : Type 0 where
  pub there : (x : Item) → item ≡ Some x → (joinable f g ≡ true) × (fields x ≡ joined f g generation)
  pub none : item ≡ None → joinable f g ≡ false

-- record k of n joined with the next one: m records are left
pub record Within (generation k n : ℕ) (seg : List ℕ) (m : ℕ) (seg' : List ℕ) : Type 0 where
  pub those : take m (items seg') ≡ take k (items seg) ++ join_items generation (item_at seg k) (drop (k + 1) (take n (items seg)))
  pub some : k < m
  pub most : m ≤ n

-- record k of a segment joined with what is behind it: those before it stay
pub record Behind (generation : ℕ) (list : List ℕ) (s : Segment) (seg : List ℕ) (k : ℕ) (r : Segment) (seg' : List ℕ) : Type 0 where
  pub from : r.from ≡ s.from
  pub to : s.to ≤ r.to
  pub some : k < r.count
  pub most : r.count ≤ s.count
  pub front : take k (items seg') ≡ take k (items seg)
  pub rest :
      map built (drop k (segment_of r seg')) ++ map kept (drop r.to (items list))
      ≡ join_next generation (built (item_at seg k)) (map built (drop (k + 1) (segment_of s seg)) ++ map kept (drop s.to (items list)))
  pub first : (item_at seg' 0).key ≡ (item_at seg 0).key
  pub good : Good list r seg'

-- what is before record k of a segment joined with it
pub record Before (generation : ℕ) (list : List ℕ) (s : Segment) (seg : List ℕ) (k : ℕ) (r : Segment) (seg' : List ℕ) : Type 0 where
  pub same :
      pieces list r seg'
      ≡ join_last generation (map kept (take s.from (items list)) ++ map built (take k (items seg)))
      (map built (drop k (segment_of s seg)) ++ map kept (drop s.to (items list)))
  pub from : r.from ≤ s.from
  pub to : r.to ≡ s.to
  pub some : 0 < r.count
  pub most : r.count ≤ s.count
  pub first : (item_at seg' 0).key ≤ (item_at seg 0).key
  pub good : Good list r seg'

-- what joining around a sector gives. The segment may take in a record on either side; it keeps an item, and its first
-- one starts where it did, or before.
pub record Joining (generation sector : ℕ) (list : List ℕ) (s : Segment) (seg : List ℕ) (r : Segment) (seg' : List ℕ) : Type 0 where
  pub same : pieces list r seg' ≡ join_around generation sector (pieces list s seg)
  pub good : Good list r seg'
  pub from : r.from ≤ s.from
  pub to : s.to ≤ r.to
  pub some : 0 < r.count
  pub most : r.count ≤ s.count
  pub first : (item_at seg' 0).key ≤ (item_at seg 0).key

-- ---- of a list of which a segment is made anew

abbrev pub JoinedAround : (generation sector : ℕ) → Making → Making → Type 0
JoinedAround generation sector m m' = Joining generation sector m.list.records.now m.segment m.buffer.now m'.segment m'.buffer.now

-- what joins around a sector ask: the list's records stand on their sides of it, and what is made starts at it or before
pub record Reaching (sector : ℕ) (m : Making) : Type 0 where
  pub around : Around sector m.list.records.now m.segment
  pub some : 0 < m.segment.count
  pub first : (item_at m.buffer.now 0).key ≤ sector
