-- For the code only: a segment: the few items of a file's list that a change makes anew, in a buffer beside the lent list.
use Rattle.std.specs.Prelude.{◌≡◌, Bool, true, cond, not, List, [], ◌∷◌, ◌++◌, ℕ, suc, ◌+◌, ◌-◌, ◌^◌, ◌≤◌, ◌<◌, leb, ltb, length, get_or, take, drop}
use denote.Param.Members.{Shared}
use Rattle.std.specs.Coded.{Unit-prop}
use Rattle.std.proofs.Props.{props}
use Rattle.records.specs.Stages.{every}
use Rattle.item.specs.Items.{Fields, fields, items, end, regular_item}
use Rattle.item.specs.declared.Item.{Item}
use Rattle.cut_def.specs.Cuts.{touched}
use Rattle.cut_def.specs.Pieces.{Piece, cut_pieces}
use Rattle.cut_def.specs.Raw.{replaced}
use Rattle.cut_segment.specs.declared.Segment.{Segment}
use Rattle.std.specs.declared.ops.Range.{Range}

-- what stands for an item past a list's end
abbrev pub nothing : Fields
nothing = regular_item 0 0 0 0 0

-- record n of a list
abbrev pub item_at : List ℕ → ℕ → Fields
item_at s n = get_or (items s) n nothing

-- the items that were made, and the file's items with them
abbrev pub segment_of : Segment → List ℕ → List Fields
segment_of s seg = take s.count (items seg)

abbrev pub pieces : List ℕ → Segment → List ℕ → List Piece
pieces list s seg = replaced (items list) s.from s.to (segment_of s seg)

-- how many items pass a test before the first that does not
unfoldable pub leading : (Fields → Bool) → List Fields → ℕ
leading p [] = 0
leading p (f ∷ fs) = cond (p f) (suc (leading p fs)) 0

-- an item in front of one that passes does too
abbrev pub Leads : (Fields → Bool) → List Fields → Type 0
Leads p l = (i j : ℕ) → i < j → j < length l → p (get_or l j nothing) ≡ true → p (get_or l i nothing) ≡ true

-- a closure answers what a test says of each item
abbrev pub Answers : {F : Type 0} → Shared F (Item × Unit {0}) Bool → F → (Fields → Bool) → Type 0
Answers g f p = (i : Item) (r : Bool) → g.post f (i, tt) r → r ≡ p (fields i)

-- an item ends at most at lo; it starts at most at k
abbrev pub ends_by : ℕ → Fields → Bool
ends_by lo f = leb (end f) lo

abbrev pub starts_by : ℕ → Fields → Bool
starts_by k f = leb f.key k

-- items of kinds 1 and 2 in a well_kept_lem list: each has a sound range and starts where the one before it ends, or later
abbrev pub Runs : ℕ → List Fields → Type 0
Runs b [] = Unit {0}
Runs b (f ∷ fs) = (b ≤ f.key) × (1 ≤ f.length) × (end f ≤ 2 ^ 63) × (f.position + f.length < 2 ^ 64) × Runs (end f) fs

-- a fact of one proof, as a field of a type has to be
pub runs_prop : (b : ℕ) (fs : List Fields) → IsProp (Runs b fs)
runs_prop b [] = Unit-prop
runs_prop b (f ∷ fs) = let rest = runs_prop (end f) fs in Prim.hlevel (props, rest)

-- items appended to the n records of a buffer
pub record Added (n : ℕ) (xs : List Fields) (seg : List ℕ) (m : ℕ) (seg' : List ℕ) : Type 0 where
  pub many : m ≡ n + length xs
  pub those : take m (items seg') ≡ take n (items seg) ++ xs

-- a segment that may be changed: records from..to are in the list, the buffer has what is made, and every item ends at
-- most at 2^63, so that the length of two that are joined fits
abbrev pub bounded : Fields → Bool
bounded f = leb (end f) (2 ^ 63)

pub record Good (list : List ℕ) (s : Segment) (seg : List ℕ) : Type 0 where
  pub order : s.from ≤ s.to
  pub inside : s.to ≤ length (items list)
  pub room : s.count ≤ length (items seg)
  pub sound : every bounded (items list) ≡ true
  pub small : every bounded (segment_of s seg) ≡ true

-- the items before the segment start at most at k, those behind it past k
abbrev pub starts_past : ℕ → Fields → Bool
starts_past k f = ltb k f.key

pub record Around (k : ℕ) (list : List ℕ) (s : Segment) : Type 0 where
  pub before : every (starts_by k) (take s.from (items list)) ≡ true
  pub behind : every (starts_past k) (drop s.to (items list)) ≡ true

-- all that a cut of [lo, hi) touches is among these records: those before them end at most at lo, those behind start at hi or later
abbrev pub untouched : ℕ → ℕ → Fields → Bool
untouched lo hi f = not (touched lo hi f)

pub record Touching (lo hi : ℕ) (fs : List Fields) (s : Range ℕ) : Type 0 where
  pub order : s.start ≤ s.end
  pub inside : s.end ≤ length fs
  pub before : every (untouched lo hi) (take s.start fs) ≡ true
  pub behind : every (untouched lo hi) (drop s.end fs) ≡ true
  pub none : hi ≤ lo → (s.start ≡ 0) × (s.end ≡ 0)
  pub first : lo < hi → s.start ≡ leading (ends_by lo) fs
  pub last : lo < hi → s.end ≡ leading (starts_by (hi - 1)) fs

-- what a cut of [lo, hi) gives
pub record Cutting (lo hi : ℕ) (list : List ℕ) (s : Segment) (seg : List ℕ) : Type 0 where
  pub same : pieces list s seg ≡ cut_pieces lo hi (items list)
  pub few : s.count ≤ 2
  pub good : Good list s seg
  pub around : (k : ℕ) → lo ≤ k → k < hi → Around k list s

-- a new item among others, at its key
unfoldable pub insert_item : Fields → List Fields → List Fields
insert_item x [] = x ∷ []
insert_item x (f ∷ fs) = cond (ltb x.key f.key) (x ∷ f ∷ fs) (f ∷ insert_item x fs)

-- what putting an item into a segment gives: the list's records stay as they are
pub record Inserted (x : Fields) (s : Segment) (seg : List ℕ) (r : Segment) (seg' : List ℕ) : Type 0 where
  pub from : r.from ≡ s.from
  pub to : r.to ≡ s.to
  pub count : r.count ≡ s.count + 1
  pub room : r.count ≤ length (items seg')
  pub those : segment_of r seg' ≡ insert_item x (segment_of s seg)
