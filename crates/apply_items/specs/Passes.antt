-- For the code only: the list changed in place, in two passes: front to back, records that no edit names move down; back to front, they and
-- what is put move to their places. So no byte past the result is written.
use Rattle.std.specs.Prelude.{true, not, ◌≡◌, ℕ, ◌+◌, ◌*◌, ◌/◌, ◌≤◌, length, take, drop, set}
use mathlib.Core.List.{List, [], ◌∷◌, ◌++◌, map, flat_map}
use Rattle.endian.specs.Le.{put as over}
use Rattle.records.specs.Select.{keep}
use Rattle.records.specs.Stages.{pairs}
use Rattle.item.specs.Items.{Fields, items, encode}
use Rattle.lists.specs.Lists.{rises}
use Rattle.cut_def.specs.Pieces.{kept, items_of, insert_all}
use Rattle.cut_def.specs.Edits.{Edit, put, put_of, edited}
use Rattle.apply_def.specs.Apply.{edits_rise}
use Rattle.plan_def.specs.ReadBack.{edit_in}
use Rattle.apply_def.specs.Buffers.{Same}
use Rattle.apply_items.specs.declared.edits.Edits.{Edits}

-- a record put over record k of a list
pub record IsPut (k : ℕ) (f : Fields) (list list' : List ℕ) : Type 0 where
  pub bytes : list' ≡ over (encode f) (k * 70) list
  pub those : items list' ≡ set (items list) k f

-- the old records that no edit names
abbrev pub unnamed : List Edit → List Fields → List Fields
unnamed es fs = keep (λ (f : Fields). not (edited es f.key)) fs

-- what is put, and the list of old records and of what is put
abbrev pub puts_in : List Edit → List Fields
puts_in es = flat_map put_of es

abbrev pub merged : List Fields → List Edit → List Fields
merged fs es = items_of (insert_all (puts_in es) (map kept fs))

-- ---- front to back

abbrev pub edits_of : Edits → List Edit
edits_of e = map edit_in e.lines.now

-- of those that are left, the same name a key from this one on
abbrev pub Passed : ℕ → Edits → Edits → Type 0
Passed key e e' = (k : ℕ) → key ≤ k → edited (edits_of e') k ≡ edited (edits_of e) k

-- old record i is the next, of the edits these are left; w records are in front
pub record Packing (es left : List Edit) (before : List ℕ) (n i w : ℕ) (list : List ℕ) : Type 0 where
  pub less : w ≤ i
  pub same : Same 70 before list
  pub front : take w (items list) ++ unnamed left (drop i (take n (items before))) ≡ unnamed es (take n (items before))
  pub behind : drop w (items list) ≡ drop w (items before)

-- the first m records are those that no edit names, the others as they were
pub record Packed (es : List Edit) (before : List ℕ) (n m : ℕ) (list : List ℕ) : Type 0 where
  pub most : m ≤ n
  pub same : Same 70 before list
  pub front : take m (items list) ≡ unnamed es (take n (items before))
  pub behind : drop m (items list) ≡ drop m (items before)

-- ---- back to front

-- of the records in front i are left, and these edits; behind the places of both the whole result stands
pub record Filling (whole : List Fields) (left : List Edit) (before : List ℕ) (olds : List Fields) (i : ℕ) (list : List ℕ) : Type 0 where
  pub rise : pairs rises olds ≡ true
  pub news : pairs edits_rise left ≡ true
  pub room : i + length (puts_in left) ≤ length before / 70
  pub most : i ≤ length olds
  pub same : Same 70 before list
  pub front : take i (items list) ≡ take i olds
  pub behind : merged (take i olds) left ++ drop (i + length (puts_in left)) (items list) ≡ whole

-- a put of f, the last edit that is left, is made: i of the n records stay before it, and skip other puts are left
abbrev pub Slid : (n skip : ℕ) → Fields → (i : ℕ) → List ℕ → List ℕ → Type 0
Slid n skip f i list list' =
    (whole : List Fields) (left : List Edit) (before : List ℕ) (olds : List Fields) → length (puts_in left) ≡ skip
    → Filling whole (left ++ put f ∷ []) before olds n list → Filling whole left before olds i list'
