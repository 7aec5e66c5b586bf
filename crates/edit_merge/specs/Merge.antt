-- For the code only: the edits between an old list and new items, one a step: whether an old item goes before the next new one, and what a
-- step does; and new items put in among others, the lowest key first.
use Rattle.std.specs.Prelude.{◌≡◌, Bool, true, false, cond, ◌⊎◌, Option, Some, None, List, [], ◌∷◌, map, ℕ, ◌+◌, ◌*◌, ◌/◌, ◌≤◌, ◌<◌, eqb, ltb, length, drop}
use Rattle.records.specs.Stages.{pairs}
use Rattle.item.specs.Items.{Fields, fields, decode, items}
use Rattle.lists.specs.Lists.{rises}
use Rattle.cut_def.specs.Pieces.{Piece, built, items_of, insert_all}
use Rattle.cut_def.specs.Edits as Edits
use Rattle.cut_def.specs.Edits.{put, delete, edits}
use Rattle.plan_def.specs.Outputs.{edit_bytes}
use Rattle.plan_lines.specs.Lines.{Laid}
use Rattle.edit_merge.specs.declared.Edit.{Edit}
use Rattle.edit_merge.specs.declared.Edit.TheVariants.{Put, Delete}
use Rattle.edit_merge.specs.declared.Next.{Next}
use Rattle.edit_merge.specs.declared.MergeCursor.{MergeCursor}

-- a list's items from number i on
abbrev pub from : List ℕ → ℕ → List Fields
from s i = drop i (items s)

-- ---- new items

-- ys put in among gs
abbrev pub together : (ys gs : List Fields) → List Piece
together ys gs = insert_all ys (map built gs)

-- the first of ys comes before all of gs
abbrev pub comes_first : (ys gs : List Fields) → Bool
comes_first [] gs = false
comes_first (y ∷ ys) [] = true
comes_first (y ∷ ys) (g ∷ gs) = ltb y.key g.key

-- the next of them, if there is one, and those behind it: `news j k` are those that are left, from item j of a segment and
-- number k of the others on
pub record Heads (news : ℕ → ℕ → List Piece) (j k : ℕ) (next : Option Next) : Type 0 where
  pub there : (x : Next) → next ≡ Some x → news j k ≡ built (fields x.item) ∷ news x.j x.k
  pub none : next ≡ None → news j k ≡ []

-- ---- one edit

-- an edit of the code
abbrev pub edit_of : Edit → Edits.Edit
edit_of (Put item) = put (fields item)
edit_of (Delete key) = delete key

-- the old list's next key comes before the next new one, if there is one: it goes
abbrev pub gone : Option ℕ → List Fields → Bool
gone key [] = false
gone None (f ∷ fs) = true
gone (Some key) (f ∷ fs) = ltb f.key key

-- the old items behind a key that is put
abbrev pub behind : ℕ → List Fields → List Fields
behind k [] = []
behind k (f ∷ fs) = cond (eqb f.key k) fs (f ∷ fs)

-- where a step goes on: at the same new items and behind an old one, or behind the new one
abbrev pub GoesOn : MergeCursor → Option Next → MergeCursor → Type 0
GoesOn at next to = ((to.j ≡ at.j) × (to.k ≡ at.k) × (at.i < to.i)) ⊎ ((x : Next) × (next ≡ Some x) × (to.j ≡ x.j) × (to.k ≡ x.k))

-- what a step does where record i of the old list is the next, and this the next of the new ones, if there is one: it appends
-- the first edit that is left, whatever new items there are
pub record Merging (file : ℕ) (was : List ℕ) (at : MergeCursor) (next : Option Next) (out : List ℕ) (to : MergeCursor) (out' : List ℕ) : Type 0 where
  pub edit : Edits.Edit
  pub first : (news : ℕ → ℕ → List Piece) → Heads news at.j at.k next → pairs rises (items_of (news at.j at.k)) ≡ true → edits (from was at.i) (news at.j at.k) ≡ edit ∷ edits (from was to.i) (news to.j to.k)
  pub laid : Laid (edit_bytes file) 71 at.n (edit ∷ []) out to.n out'
  pub on : GoesOn at next to
  pub least : at.i ≤ to.i
  pub most : to.i ≤ length was / 70

-- ---- loops

-- the segment's next item is the next new one, or none is left of it
pub record FromSegment (segment : List ℕ) (j k : ℕ) (next : Option Next) : Type 0 where
  pub there : (x : Next) → next ≡ Some x → (j < length segment / 70) × (fields x.item ≡ decode (drop (j * 70) segment)) × (x.j ≡ j + 1) × (x.k ≡ k)
  pub none : next ≡ None → length segment / 70 ≤ j
