-- For the code only: the records of the list after a plan that a walk has ahead, and what a step of it gives.
use Rattle.std.specs.Prelude.{◌≡◌, List, [], ◌∷◌, ℕ, ◌+◌, ◌≤◌, ◌<◌, length, get_or}
use Rattle.item.specs.Items.{Fields, fields, items}
use Rattle.cut_def.specs.Pieces.{Piece, built, kept, items_of}
use Rattle.cut_def.specs.Edits.{put}
use Rattle.plan_def.specs.ReadBack.{edits_in}
use Rattle.apply_walk.specs.declared.walk.Origin.{Origin}
use Rattle.apply_walk.specs.declared.walk.Origin.TheVariants.{Kept, Put}
use Rattle.apply_walk.specs.declared.walk.Step.{Step}
use Rattle.apply_walk.specs.declared.walk.Walk.{Walk}
use Rattle.apply_walk.specs.Merge.{left}

abbrev pub pieces_ahead : Walk → List Piece
pieces_ahead w = left w.edited.list.now w.edited.edits.now w.i w.j

abbrev pub ahead : Walk → List Fields
ahead w = items_of (pieces_ahead w)

-- an old record is kept, what an edit puts is new
abbrev pub piece_of : Origin → Fields → Piece
piece_of (Kept n) f = kept f
piece_of (Put n) f = built f

-- which record it is: old record n, or what edit n puts
abbrev pub IsFrom : List ℕ → List ℕ → Origin → Fields → Type 0
IsFrom list edits (Kept n) f = (n < length (items list)) × (f ≡ get_or (items list) n f)
IsFrom list edits (Put n) f = (n < length (edits_in edits)) × (put f ≡ get_or (edits_in edits) n (put f))

-- the walk comes to it, and goes on behind it
abbrev pub Passes : Origin → Walk → Walk → Type 0
Passes (Kept n) v w = (v.i ≤ n) × (w.i ≡ n + 1) × (v.j ≤ w.j)
Passes (Put n) v w = (v.j ≤ n) × (w.j ≡ n + 1) × (v.i ≤ w.i)

-- it is the first record of what is ahead
pub record Stepped (v : Walk) (s : Step) (w : Walk) : Type 0 where
  pub same : w.edited ≡ v.edited
  pub first : pieces_ahead v ≡ piece_of s.origin (fields s.item) ∷ pieces_ahead w
  pub from : IsFrom v.edited.list.now v.edited.edits.now s.origin (fields s.item)
  pub on : Passes s.origin v w

-- or a delete was passed, which gives none
pub record DeletePassed (v w : Walk) : Type 0 where
  pub same : w.edited ≡ v.edited
  pub first : pieces_ahead v ≡ pieces_ahead w
  pub on : (v.i ≤ w.i) × (w.j ≡ v.j + 1)

-- nothing is ahead
abbrev pub Ended : Walk → Walk → Type 0
Ended v w = (pieces_ahead v ≡ []) × (pieces_ahead w ≡ [])
