-- The edits of a plan: "put or delete, by key".
use Rattle.std.specs.Prelude.{Bool, not, ℕ, eqb, ltb}
use mathlib.Core.List.{List, [], ◌∷◌, ◌++◌, map, flat_map}
use Rattle.records.specs.Select.{only, keep, any}
use Rattle.item.specs.Items.{Fields}
use Rattle.cut_def.specs.Pieces.{Piece, kept, insert_all}

pub data Edit : Type 0 where
  put : Fields → Edit
  delete : ℕ → Edit

-- each piece that was built is put
abbrev pub puts : List Piece → List Edit
puts ps = flat_map (λ (p : Piece). only p.built (put p.item)) ps

abbrev pub below : ℕ → Piece → Bool
below k p = ltb p.item.key k

-- by rising keys: each piece that was built is put, each old key that no piece has is deleted
unfoldable pub edits : List Fields → List Piece → List Edit
edits [] ps = puts ps
edits (f ∷ fs) ps =
    puts (keep (below f.key) ps)
    ++ (only (not (any (λ (p : Piece). eqb p.item.key f.key) ps)) (delete f.key)
    ++ edits fs (keep (λ (p : Piece). not (below f.key p)) ps))

-- ---- applying: `items_after` (fallocate.rs)

abbrev pub key_of : Edit → ℕ
key_of (put f) = f.key
key_of (delete k) = k

abbrev pub put_of : Edit → List Fields
put_of (put f) = f ∷ []
put_of (delete k) = []

-- an edit names this key
abbrev pub edited : List Edit → ℕ → Bool
edited es k = any (λ (e : Edit). eqb (key_of e) k) es

-- the items that no edit names, as they were, and what is put, each at its key; deleting a key that is not there does
-- nothing
unfoldable pub items_after : List Fields → List Edit → List Piece
items_after fs es = insert_all (flat_map put_of es) (map kept (keep (λ (f : Fields). not (edited es f.key)) fs))
