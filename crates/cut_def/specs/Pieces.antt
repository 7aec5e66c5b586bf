-- A file's items after a change, each marked as built by it or kept from before.
use Rattle.std.specs.Prelude.{Bool, true, false, cond, ℕ, ◌+◌, ltb}
use mathlib.Core.List.{List, [], ◌∷◌, map, flat_map}
use Rattle.item.specs.Items.{Fields, hole}
use Rattle.cut_def.specs.Cuts.{cut, touched}

pub record Piece : Type 0 where
  pub built : Bool
  pub item : Fields

abbrev pub built : Fields → Piece
built f = record { built = true; item = f }

abbrev pub kept : Fields → Piece
kept f = record { built = false; item = f }

abbrev pub items_of : List Piece → List Fields
items_of ps = map (λ (p : Piece). p.item) ps

-- what a cut of [lo, hi) leaves: pieces of the items that it touches, all other items as they were
unfoldable pub cut_pieces : ℕ → ℕ → List Fields → List Piece
cut_pieces lo hi fs = flat_map (λ (f : Fields). cond (touched lo hi f) (map built (cut lo hi f)) (kept f ∷ [])) fs

-- a new item at its key
unfoldable pub insert : Fields → List Piece → List Piece
insert x [] = built x ∷ []
insert x (p ∷ ps) = cond (ltb x.key p.item.key) (built x ∷ p ∷ ps) (p ∷ insert x ps)

unfoldable pub insert_all : List Fields → List Piece → List Piece
insert_all [] ps = ps
insert_all (x ∷ xs) ps = insert_all xs (insert x ps)

-- "`counted_bytes`: the lengths of items that are no holes."
unfoldable pub counted_bytes : List Fields → ℕ
counted_bytes [] = 0
counted_bytes (f ∷ fs) = cond (hole f) 0 f.length + counted_bytes fs
