-- `joinable` and `join_written_sectors` (fallocate.rs).
use Rattle.std.specs.Prelude.{Bool, true, cond, ◌&&◌, ℕ, eqb, ltb}
use mathlib.Core.List.{List, [], ◌∷◌, tail}
use Rattle.item.specs.Items.{Fields, end, reference, joined}
use Rattle.cut_def.specs.Pieces.{Piece, built}

abbrev pub plain : Fields → Bool
plain f = eqb f.kind 1 && (eqb f.compression 0 && (eqb f.encryption 0 && eqb f.other 0))

-- "both regular, uncompressed, not encoded, touching, same extent start and reference offset"
abbrev pub joinable : Fields → Fields → Bool
joinable f g =
    plain f
    && (plain g
    && (eqb (end f) g.key && (eqb f.extent_start g.extent_start && eqb (reference f) (reference g))))

-- a piece joined with the one behind it, if they are joinable
abbrev pub join_next : ℕ → Piece → List Piece → List Piece
join_next generation p [] = p ∷ []
join_next generation p (q ∷ qs) = cond (joinable p.item q.item) (built (joined p.item q.item generation) ∷ qs) (p ∷ q ∷ qs)

-- no piece of the list starts at or before s
abbrev pub past : ℕ → List Piece → Bool
past s [] = true
past s (p ∷ ps) = ltb s p.item.key

-- around a sector written in place: the last item at or before it is joined with the one behind it, and then with the
-- one before it
unfoldable pub join_around : ℕ → ℕ → List Piece → List Piece
join_around generation s [] = []
join_around generation s (p ∷ ps) =
    cond (ltb s p.item.key) (p ∷ ps)
    (cond (past s ps) (join_next generation p ps)
    (cond (past s (tail ps)) (join_next generation p (join_around generation s ps)) (p ∷ join_around generation s ps)))

-- sector by sector, each on what the last left
unfoldable pub join_all : ℕ → List ℕ → List Piece → List Piece
join_all generation [] ps = ps
join_all generation (s ∷ ss) ps = join_all generation ss (join_around generation s ps)
