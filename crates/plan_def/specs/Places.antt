-- The places of new extents, and refusal 26.
use Rattle.std.specs.Prelude.{Bool, ◌&&◌, ◌||◌, not, List, [], ◌∷◌, ℕ, ◌+◌, ◌^◌, eqb, leb, ltb, length}
use Rattle.records.specs.Stages.{every, pairs}
use Rattle.table.specs.declared.Row.{Row}
use Rattle.plan_def.specs.Plans.{Add}

-- a new extent that is wanted: for which key, how long, and of which kind its item is
pub record Wanted : Type 0 where
  pub key : ℕ
  pub length : ℕ
  pub kind : ℕ

-- the places in the order wanted
unfoldable pub placed : List ℕ → List Wanted → List Add
placed [] ws = []
placed (p ∷ ps) [] = []
placed (p ∷ ps) (w ∷ ws) = record { start = p; length = w.length; key = w.key } ∷ placed ps ws

-- [a, a + m) and [b, b + n) share no byte
abbrev pub clear : (a m b n : ℕ) → Bool
clear a m b n = leb (a + m) b || leb (b + n) a

-- "a place is 0, has no 64-bit end, or meets a table extent"
abbrev pub place_sound : List Row → Add → Bool
place_sound rows a =
    not (eqb a.start 0)
    && (ltb (a.start + a.length) (2 ^ 64) && every (λ (row : Row). clear a.start a.length row.start row.length) rows)

-- "or another place"
abbrev pub places_apart : Add → Add → Bool
places_apart a b = clear a.start a.length b.start b.length

-- 26: "the number of places is not the number wanted, or a place is 0, has no 64-bit end, or meets a table extent or
-- another place"
unfoldable pub places_sound : List Row → List ℕ → List Wanted → Bool
places_sound rows ps ws =
    eqb (length ps) (length ws) && (every (place_sound rows) (placed ps ws) && pairs places_apart (placed ps ws))
