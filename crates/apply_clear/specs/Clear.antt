-- For the code only: whether the rows of adds are sound, and clear of the rows that stay and of each other.
use Rattle.std.specs.Prelude.{Bool, true, ◌&&◌, ◌||◌, not, List, [], ◌∷◌, ℕ, ◌+◌, ◌^◌, eqb, ltb}
use Rattle.records.specs.Stages.{every}
use Rattle.table.specs.declared.Row.{Row}
use Rattle.plan_def.specs.Plans.{Add}
use Rattle.plan_def.specs.Places.{clear}

-- an add's row has a start, a length, and a 64-bit end
abbrev pub add_sound : Add → Bool
add_sound a = not (eqb a.start 0) && not (eqb a.length 0) && ltb (a.start + a.length) (2 ^ 64)

-- it shares no byte with a row that stays
unfoldable pub clear_staying : (gone : List Bool) → (start length : ℕ) → List Row → Bool
clear_staying (g ∷ gs) start length (r ∷ rs) = (g || clear start length r.start r.length) && clear_staying gs start length rs
clear_staying gs start length rs = true

-- nor with another add
abbrev pub clear_of : (start length : ℕ) → Add → Bool
clear_of start length b = clear b.start b.length start length

abbrev pub add_fits : (gone : List Bool) → List Row → Add → List Add → Bool
add_fits gone rs a adds = add_sound a && (clear_staying gone a.start a.length rs && every (clear_of a.start a.length) adds)

unfoldable pub adds_fit : (gone : List Bool) → List Row → List Add → Bool
adds_fit gone rs [] = true
adds_fit gone rs (a ∷ adds) = add_fits gone rs a adds && adds_fit gone rs adds

-- ---- the same in two parts: each add by itself, and every two

abbrev pub add_alone : (gone : List Bool) → List Row → Add → Bool
add_alone gone rs a = add_sound a && clear_staying gone a.start a.length rs

abbrev pub adds_apart : Add → Add → Bool
adds_apart a b = clear_of a.start a.length b
