-- The order of an input's lines (document 01, "extplan"): "Lines come as volume, file, items, a clone's second file and
-- items, extents, places (not for a clone), one request".
use Rattle.std.specs.Prelude.{List, [], ◌∷◌, ℕ, get_or}

-- What was read so far: 0 a line at fault, 1 nothing, 2 the volume, 3 the file and items of it, 4 the second file and
-- items of it, 5 extents, 6 extents behind a second file, 7 places, 8 the request. For each kind of line, what it makes
-- of these nine; 0: no right input goes on with it.
abbrev pub unreadable_line : List ℕ
unreadable_line = 0 ∷ 0 ∷ 0 ∷ 0 ∷ 0 ∷ 0 ∷ 0 ∷ 0 ∷ 0 ∷ []

abbrev pub volume_line : List ℕ
volume_line = 0 ∷ 2 ∷ 0 ∷ 0 ∷ 0 ∷ 0 ∷ 0 ∷ 0 ∷ 0 ∷ []

abbrev pub file_line : List ℕ
file_line = 0 ∷ 0 ∷ 3 ∷ 4 ∷ 0 ∷ 0 ∷ 0 ∷ 0 ∷ 0 ∷ []

abbrev pub item_line : List ℕ
item_line = 0 ∷ 0 ∷ 0 ∷ 3 ∷ 4 ∷ 0 ∷ 0 ∷ 0 ∷ 0 ∷ []

abbrev pub extent_line : List ℕ
extent_line = 0 ∷ 0 ∷ 0 ∷ 5 ∷ 6 ∷ 5 ∷ 6 ∷ 0 ∷ 0 ∷ []

abbrev pub place_line : List ℕ
place_line = 0 ∷ 0 ∷ 0 ∷ 7 ∷ 0 ∷ 7 ∷ 0 ∷ 7 ∷ 0 ∷ []

-- a punch or a fallocate: not behind a second file
abbrev pub range_line : List ℕ
range_line = 0 ∷ 0 ∷ 0 ∷ 8 ∷ 0 ∷ 8 ∷ 0 ∷ 8 ∷ 0 ∷ []

-- a clone: not behind places
abbrev pub clone_line : List ℕ
clone_line = 0 ∷ 0 ∷ 0 ∷ 8 ∷ 8 ∷ 8 ∷ 8 ∷ 0 ∷ 0 ∷ []

-- by kind: 0 unreadable, 1 volume, 2 file, 3 item, 4 extent, 5 place, 6 punch, 7 fallocate, 8 clone
abbrev pub order : List (List ℕ)
order = unreadable_line ∷ volume_line ∷ file_line ∷ item_line ∷ extent_line ∷ place_line ∷ range_line ∷ range_line ∷ clone_line ∷ []

-- what is read after a line of a kind
unfoldable pub next : (phase kind : ℕ) → ℕ
next phase kind = get_or (get_or order kind []) phase 0
