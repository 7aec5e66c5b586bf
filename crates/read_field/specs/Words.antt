-- Fixed words at the start of a text (document 01, "extplan": "each line's opening word is compared byte for byte"). A text
-- is a list of bytes.
use Rattle.std.specs.Prelude.{Bool, true, false, ◌&&◌, List, [], ◌∷◌, ℕ, eqb}
use Prim.Native.Char.{code}
use Prim.Native.String.{String, [] as empty, ◌∷◌ as ◌then◌}

-- a quoted text as its bytes, in ASCII
abbrev pub bytes : String → List ℕ
bytes empty = []
bytes (c then s) = code c ∷ bytes s

-- the text s starts with the word w
unfoldable pub starts : List ℕ → List ℕ → Bool
starts [] s = true
starts (w ∷ ws) [] = false
starts (w ∷ ws) (b ∷ s) = eqb b w && starts ws s
