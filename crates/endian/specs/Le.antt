-- Little-endian numbers in a list of bytes (document 01, "What a call is lent": "A record is 70 bytes, little-endian").
use Rattle.std.specs.Prelude.{List, [], ◌∷◌, ◌++◌, ℕ, zero, suc, ◌+◌, ◌*◌, ◌/◌, ◌%◌, ◌<◌, length, get_or, take, drop}

-- the number that some bytes are, lowest byte first
unfoldable pub le : List ℕ → ℕ
le [] = 0
le (b ∷ s) = b + 256 * le s

-- the number in the w bytes from `at`
unfoldable pub num : ℕ → ℕ → List ℕ → ℕ
num w at s = le (take w (drop at s))

-- the lowest w bytes of a number
unfoldable pub enc : ℕ → ℕ → List ℕ
enc zero v = []
enc (suc w) v = v % 256 ∷ enc w (v / 256)

-- `vs` laid over `d` from `at`; all other elements stay
unfoldable pub put : List ℕ → ℕ → List ℕ → List ℕ
put vs at d = take at d ++ vs ++ drop (at + length vs) d

-- how many numbers w bytes can say
unfoldable pub room : ℕ → ℕ
room zero = 1
room (suc w) = 256 * room w

-- every element is a byte
abbrev pub Bytes : List ℕ → Type 0
Bytes s = (i : ℕ) → get_or s i 0 < 256
