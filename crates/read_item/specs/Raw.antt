-- For the code only: an item line's bytes, by the groups in which they are written.
use Rattle.std.specs.Prelude.{List, ◌++◌, ℕ}
use Rattle.endian.specs.Le.{enc}

abbrev pub eights : ℕ → ℕ → List ℕ
eights a b = enc 8 a ++ enc 8 b

-- a key: file, type and offset
abbrev pub key_bytes : ℕ → ℕ → List ℕ
key_bytes file key = enc 8 file ++ enc 1 108 ++ enc 8 key

-- compression, encryption, other encoding and kind
abbrev pub code_bytes : (compression encryption other kind : ℕ) → List ℕ
code_bytes compression encryption other kind = enc 1 compression ++ enc 1 encryption ++ enc 2 other ++ enc 1 kind

-- a shared number as its byte
abbrev pub byte : ℕ → List ℕ
byte v = enc 1 v
