-- The buffers that an input is read into: items, shared bytes, rows and places.
use Rattle.std.specs.Prelude.{List, ℕ}

pub record Buffers : Type 0 where
  pub items : List ℕ
  pub shared : List ℕ
  pub table : List ℕ
  pub places : List ℕ

abbrev pub buffers : (items shared table places : List ℕ) → Buffers
buffers items shared table places = record { items = items; shared = shared; table = table; places = places }
