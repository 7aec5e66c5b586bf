-- For the code only: what the private functions do to an item's bytes. They unfold everywhere, so that their callers are proved unasked.
use Rattle.std.specs.Prelude.{ℕ, replicate}
use Rattle.endian.specs.Le.{enc, put}
use Rattle.item.specs.declared.Item.{Item}

-- w bytes of v over the data, from `at`
abbrev pub written : Item → ℕ → ℕ → ℕ → Item
written i at w v = record { file = i.file; key_type = i.key_type; key = i.key; «data» = put (enc w v) at i.«data» }

-- an item whose data are zeros
abbrev pub blank : ℕ → ℕ → Item
blank file key = record { file = file; key_type = 108; key = key; «data» = replicate 53 0 }
