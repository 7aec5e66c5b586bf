-- Lists and records at each bound of the definitions, computed.
use mathlib.Core.Path.{◌≡◌, refl}
use mathlib.Core.Bool.{true}
use mathlib.Core.List.{List, [], ◌∷◌}
use Prim.Native.Nat.{ℕ, ◌-◌, ◌^◌}
use lib.Dec.{eqb}
use Rattle.records.specs.Stages.{unless, first, first_of, every, pairs}
use Rattle.item.specs.Items.{Fields}
use Rattle.item.proofs.Samples.{sample}
use Rattle.lists.specs.Lists.{list_kept, whole_sectors, record_refusal}

-- a regular item
item : (key length : ℕ) → Fields
item key length = sample 1 key 0 length

encoded : (encryption other : ℕ) → Fields
encoded encryption other =
    record { file = 257; key_type = 108; key = 0; generation = 7; ram = 4096; compression = 0; encryption = encryption; other = other; kind = 1; extent_start = 0; extent_length = 0; position = 0; length = 4096 }

typed : ℕ → Fields
typed key_type =
    record { file = 257; key_type = key_type; key = 0; generation = 7; ram = 4096; compression = 0; encryption = 0; other = 0; kind = 1; extent_start = 0; extent_length = 0; position = 0; length = 4096 }

two : List Fields → ℕ
two fs = unless (list_kept 257 fs) 2

-- what is given, and what is due
cases : List (ℕ × ℕ)
cases =
    (two [], 0)
    ∷ (two (item 0 4096 ∷ []), 0)
    ∷ (unless (list_kept 258 (item 0 4096 ∷ [])) 2, 2)
    ∷ (two (typed 107 ∷ []), 2)
    ∷ (two (typed 109 ∷ []), 2)
    -- length at least 1
    ∷ (two (item 0 0 ∷ []), 2)
    ∷ (two (item 0 1 ∷ []), 0)
    -- ends at most at 2^63
    ∷ (two (item (2 ^ 63 - 4096) 4096 ∷ []), 0)
    ∷ (two (item (2 ^ 63 - 4096) 4097 ∷ []), 2)
    -- position + length fits 64 bits
    ∷ (two (sample 1 0 (2 ^ 64 - 4097) 4096 ∷ []), 0)
    ∷ (two (sample 1 0 (2 ^ 64 - 4096) 4096 ∷ []), 2)
    -- keys rise strictly, ranges touch and do not overlap
    ∷ (two (item 0 4096 ∷ item 4096 4096 ∷ []), 0)
    ∷ (two (item 0 4097 ∷ item 4096 4096 ∷ []), 2)
    ∷ (two (item 4096 4096 ∷ item 0 4096 ∷ []), 2)
    ∷ (two (sample 0 0 0 0 ∷ sample 0 0 0 0 ∷ []), 2)
    -- inline records and kinds over 2 take no part in overlap, and have no range
    ∷ (two (item 0 8192 ∷ sample 0 4096 0 0 ∷ item 8192 4096 ∷ []), 0)
    ∷ (two (item 0 8192 ∷ sample 3 4096 0 0 ∷ item 4097 4096 ∷ []), 2)
    ∷ (two (sample 0 (2 ^ 64 - 1) (2 ^ 64 - 1) (2 ^ 64 - 1) ∷ []), 0)
    -- whole sectors
    ∷ (unless (whole_sectors 4096 (item 4096 8192)) 4, 0)
    ∷ (unless (whole_sectors 4096 (item 4095 8192)) 4, 4)
    ∷ (unless (whole_sectors 4096 (item 4096 8191)) 4, 4)
    ∷ (unless (whole_sectors 4096 (sample 0 1 0 1)) 4, 0)
    -- records
    ∷ (record_refusal (sample 0 0 0 0), 7)
    ∷ (record_refusal (sample 1 0 0 0), 0)
    ∷ (record_refusal (sample 2 0 0 0), 0)
    ∷ (record_refusal (sample 3 0 0 0), 8)
    ∷ (record_refusal (encoded 0 0), 0)
    ∷ (record_refusal (encoded 1 0), 9)
    ∷ (record_refusal (encoded 0 256), 9)
    ∷ []

right : every (λ (c : ℕ × ℕ). eqb c.0 c.1) cases ≡ true
unfolding cases two item typed encoded list_kept every pairs first first_of
right = refl
