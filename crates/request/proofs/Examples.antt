-- The order of refusals 1 to 4, computed.
use mathlib.Core.Path.{◌≡◌, refl}
use mathlib.Core.Bool.{Bool, true, false}
use mathlib.Core.List.{List, [], ◌∷◌}
use Prim.Native.Nat.{ℕ, ◌-◌, ◌^◌}
use lib.Dec.{eqb}
use Rattle.endian.specs.Le.{le, num, enc}
use Rattle.records.specs.Records.{chunks, records}
use Rattle.records.specs.Stages.{first, first_of, every, pairs, neighbours}
use Rattle.item.specs.Items.{items, decode, item_of, encode, regular_item}
use Rattle.lists.specs.Lists.{list_kept}
use Rattle.table.specs.Rows.{rows, row_of, table_kept}
use Rattle.request.specs.declared.Volume.{Volume}
use Rattle.request.specs.declared.File.{File}
use Rattle.request.specs.Lent.{lent_refusal, lent_refusal2, lent, lent2}

volume : ℕ → Volume
volume sector = record { sector = sector; total = 1073741824; generation = 7; snapshot = 0 }

file : ℕ → ℕ → File
file number size = record { number = number; size = size; nodatacow = false }

-- one record of file 257
record_257 : (key length : ℕ) → List ℕ
record_257 key length = encode (regular_item 257 key 7 1048576 length)

row : (start keyed : ℕ) → List ℕ
row start keyed = start ∷ 16384 ∷ 1 ∷ 5 ∷ keyed ∷ []

one : (sector size : ℕ) (list shared table : List ℕ) → ℕ
one sector size list shared table = lent (volume sector) (file 257 size) list shared table

two : (number : ℕ) → Bool → (source : List ℕ) → ℕ
two number own source = lent2 (volume 4096) (file 257 0) (file number 0) own [] [] source []

-- what is given, and what is due
cases : List (ℕ × ℕ)
cases =
    (one 4096 16384 [] [] [], 0)
    ∷ (one 4096 16384 (record_257 0 16384) (0 ∷ []) (row 1048576 0), 0)
    -- sizes of 2^63 - 1 and sectors of 65,536 are the largest
    ∷ (one 65536 (2 ^ 63 - 1) [] [] [], 0)
    ∷ (one 4096 (2 ^ 63) [] [] [], 4)
    ∷ (one 131072 0 [] [] [], 4)
    ∷ (one 2048 0 [] [] [], 4)
    ∷ (one 12288 0 [] [] [], 4)
    ∷ (one 0 0 [] [] [], 4)
    -- 1 comes before 2, 2 before 3, 3 before 4
    ∷ (one 0 0 (0 ∷ []) [] (row 0 0), 1)
    ∷ (one 0 0 [] (0 ∷ []) (row 0 0), 1)
    ∷ (one 0 0 (record_257 0 0) (2 ∷ []) (row 0 0), 1)
    ∷ (one 0 0 [] [] (1 ∷ []), 1)
    ∷ (one 0 0 (record_257 0 0) (1 ∷ []) (row 0 0), 2)
    ∷ (one 0 0 (record_257 0 1) (1 ∷ []) (row 0 0), 3)
    ∷ (one 0 0 (record_257 0 1) (1 ∷ []) (row 1 1), 4)
    ∷ (one 4096 0 (record_257 0 1) (1 ∷ []) (row 1 1), 4)
    -- a second list of the first one's number gives 2, even if empty
    ∷ (two 258 false [], 0)
    ∷ (two 257 false [], 2)
    ∷ (two 257 true [], 0)
    ∷ (two 258 false (record_257 0 4096), 2)
    ∷ []

right : every (λ (c : ℕ × ℕ). eqb c.0 c.1) cases ≡ true
unfolding cases one two volume file record_257 row lent_refusal lent_refusal2 first first_of every pairs neighbours items decode item_of encode records chunks list_kept rows row_of table_kept le num enc
right = refl
