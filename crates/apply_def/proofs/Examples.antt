-- Plans applied, computed: planned ones, and ones that no planner makes.
use mathlib.Core.Path.{◌≡◌, refl}
use mathlib.Core.Bool.{false}
use mathlib.Core.List.{List, [], ◌∷◌, ◌++◌, map, flat_map}
use Prim.Native.Nat.{ℕ, ◌-◌, ◌^◌}
use lib.ListN.{replicate}
use Rattle.records.specs.Stages.{first, first_of, stage, every, pairs, neighbours}
use Rattle.records.specs.Select.{keep, any, count}
use Rattle.endian.specs.Le.{le, num, enc}
use Rattle.records.specs.Records.{records, chunks}
use Rattle.item.specs.Items.{regular_item, items, decode, item_of, encode}
use Rattle.item.proofs.Samples.{sample}
use Rattle.table.specs.declared.Row.{Row}
use Rattle.table.specs.Rows.{table_kept, find_from, rows, row_of}
use Rattle.lists.specs.Lists.{list_kept}
use Rattle.cut_def.specs.Pieces.{insert, insert_all}
use Rattle.cut_def.specs.Edits.{Edit, put, delete, items_after}
use Rattle.cut_def.specs.Refs.{Ref}
use Rattle.plan_def.specs.Plans.{Add}
use Rattle.plan_def.specs.Outputs.{edit_bytes}
use Rattle.plan_def.specs.ReadBack.{edit_in, ref_in, add_in}
use Rattle.apply_def.specs.Lent.{apply_lent}
use Rattle.apply_def.specs.Apply.{insert_row, insert_rows, rows_after, apply_refusal, Applying, applied, refusal, apply}

row : (start references made : ℕ) → Row
row start references made = record { start = start; length = 16384; references = references; made = made; keyed = 0 }

ref : (start : ℕ) → Ref
ref start = record { start = start; offset = 0 }

-- a plan of these parts, applied to one item of one extent with so many references
ask : (references : ℕ) (edits : List Edit) (shares unrefs releases : List Ref) (adds : List Add) → Applying
ask references edits shares unrefs releases adds =
    apply 4096 257 8 10 10 (sample 1 0 0 16384 ∷ []) (row 1048576 references 5 ∷ [])
    (record { edits = edits; shares = shares; unrefs = unrefs; releases = releases; adds = adds; writes = []; size = 0; bytes = 0; prealloc = false })

-- what is asked, and what is due
cases : List (Applying × Applying)
cases =
    -- nothing; a punch in the middle; a release; an add
    (ask 1 [] [] [] [] [], applied (sample 1 0 0 16384 ∷ []) (row 1048576 1 5 ∷ []))
    ∷ (ask 1 (put (sample 1 0 0 4096) ∷ put (sample 1 8192 8192 8192) ∷ []) (ref 1048576 ∷ []) [] [] [], applied (sample 1 0 0 4096 ∷ sample 1 8192 8192 8192 ∷ []) (row 1048576 2 5 ∷ []))
    ∷ (ask 1 (delete 0 ∷ []) [] [] (ref 1048576 ∷ []) [], applied [] [])
    ∷ (ask 1 (delete 0 ∷ put (regular_item 257 16384 8 4194304 16384) ∷ []) [] (ref 1048576 ∷ []) [] (record { start = 4194304; length = 16384; key = 16384 } ∷ []), applied (regular_item 257 16384 8 4194304 16384 ∷ []) (row 1048576 0 5 ∷ row 4194304 1 8 ∷ []))
    -- a row that any release names goes, even if shares name it too; unrefs alone leave it
    ∷ (ask 1 [] (ref 1048576 ∷ []) [] (ref 1048576 ∷ []) [], applied (sample 1 0 0 16384 ∷ []) [])
    ∷ (ask 1 [] [] (ref 1048576 ∷ []) [] [], applied (sample 1 0 0 16384 ∷ []) (row 1048576 0 5 ∷ []))
    -- deleting a key that is not there does nothing
    ∷ (ask 1 (delete 4096 ∷ []) [] [] [] [], applied (sample 1 0 0 16384 ∷ []) (row 1048576 1 5 ∷ []))
    -- 14: a line without a row, before 3: a net count below zero or past 64 bits
    ∷ (ask 0 [] [] (ref 1 ∷ ref 1048576 ∷ []) [] [], refusal 14)
    ∷ (ask 0 [] [] (ref 1048576 ∷ []) [] [], refusal 3)
    ∷ (ask 1 [] [] (ref 1048576 ∷ ref 1048576 ∷ []) [] [], refusal 3)
    ∷ (ask (2 ^ 64 - 1) [] (ref 1048576 ∷ []) [] [] [], refusal 3)
    ∷ (ask (2 ^ 64 - 1) [] (ref 1048576 ∷ []) (ref 1048576 ∷ []) [] [], applied (sample 1 0 0 16384 ∷ []) (row 1048576 (2 ^ 64 - 1) 5 ∷ []))
    -- a broken result: a list that overlaps or is of another file, or not whole sectors (2); a table that overlaps (3)
    ∷ (ask 1 (put (sample 1 4096 4096 4096) ∷ []) [] [] [] [], refusal 2)
    ∷ (ask 1 (put (regular_item 258 16384 8 4194304 16384) ∷ []) [] [] [] [], refusal 2)
    ∷ (ask 1 (put (sample 1 16384 0 100) ∷ []) [] [] [] [], refusal 2)
    ∷ (ask 1 [] [] [] [] (record { start = 1052672; length = 4096; key = 0 } ∷ []), refusal 3)
    -- edits that do not rise by key
    ∷ (ask 1 (delete 4096 ∷ delete 0 ∷ []) [] [] [] [], refusal 2)
    ∷ (ask 1 (delete 0 ∷ delete 0 ∷ []) [] [] [] [], refusal 2)
    ∷ []

-- ---- plans as they are lent

-- a list and a table of so many records, with room for one more of each
of_counts : (countItems countRows : ℕ) (edits shares adds : List ℕ) → Applying
of_counts countItems countRows edits shares adds =
    apply_lent 4096 257 8 countItems countRows (encode (sample 1 0 0 16384) ++ replicate 71 9) (1048576 ∷ 16384 ∷ 1 ∷ 5 ∷ 0 ∷ replicate 6 9)
    (record { edits = edits; shares = shares; unrefs = []; releases = []; adds = adds })

lent : (edits shares adds : List ℕ) → Applying
lent edits shares adds = of_counts 1 1 edits shares adds

at : (start : ℕ) → List ℕ
at start = start ∷ 16384 ∷ 0 ∷ []

lent_cases : List (Applying × Applying)
lent_cases =
    (lent [] [] [], applied (sample 1 0 0 16384 ∷ []) (row 1048576 1 5 ∷ []))
    -- what an operation lays out is read back: a put, a delete by key, a share
    ∷ (lent (edit_bytes 257 (put (sample 1 0 0 4096))) (1048576 ∷ 0 ∷ []) [], applied (sample 1 0 0 4096 ∷ []) (row 1048576 2 5 ∷ []))
    ∷ (lent (edit_bytes 258 (delete 0)) [] [], applied [] (row 1048576 1 5 ∷ []))
    ∷ (lent [] [] (at 4194304), applied (sample 1 0 0 16384 ∷ []) (row 1048576 1 5 ∷ row 4194304 1 8 ∷ []))
    -- what is behind the counts is room and not looked at; a count that the slice does not hold
    ∷ (of_counts 0 0 [] [] [], applied [] [])
    ∷ (of_counts 3 1 [] [] [], refusal 1)
    ∷ (of_counts 1 3 [] [] [], refusal 1)
    -- too little room
    ∷ (lent [] [] (at 4194304 ++ at 8388608), refusal 27)
    ∷ (lent (edit_bytes 257 (put (sample 1 16384 0 4096)) ++ edit_bytes 257 (put (sample 1 20480 0 4096))) [] [], refusal 27)
    -- broken lengths, and a byte that is neither put nor delete
    ∷ (lent (1 ∷ []) [] [], refusal 1)
    ∷ (lent (3 ∷ encode (sample 1 0 0 4096)) [] [], refusal 1)
    ∷ (lent (0 ∷ encode (sample 1 0 0 4096)) [] [], refusal 1)
    ∷ (lent [] (1048576 ∷ []) [], refusal 1)
    ∷ (lent [] [] (4194304 ∷ 16384 ∷ []), refusal 1)
    ∷ []

right_lent : map (λ (c : Applying × Applying). c.0) lent_cases ≡ map (λ (c : Applying × Applying). c.1) lent_cases
unfolding lent_cases of_counts lent at row first first_of stage every pairs neighbours keep any count flat_map table_kept find_from list_kept insert insert_all items_after insert_row insert_rows rows_after apply_refusal apply records chunks items decode item_of encode rows row_of edit_in ref_in add_in le num enc
right_lent = refl

right : map (λ (c : Applying × Applying). c.0) cases ≡ map (λ (c : Applying × Applying). c.1) cases
unfolding cases row ref ask first first_of stage every pairs neighbours keep any count flat_map table_kept find_from list_kept insert insert_all items_after insert_row insert_rows rows_after apply_refusal apply
right = refl
