-- Clones at their bounds, computed.
use mathlib.Core.Path.{◌≡◌, refl}
use mathlib.Core.Bool.{true, false}
use mathlib.Core.List.{List, [], ◌∷◌, map, flat_map}
use Prim.Native.Nat.{ℕ, ◌-◌, ◌^◌}
use Rattle.records.specs.Stages.{first, first_of, stage, every, pairs, neighbours}
use Rattle.records.specs.Select.{keep, any, count}
use Rattle.item.specs.Items.{Fields, regular_item, with_numbers}
use Rattle.table.proofs.Samples.{sample_row}
use Rattle.item.proofs.Samples.{window_of}
use Rattle.table.specs.Rows.{table_kept, find_from}
use Rattle.lists.specs.Lists.{list_kept}
use Rattle.request.specs.Lent.{lent_refusal2}
use Rattle.request.specs.Answers.{Outcome, plan, nothing, refused}
use Rattle.cut_def.specs.Pieces.{cut_pieces, insert, insert_all, counted_bytes}
use Rattle.cut_def.specs.Edits.{Edit, put, edits}
use Rattle.cut_def.specs.Refs.{Ref}
use Rattle.ref_def.specs.Drops.{in_leaves, due_of}
use Rattle.plan_def.specs.Plans.{Plan, refused_or}
use Rattle.clone_items.specs.Replacing.{pieces_now}
use Rattle.clone_def.specs.Clone.{lent_and_source, clone_refusal, drafted, clone}

other : (file key length : ℕ) → Fields
other file key length = regular_item file key 7 4194304 length

-- into file 258 of a size, with these items, from file 257 of 16384 bytes in one item
ask_at : (generation size : ℕ) (fs : List Fields) (shared : List ℕ) (from to length : ℕ) → Outcome Plan
ask_at generation size fs shared from to length =
    clone (record { sector = 4096; total = 1073741824; generation = generation; snapshot = 0 }) (record { number = 258; size = size; nodatacow = false }) (record { number = 257; size = 16384; nodatacow = false }) false
    (record { from = from; to = to; length = length }) fs shared (window_of 257 1 0 1048576 0 16384 ∷ [])
    (sample_row 1 ∷ record { start = 4194304; length = 16384; references = 1; made = 5; keyed = 0 } ∷ [])
    (record { edits = 710; shares = 20; unrefs = 20; releases = 20; adds = 0; writes = 0 })

ask : (size : ℕ) (fs : List Fields) (shared : List ℕ) (from to length : ℕ) → Outcome Plan
ask size fs shared from to length = ask_at 7 size fs shared from to length

-- within file 257 of a size with one item of 16384 bytes
own : (size : ℕ) (from to length : ℕ) → Outcome Plan
own size from to length =
    clone (record { sector = 4096; total = 1073741824; generation = 7; snapshot = 0 }) (record { number = 257; size = size; nodatacow = false }) (record { number = 257; size = size; nodatacow = false }) true
    (record { from = from; to = to; length = length }) (window_of 257 1 0 1048576 0 16384 ∷ []) (0 ∷ []) []
    (sample_row 1 ∷ [])
    (record { edits = 710; shares = 20; unrefs = 20; releases = 20; adds = 0; writes = 0 })

ref : (start offset : ℕ) → Ref
ref start offset = record { start = start; offset = offset }

planned : (edits : List Edit) (shares unrefs releases : List Ref) (size bytes : ℕ) → Outcome Plan
planned edits shares unrefs releases size bytes =
    plan (record { edits = edits; shares = shares; unrefs = unrefs; releases = releases; adds = []; writes = []; size = size; bytes = bytes; prealloc = false })

-- what is asked, and what is due
cases : List (Outcome Plan × Outcome Plan)
cases =
    -- trimmed in front and behind, moved, shared at the destination's reference offset
    (ask 0 [] [] 4096 0 8192, planned (put (window_of 258 1 0 1048576 4096 8192) ∷ []) (ref 1048576 18446744073709547520 ∷ []) [] [] 8192 8192)
    ∷ (ask 0 [] [] 4096 8192 4096, planned (put (window_of 258 1 8192 1048576 4096 4096) ∷ []) (ref 1048576 4096 ∷ []) [] [] 12288 4096)
    -- length 0 means to the source's end; the empty remainder is nothing, after 22 and before 6
    ∷ (ask 0 [] [] 8192 0 0, planned (put (window_of 258 1 0 1048576 8192 8192) ∷ []) (ref 1048576 18446744073709543424 ∷ []) [] [] 8192 8192)
    ∷ (ask 0 [] [] 16384 (2 ^ 63) 0, nothing)
    -- what was there is replaced: covered items released or dropped, split ones shared
    ∷ (ask 16384 (other 258 0 16384 ∷ []) (0 ∷ []) 0 0 16384, planned (put (window_of 258 1 0 1048576 0 16384) ∷ []) (ref 1048576 0 ∷ []) [] (ref 4194304 0 ∷ []) 16384 16384)
    ∷ (ask 16384 (other 258 0 16384 ∷ []) (1 ∷ []) 0 0 16384, planned (put (window_of 258 1 0 1048576 0 16384) ∷ []) (ref 1048576 0 ∷ []) (ref 4194304 0 ∷ []) [] 16384 16384)
    ∷ (ask 16384 (other 258 0 16384 ∷ []) (0 ∷ []) 0 4096 4096, planned (put (with_numbers (other 258 0 16384) 258 0 7 1 0 4096) ∷ put (window_of 258 1 4096 1048576 0 4096) ∷ put (with_numbers (other 258 0 16384) 258 8192 7 1 8192 8192) ∷ []) (ref 4194304 0 ∷ ref 1048576 4096 ∷ []) [] [] 16384 16384)
    -- the same record that stood there is put again
    ∷ (ask 16384 (window_of 258 1 0 1048576 0 16384 ∷ []) (0 ∷ []) 0 0 16384, planned (put (window_of 258 1 0 1048576 0 16384) ∷ []) (ref 1048576 0 ∷ []) [] (ref 1048576 0 ∷ []) 16384 16384)
    -- 19, 20, 21, 22, in order
    ∷ (ask 0 [] [] 16385 1 1, refused 19)
    ∷ (ask 0 [] [] 16383 1 2, refused 20)
    ∷ (ask 0 [] [] 100 0 1, refused 21)
    ∷ (ask 0 [] [] 0 100 1, refused 21)
    ∷ (ask 0 [] [] 0 0 100, refused 22)
    -- 6 is of the destination's bytes
    ∷ (ask 0 [] [] 0 (2 ^ 63 - 4096) 4096, refused 6)
    ∷ (ask 0 [] [] 0 (2 ^ 63 - 8192) 4096, planned (put (window_of 258 1 (2 ^ 63 - 8192) 1048576 0 4096) ∷ []) (ref 1048576 (2 ^ 63 - 8192) ∷ []) [] [] (2 ^ 63 - 4096) 4096)
    -- within one file: 24 where ranges overlap, not where they touch; 25 and 23 at a partial last sector
    ∷ (own 16384 0 4096 8192, refused 24)
    ∷ (own 16384 8192 4096 8192, refused 24)
    ∷ (own 16384 0 8192 8192, planned (put (window_of 257 1 0 1048576 0 8192) ∷ put (window_of 257 1 8192 1048576 0 8192) ∷ []) (ref 1048576 8192 ∷ []) [] [] 16384 16384)
    ∷ (own 100 0 4096 100, refused 25)
    ∷ (own 8193 8192 4096 1, refused 23)
    -- no generation is left
    ∷ (ask_at (2 ^ 64 - 1) 0 [] [] 0 0 16384, refused 13)
    -- a destination's inline record, and one of kind 3
    ∷ (ask 16384 (window_of 258 0 0 1048576 0 0 ∷ []) (0 ∷ []) 0 4096 4096, refused 7)
    ∷ (ask 16384 (window_of 258 3 0 1048576 0 0 ∷ []) (0 ∷ []) 0 4096 4096, refused 8)
    ∷ []

right : map (λ (c : Outcome Plan × Outcome Plan). c.0) cases ≡ map (λ (c : Outcome Plan × Outcome Plan). c.1) cases
unfolding cases other ask_at ask own ref planned first first_of stage every pairs neighbours keep any count flat_map table_kept find_from list_kept lent_refusal2 cut_pieces insert insert_all counted_bytes edits in_leaves due_of refused_or lent_and_source clone_refusal drafted clone pieces_now
right = refl
