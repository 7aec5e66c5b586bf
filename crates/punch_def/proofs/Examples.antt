-- Punches at their bounds, computed.
use mathlib.Core.Path.{◌≡◌, refl}
use mathlib.Core.Bool.{false}
use mathlib.Core.List.{List, [], ◌∷◌, map, flat_map}
use Prim.Native.Nat.{ℕ, ◌-◌, ◌^◌}
use Rattle.records.specs.Stages.{first, first_of, stage, every, pairs, neighbours}
use Rattle.records.specs.Select.{keep, any, count}
use Rattle.item.specs.Items.{Fields, regular_item, with_numbers}
use Rattle.table.proofs.Samples.{sample_row}
use Rattle.item.proofs.Samples.{sample}
use Rattle.table.specs.Rows.{table_kept, find_from}
use Rattle.lists.specs.Lists.{list_kept}
use Rattle.request.specs.Lent.{lent_refusal}
use Rattle.request.specs.Answers.{Outcome, plan, nothing, refused}
use Rattle.cut_def.specs.Mappings.{holder}
use Rattle.cut_def.specs.Pieces.{cut_pieces, insert, insert_all, counted_bytes}
use Rattle.cut_def.specs.Joins.{join_around, join_all}
use Rattle.cut_def.specs.Edits.{Edit, put, delete, edits}
use Rattle.cut_def.specs.Refs.{Ref}
use Rattle.ref_def.specs.Compared.{insert_ref, sorted, without, minus}
use Rattle.ref_def.specs.Drops.{in_leaves, due_of}
use Rattle.plan_def.specs.Plans.{Plan, Write, refused_or}
use Rattle.plan_def.specs.Places.{placed, places_sound}
use Rattle.change_def.specs.Preallocs.{pieces_from}
use Rattle.change_def.specs.Rewrites.{holder_of, each_in_place}
use Rattle.change_def.specs.Changes.{new_items, writes_anew, pieces_written, pieces_joined, drops, change_refusal, pieces_after, changed}
use Rattle.punch_def.specs.Punch.{first_held, plan_punch, range_refusal, punch}

ask : (generation size : ℕ) (fs : List Fields) (shared : List ℕ) (references : ℕ) (places : List ℕ) (offset length : ℕ) → Outcome Plan
ask generation size fs shared references places offset length =
    punch (record { sector = 4096; total = 1073741824; generation = generation; snapshot = 0 }) (record { number = 257; size = size; nodatacow = false })
    (record { offset = offset; length = length }) fs shared (sample_row references ∷ []) places
    (record { edits = 710; shares = 20; unrefs = 20; releases = 20; adds = 30; writes = 40 })

one : (references : ℕ) (places : List ℕ) (offset length : ℕ) → Outcome Plan
one references places offset length = ask 7 16384 (sample 1 0 0 16384 ∷ []) (0 ∷ []) references places offset length

-- a plan without new extents
planned : (edits : List Edit) (shares unrefs releases : List Ref) (writes : List Write) (size bytes : ℕ) → Outcome Plan
planned edits shares unrefs releases writes size bytes =
    plan (record { edits = edits; shares = shares; unrefs = unrefs; releases = releases; adds = []; writes = writes; size = size; bytes = bytes; prealloc = false })

line : List Ref
line = record { start = 1048576; offset = 0 } ∷ []

-- what is asked, and what is due
cases : List (Outcome Plan × Outcome Plan)
cases =
    -- 5, and 6 at 2^63 but not at 2^63 - 1
    (one 1 [] 0 0, refused 5)
    ∷ (one 1 [] (2 ^ 63 - 2) 1, nothing)
    ∷ (one 1 [] (2 ^ 63 - 2) 2, refused 6)
    ∷ (one 1 [] (2 ^ 63 - 1) 1, refused 6)
    -- 5 before 6, both before 7, 8 and 9, which go record by record
    ∷ (ask 7 16384 (sample 0 0 0 0 ∷ []) (0 ∷ []) 1 [] (2 ^ 63) 0, refused 5)
    ∷ (ask 7 16384 (sample 0 0 0 0 ∷ []) (0 ∷ []) 1 [] (2 ^ 63) 1, refused 6)
    ∷ (ask 7 16384 (sample 3 0 0 0 ∷ sample 0 4096 0 0 ∷ []) (0 ∷ 0 ∷ []) 1 [] 0 1, refused 8)
    ∷ (ask 7 16384 (sample 0 0 0 0 ∷ sample 3 4096 0 0 ∷ []) (0 ∷ 0 ∷ []) 1 [] 0 1, refused 7)
    -- nothing to do where no item that is no hole holds a byte; then places are not looked at
    ∷ (one 1 (1 ∷ []) 16384 4096, nothing)
    ∷ (ask 7 16384 [] [] 1 [] 0 16384, nothing)
    ∷ (ask 7 16384 (regular_item 257 0 7 0 16384 ∷ []) (0 ∷ []) 1 [] 0 16384, nothing)
    -- a range that starts in a hole starts at the first item: here the second sector
    ∷ (ask 7 16384 (sample 1 4096 4096 12288 ∷ []) (0 ∷ []) 1 [] 100 8092, planned (delete 4096 ∷ put (sample 1 8192 8192 8192) ∷ []) [] [] [] [] 16384 8192)
    -- P2 with references 2: one unref and no release; a shared leaf does the same
    ∷ (one 1 [] 0 16384, planned (delete 0 ∷ []) [] [] line [] 16384 0)
    ∷ (one 2 [] 0 16384, planned (delete 0 ∷ []) [] line [] [] 16384 0)
    ∷ (ask 7 16384 (sample 1 0 0 16384 ∷ []) (1 ∷ []) 1 [] 0 16384, planned (delete 0 ∷ []) [] line [] [] 16384 0)
    -- past the size rounded up a partly covered sector is neither cut nor rewritten: a plan without edits, which looks at
    -- places and generation
    ∷ (ask 7 4096 (sample 1 0 0 16384 ∷ []) (0 ∷ []) 1 [] 8200 100, planned [] [] [] [] [] 4096 16384)
    ∷ (ask 7 4096 (sample 1 0 0 16384 ∷ []) (0 ∷ []) 1 (4194304 ∷ []) 8200 100, refused 26)
    ∷ (ask (2 ^ 64 - 1) 4096 (sample 1 0 0 16384 ∷ []) (0 ∷ []) 1 [] 8200 100, refused 13)
    -- 26: one place too few or too many
    ∷ (one 1 [] 100 50, refused 26)
    ∷ (one 1 (4194304 ∷ 8388608 ∷ []) 100 50, refused 26)
    -- a preallocated item: written in place, from the range's first offset
    ∷ (ask 7 16384 (sample 2 0 0 16384 ∷ []) (0 ∷ []) 1 [] 4000 8288, planned (put (with_numbers (sample 1 0 0 4096) 257 0 8 1 0 4096) ∷ put (sample 2 12288 12288 4096) ∷ []) line [] [] (record { key = 0; at = 1048576; first = 4000; end = 4096 } ∷ []) 16384 8192)
    ∷ []

right : map (λ (c : Outcome Plan × Outcome Plan). c.0) cases ≡ map (λ (c : Outcome Plan × Outcome Plan). c.1) cases
unfolding cases ask one planned line first first_of stage every pairs neighbours keep any count flat_map table_kept find_from list_kept lent_refusal holder cut_pieces insert insert_all counted_bytes join_around join_all edits insert_ref sorted without minus in_leaves due_of refused_or placed places_sound pieces_from holder_of each_in_place new_items writes_anew pieces_written pieces_joined drops change_refusal pieces_after changed first_held plan_punch range_refusal punch
right = refl
