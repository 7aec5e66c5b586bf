-- Fallocates at their bounds, computed.
use mathlib.Core.Path.{◌≡◌, refl}
use mathlib.Core.Bool.{Bool, true, false}
use mathlib.Core.List.{List, [], ◌∷◌, map, flat_map}
use Prim.Native.Nat.{ℕ}
use Rattle.records.specs.Stages.{first, first_of, stage, every, pairs, neighbours}
use Rattle.records.specs.Select.{keep, any, count}
use Rattle.item.specs.Items.{Fields, regular_item, of_kind}
use Rattle.table.proofs.Samples.{sample_row}
use Rattle.item.proofs.Samples.{sample}
use Rattle.table.specs.Rows.{table_kept, find_from}
use Rattle.lists.specs.Lists.{list_kept}
use Rattle.request.specs.Lent.{lent_refusal}
use Rattle.request.specs.Answers.{Outcome, plan, refused}
use Rattle.cut_def.specs.Mappings.{holder}
use Rattle.cut_def.specs.Pieces.{cut_pieces, insert, insert_all, counted_bytes}
use Rattle.cut_def.specs.Joins.{join_around, join_all}
use Rattle.cut_def.specs.Edits.{Edit, put, edits}
use Rattle.ref_def.specs.Compared.{insert_ref, sorted, without, minus}
use Rattle.ref_def.specs.Drops.{in_leaves, due_of}
use Rattle.plan_def.specs.Plans.{Plan, Add, Write, refused_or}
use Rattle.plan_def.specs.Places.{placed, places_sound}
use Rattle.change_def.specs.Preallocs.{Stretch, pieces_from, sum_of}
use Rattle.change_def.specs.Rewrites.{holder_of, each_in_place}
use Rattle.change_def.specs.Changes.{new_items, writes_anew, pieces_written, pieces_joined, drops, change_refusal, pieces_after, changed}
use Rattle.punch_def.specs.Punch.{range_refusal}
use Rattle.fallocate_def.specs.Fallocate.{less_items, holes_to_allocate, fallocate_refusal, fallocate}

-- a file with one item of these numbers
ask : (total size : ℕ) (keepSize : Bool) (fs : List Fields) (shared places : List ℕ) (offset length : ℕ) → Outcome Plan
ask total size keepSize fs shared places offset length =
    fallocate (record { sector = 4096; total = total; generation = 7; snapshot = 0 }) (record { number = 257; size = size; nodatacow = false })
    (record { offset = offset; length = length }) keepSize fs shared (sample_row 1 ∷ []) places
    (record { edits = 710; shares = 20; unrefs = 20; releases = 20; adds = 30; writes = 40 })

span : ℕ → ℕ → Stretch
span start length = record { start = start; length = length }

-- the holes of a range of a file with items at [4096, 8192) and [12288, 16384)
holes : (size offset stop : ℕ) → List Stretch
holes size offset stop = holes_to_allocate size 4096 offset stop (sample 1 4096 0 4096 ∷ sample 1 12288 8192 4096 ∷ [])

piece : (key place length : ℕ) → Fields
piece key place length = of_kind (regular_item 257 key 8 place length) 2

data Told : Type 0 where
  answer : Outcome Plan → Told
  spans : List Stretch → Told

planned : (edits : List Edit) (adds : List Add) (writes : List Write) (size bytes : ℕ) (prealloc : Bool) → Told
planned edits adds writes size bytes prealloc =
    answer (plan (record { edits = edits; shares = []; unrefs = []; releases = []; adds = adds; writes = writes; size = size; bytes = bytes; prealloc = prealloc }))

-- what is asked, and what is due
cases : List (Told × Told)
cases =
    -- holes: the range rounded out, less the items
    (spans (holes 16384 0 20480), spans (span 0 4096 ∷ span 8192 4096 ∷ span 16384 4096 ∷ []))
    ∷ (spans (holes 16384 8193 8194), spans (span 8192 4096 ∷ []))
    ∷ (spans (holes 16384 4096 8192), spans [])
    ∷ (spans (holes 16384 4095 8193), spans (span 0 4096 ∷ span 8192 4096 ∷ []))
    -- and less the sector of an old end inside a sector, when the range ends past the size
    ∷ (spans (holes 16385 16384 24576), spans (span 20480 4096 ∷ []))
    ∷ (spans (holes 100 0 4096), spans [])
    ∷ (spans (holes 100 0 100), spans (span 0 4096 ∷ []))
    -- no edits where all is held; never nothing
    ∷ (answer (ask 1073741824 16384 false (sample 1 0 0 16384 ∷ []) (0 ∷ []) [] 0 16384), planned [] [] [] 16384 16384 false)
    -- keep-size or not
    ∷ (answer (ask 1073741824 16384 true (sample 1 0 0 16384 ∷ []) (0 ∷ []) (4194304 ∷ []) 16384 1), planned (put (piece 16384 4194304 4096) ∷ []) (record { start = 4194304; length = 4096; key = 16384 } ∷ []) [] 16384 20480 true)
    ∷ (answer (ask 1073741824 16384 false (sample 1 0 0 16384 ∷ []) (0 ∷ []) (4194304 ∷ []) 16384 1), planned (put (piece 16384 4194304 4096) ∷ []) (record { start = 4194304; length = 4096; key = 16384 } ∷ []) [] 16385 20480 true)
    -- the old end's sector is rewritten from the size on, and takes the first place
    ∷ (answer (ask 1073741824 100 false [] [] (4194304 ∷ 8388608 ∷ []) 4096 1), planned (put (regular_item 257 0 8 4194304 4096) ∷ put (piece 4096 8388608 4096) ∷ []) (record { start = 4194304; length = 4096; key = 0 } ∷ record { start = 8388608; length = 4096; key = 4096 } ∷ []) (record { key = 0; at = 4194304; first = 100; end = 4096 } ∷ []) 4097 8192 true)
    -- 10: a hole item in the rounded range; 11: a regular item at or past the size, by its key
    ∷ (answer (ask 1073741824 16384 false (regular_item 257 0 7 0 4096 ∷ []) (0 ∷ []) [] 4095 1), answer (refused 10))
    ∷ (answer (ask 1073741824 16384 false (regular_item 257 0 7 0 4096 ∷ []) (0 ∷ []) (4194304 ∷ []) 4096 1), planned (put (piece 4096 4194304 4096) ∷ []) (record { start = 4194304; length = 4096; key = 4096 } ∷ []) [] 16384 4096 true)
    ∷ (answer (ask 1073741824 4096 false (sample 1 4096 0 4096 ∷ []) (0 ∷ []) [] 4096 4096), answer (refused 11))
    ∷ (answer (ask 1073741824 4097 true (sample 1 4096 0 4096 ∷ []) (0 ∷ []) [] 4096 1), planned [] [] [] 4097 4096 false)
    ∷ (answer (ask 1073741824 4096 true (sample 2 4096 0 4096 ∷ []) (0 ∷ []) [] 4096 4096), planned [] [] [] 4096 4096 false)
    -- 12: holes over the volume's bytes, by one byte
    ∷ (answer (ask 8191 0 true [] [] [] 0 8192), answer (refused 12))
    ∷ (answer (ask 8192 0 true [] [] [] 0 8192), answer (refused 26))
    ∷ []

right : map (λ (c : Told × Told). c.0) cases ≡ map (λ (c : Told × Told). c.1) cases
unfolding cases ask span holes piece planned first first_of stage every pairs neighbours keep any count flat_map table_kept find_from list_kept lent_refusal holder cut_pieces insert insert_all counted_bytes join_around join_all edits insert_ref sorted without minus in_leaves due_of refused_or placed places_sound pieces_from holder_of each_in_place new_items writes_anew pieces_written pieces_joined drops change_refusal pieces_after changed range_refusal less_items holes_to_allocate sum_of fallocate_refusal fallocate
right = refl
