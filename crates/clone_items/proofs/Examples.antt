-- Copies, what refuses them, and what they make of a destination, computed.
use mathlib.Core.Path.{◌≡◌, refl}
use mathlib.Core.Bool.{false}
use mathlib.Core.List.{List, [], ◌∷◌, map, flat_map}
use Prim.Native.Nat.{ℕ}
use Rattle.records.specs.Stages.{first, first_of, every}
use Rattle.records.specs.Select.{keep, any}
use Rattle.item.specs.Items.{Fields}
use Rattle.item.proofs.Samples.{window_of}
use Rattle.table.specs.declared.Row.{Row}
use Rattle.table.specs.Rows.{find_from}
use Rattle.cut_def.specs.Pieces.{cut_pieces, insert, insert_all, counted_bytes}
use Rattle.cut_def.specs.Edits.{Edit, put, delete, edits}
use Rattle.cut_def.specs.Refs.{Ref}
use Rattle.ref_def.specs.Drops.{in_leaves}
use Rattle.plan_def.specs.Plans.{Plan}
use Rattle.clone_items.specs.declared.Copying.{Copying}
use Rattle.clone_items.specs.Copies.{clones, source_record}
use Rattle.clone_items.specs.Replacing.{pieces_now, plan_for}

row : (start keyed : ℕ) → Row
row start keyed = record { start = start; length = 16384; references = 1; made = 5; keyed = keyed }

ref : (start offset : ℕ) → Ref
ref start offset = record { start = start; offset = offset }

-- 8192 bytes from 4096 to 8192 of file 258
c : Copying
c = record { number = 258; from = 4096; to = 8192; span = 8192 }

-- ---- which items are copied: trimmed on both sides; a hole, an inline item and what only touches are not

copies : List (List Fields × List Fields)
copies =
    (window_of 257 1 0 1048576 0 16384 ∷ [], window_of 258 1 8192 1048576 4096 8192 ∷ [])
    ∷ (window_of 257 1 0 1048576 0 4096 ∷ window_of 257 1 4096 1048576 4096 4096 ∷ window_of 257 1 8192 0 0 4096 ∷ window_of 257 1 12288 1048576 0 4096 ∷ [], window_of 258 1 8192 1048576 4096 4096 ∷ [])
    ∷ (window_of 257 0 4096 1048576 0 4096 ∷ window_of 257 1 8192 2097152 0 8192 ∷ [], window_of 258 1 12288 2097152 0 4096 ∷ [])
    ∷ []

copies_right : map (λ (p : List Fields × List Fields). clones c p.0) copies ≡ map (λ (p : List Fields × List Fields). p.1) copies
unfolding copies c keep
copies_right = refl

-- ---- what refuses a source record

table : List Row
table = row 1048576 0 ∷ row 2097152 1 ∷ []

encoded : Fields → Fields
encoded f =
    record {
      file = f.file;
      key_type = f.key_type;
      key = f.key;
      generation = f.generation;
      ram = f.ram;
      compression = f.compression;
      encryption = 1;
      other = f.other;
      kind = f.kind;
      extent_start = f.extent_start;
      extent_length = f.extent_length;
      position = f.position;
      length = f.length;
    }

records : List (Fields × ℕ)
records =
    (window_of 257 0 0 1048576 0 16384, 0)
    ∷ (window_of 257 3 0 1048576 0 16384, 8)
    ∷ (encoded (window_of 257 1 4096 0 0 4096), 9)
    ∷ (encoded (window_of 257 1 0 0 0 4096), 0)
    ∷ (window_of 257 1 4096 0 0 4096, 0)
    ∷ (window_of 257 1 4096 3145728 0 4096, 14)
    ∷ (window_of 257 1 4096 1048576 12288 8192, 17)
    -- 17 is of the trimmed window
    ∷ (window_of 257 1 8192 1048576 12288 8192, 0)
    ∷ (window_of 257 1 4096 2097152 0 4096, 15)
    ∷ []

records_right : map (λ (p : Fields × ℕ). source_record table c p.0) records ≡ map (λ (p : Fields × ℕ). p.1) records
unfolding records table encoded row c first first_of find_from
records_right = refl

-- ---- a destination's item that is split, one in front that stays, one that goes, and one whose key a copy has

planned : (edits : List Edit) (shares unrefs releases : List Ref) (bytes : ℕ) → Plan
planned edits shares unrefs releases bytes =
    record { edits = edits; shares = shares; unrefs = unrefs; releases = releases; adds = []; writes = []; size = 16384; bytes = bytes; prealloc = false }

plans : List (Plan × Plan)
plans = (
  plan_for c (window_of 258 1 0 3145728 0 20480 ∷ []) (0 ∷ []) (window_of 257 1 0 1048576 0 8192 ∷ []) (row 3145728 0 ∷ []) 16384,
  planned (put (window_of 258 1 0 3145728 0 8192) ∷ put (window_of 258 1 8192 1048576 4096 4096) ∷ put (window_of 258 1 16384 3145728 16384 4096) ∷ []) (ref 3145728 0 ∷ ref 1048576 4096 ∷ []) [] [] 16384,
)
    ∷ (
      plan_for c (window_of 258 1 4096 5242880 0 4096 ∷ window_of 258 1 8192 3145728 0 4096 ∷ window_of 258 1 12288 4194304 0 4096 ∷ []) (0 ∷ 0 ∷ 1 ∷ []) (window_of 257 1 4096 1048576 0 4096 ∷ []) (row 3145728 0 ∷ row 4194304 0 ∷ row 5242880 0 ∷ []) 16384,
      planned (put (window_of 258 1 8192 1048576 0 4096) ∷ delete 12288 ∷ []) (ref 1048576 8192 ∷ []) (ref 4194304 12288 ∷ []) (ref 3145728 8192 ∷ []) 8192,
    )
    ∷ []

plans_right : map (λ (p : Plan × Plan). p.0) plans ≡ map (λ (p : Plan × Plan). p.1) plans
unfolding plans planned row ref c keep any every flat_map cut_pieces insert insert_all counted_bytes edits in_leaves pieces_now
plans_right = refl
