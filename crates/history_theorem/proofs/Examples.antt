-- A history, computed: what a list of calls leaves, and the total of an extent beside its row after each call.
use mathlib.Core.Path.{◌≡◌, refl}
use mathlib.Core.Bool.{false}
use mathlib.Core.List.{List, [], ◌∷◌, map, flat_map}
use Prim.Native.Nat.{ℕ}
use lib.ListN.{length, take}
use Rattle.records.specs.Stages.{first, first_of, stage, every, pairs, neighbours}
use Rattle.records.specs.Select.{keep, any, count}
use Rattle.item.specs.Items.{Fields, regular_item}
use Rattle.table.proofs.Samples.{sample_row}
use Rattle.table.specs.declared.Row.{Row}
use Rattle.table.specs.Rows.{table_kept, find_from}
use Rattle.lists.specs.Lists.{list_kept}
use Rattle.request.specs.declared.Range.{Range}
use Rattle.request.specs.Lent.{lent_refusal, lent_refusal2}
use Rattle.cut_def.specs.Mappings.{holder}
use Rattle.cut_def.specs.Pieces.{cut_pieces, insert, insert_all, counted_bytes}
use Rattle.cut_def.specs.Joins.{join_around, join_all}
use Rattle.cut_def.specs.Edits.{edits, items_after}
use Rattle.ref_def.specs.Compared.{insert_ref, sorted, without, minus}
use Rattle.ref_def.specs.Drops.{in_leaves, due_of}
use Rattle.plan_def.specs.Plans.{refused_or}
use Rattle.plan_def.specs.Places.{placed, places_sound}
use Rattle.change_def.specs.Preallocs.{pieces_from, sum_of}
use Rattle.change_def.specs.Rewrites.{holder_of, each_in_place}
use Rattle.change_def.specs.Changes.{new_items, writes_anew, pieces_written, pieces_joined, drops, change_refusal, pieces_after, changed}
use Rattle.punch_def.specs.Punch.{first_held, plan_punch, range_refusal, punch}
use Rattle.fallocate_def.specs.Fallocate.{less_items, holes_to_allocate, fallocate_refusal, fallocate}
use Rattle.clone_def.specs.Clone.{lent_and_source, clone_refusal, drafted, clone}
use Rattle.clone_items.specs.Replacing.{pieces_now as clonePieces}
use Rattle.apply_def.specs.Apply.{insert_row, insert_rows, rows_after, apply_refusal, apply}
use Rattle.history_theorem.specs.States.{State, FileList, list_of, with_list, total}
use Rattle.history_theorem.specs.Calls.{Call, Lent, punching, fallocating, cloning, answer_of, run, trace}

-- one item over all of one extent
start : State
start =
    record {
      files = record { number = 257; items = regular_item 257 0 5 1048576 16384 ∷ [] } ∷ [];
      rows = sample_row 1 ∷ [];
    }

lent : (number size : ℕ) (shared : List ℕ) (room : ℕ) → Lent
lent number size shared room =
    record {
      number = number;
      size = size;
      nodatacow = false;
      total = 1073741824;
      generation = 7;
      snapshot = 0;
      shared = shared;
      rooms = record { edits = 710; shares = 20; unrefs = 20; releases = 20; adds = 30; writes = 40 };
      room_items = room;
      room_rows = 10;
    }

range : (offset length : ℕ) → Range
range offset length = record { offset = offset; length = length }

calls : List Call
calls =
    -- a split; a clone into another file; a refusal (5); two drops of three references; nothing to do
    punching (lent 257 16384 (0 ∷ []) 10) [] (range 4096 4096)
    ∷ cloning (lent 258 0 [] 10) (record { number = 257; size = 16384; nodatacow = false }) false (record { from = 0; to = 0; length = 4096 })
    ∷ punching (lent 257 16384 (0 ∷ 0 ∷ []) 10) [] (range 0 0)
    ∷ punching (lent 257 16384 (0 ∷ 0 ∷ []) 10) [] (range 0 16384)
    ∷ punching (lent 257 16384 [] 10) [] (range 0 16384)
    -- a plan whose applying has no room (27), and the same with room; the last reference
    ∷ fallocating (lent 257 16384 [] 0) (2097152 ∷ []) (range 0 4096) false
    ∷ fallocating (lent 257 16384 [] 10) (2097152 ∷ []) (range 0 4096) false
    ∷ punching (lent 258 4096 (0 ∷ []) 10) [] (range 0 4096)
    ∷ []

after : ℕ → State
after n = run 4096 start (take n calls)

-- a file's number, and key, kind, extent start, position and length of its items; a row's start and references
file_shown : FileList → List ℕ
file_shown f = f.number ∷ flat_map (λ (i : Fields). i.key ∷ i.kind ∷ i.extent_start ∷ i.position ∷ i.length ∷ []) f.items

rows_shown : List Row → List ℕ
rows_shown rs = flat_map (λ (r : Row). r.start ∷ r.references ∷ []) rs

-- how many plans were applied; the table and the files at the end; and after each call the extent's total, beside the table
shown : List (List ℕ) × List (List ℕ)
shown = (
  (length (trace 4096 start calls) ∷ []) ∷ rows_shown (after 8).rows ∷ map file_shown (after 8).files,
  map (λ (n : ℕ). total 1048576 (after n).files ∷ rows_shown (after n).rows) (0 ∷ 1 ∷ 2 ∷ 3 ∷ 4 ∷ 5 ∷ 6 ∷ 7 ∷ 8 ∷ []),
)

right : shown ≡ (
  (5 ∷ []) ∷ (2097152 ∷ 1 ∷ []) ∷ (257 ∷ 0 ∷ 2 ∷ 2097152 ∷ 0 ∷ 4096 ∷ []) ∷ (258 ∷ []) ∷ [],
  (1 ∷ 1048576 ∷ 1 ∷ [])
      ∷ (2 ∷ 1048576 ∷ 2 ∷ [])
      ∷ (3 ∷ 1048576 ∷ 3 ∷ [])
      ∷ (3 ∷ 1048576 ∷ 3 ∷ [])
      ∷ (1 ∷ 1048576 ∷ 1 ∷ [])
      ∷ (1 ∷ 1048576 ∷ 1 ∷ [])
      ∷ (1 ∷ 1048576 ∷ 1 ∷ [])
      ∷ (1 ∷ 1048576 ∷ 1 ∷ 2097152 ∷ 1 ∷ [])
      ∷ (0 ∷ 2097152 ∷ 1 ∷ [])
      ∷ [],
)
unfolding shown start lent range calls after file_shown rows_shown first first_of stage every pairs neighbours keep any count flat_map table_kept find_from list_kept lent_refusal lent_refusal2 holder cut_pieces insert insert_all counted_bytes join_around join_all edits items_after insert_ref sorted without minus in_leaves due_of refused_or placed places_sound pieces_from holder_of each_in_place new_items writes_anew pieces_written pieces_joined drops change_refusal pieces_after changed first_held plan_punch range_refusal punch less_items holes_to_allocate sum_of fallocate_refusal fallocate lent_and_source clone_refusal drafted clone clonePieces insert_row insert_rows rows_after apply_refusal apply list_of with_list total answer_of run trace
right = refl
