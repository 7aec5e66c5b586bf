-- From a request to what is printed for it, computed: the printed example of document 01 (P1), and P2, P3, P4, P7 on its file.
use mathlib.Core.Path.{◌≡◌, refl}
use mathlib.Core.List.{[], ◌∷◌, map, flat_map}
use Rattle.read_field.specs.Words.{bytes as text}
use Rattle.print_field.specs.Text.{digits, decimal, joined}
use Rattle.print_field.specs.Fields.{spaced, field, pair, unless_zero}
use Rattle.records.specs.Stages.{first, first_of, stage, every, pairs, neighbours}
use Rattle.records.specs.Select.{keep, any, count}
use Rattle.table.specs.Rows.{table_kept, find_from}
use Rattle.lists.specs.Lists.{list_kept}
use Rattle.request.specs.Lent.{lent_refusal}
use Rattle.cut_def.specs.Mappings.{holder}
use Rattle.cut_def.specs.Pieces.{cut_pieces, insert, insert_all, counted_bytes}
use Rattle.cut_def.specs.Joins.{join_around, join_all}
use Rattle.cut_def.specs.Edits.{edits}
use Rattle.ref_def.specs.Compared.{insert_ref, sorted, without, minus}
use Rattle.ref_def.specs.Drops.{in_leaves, due_of}
use Rattle.plan_def.specs.Plans.{refused_or}
use Rattle.plan_def.specs.Places.{placed, places_sound}
use Rattle.change_def.specs.Preallocs.{pieces_from, sum_of}
use Rattle.change_def.specs.Rewrites.{holder_of, each_in_place}
use Rattle.change_def.specs.Changes.{new_items, writes_anew, pieces_written, pieces_joined, drops, change_refusal, pieces_after, changed}
use Rattle.punch_def.specs.Punch.{first_held, plan_punch, range_refusal, punch}
use Rattle.print_field.specs.Puts.{item_fields, added_fields, put_line}
use Rattle.print_line.specs.Lines.{number_line, plan_line, delete_line, ref_line, add_line, write_line}
use Rattle.worked.specs.Ground.{punched}
use Rattle.print_answer.specs.Printed.{printed, plan_lines}

punches :
    map printed (punched 1 4096 4096 [] ∷ punched 1 0 16384 [] ∷ punched 1 100 50 (4194304 ∷ []) ∷ punched 1 16384 4096 [] ∷ punched 1 4096 0 [] ∷ [])
    ≡ (text "(plan (size 16384) (bytes 12288) (prealloc 0))\n"
    ∷ text "(put (key 0) (kind 1) (extent 1048576 16384) (window 0 4096))\n"
    ∷ text "(put (key 8192) (kind 1) (extent 1048576 16384) (window 8192 8192))\n"
    ∷ text "(share (at 1048576) (ref 0))\n"
    ∷ [])
    ∷ (text "(plan (size 16384) (bytes 0) (prealloc 0))\n" ∷ text "(delete (key 0))\n" ∷ text "(release (at 1048576) (ref 0))\n" ∷ [])
    ∷ (text "(plan (size 16384) (bytes 16384) (prealloc 0))\n"
    ∷ text "(put (key 0) (kind 1) (extent 4194304 4096) (window 0 4096) (generation 8) (ram 4096))\n"
    ∷ text "(put (key 4096) (kind 1) (extent 1048576 16384) (window 4096 12288))\n"
    ∷ text "(add (at 4194304) (len 4096) (key 0))\n"
    ∷ text "(write (key 0) (at 4194304) (zero 100 150))\n"
    ∷ [])
    ∷ (text "(nothing)\n" ∷ [])
    ∷ (text "(refused 5)\n" ∷ [])
    ∷ []
unfolding first first_of stage every pairs neighbours keep any count flat_map table_kept find_from list_kept lent_refusal holder cut_pieces insert insert_all counted_bytes join_around join_all edits insert_ref sorted without minus in_leaves due_of refused_or placed places_sound pieces_from sum_of holder_of each_in_place new_items writes_anew pieces_written pieces_joined drops change_refusal pieces_after changed first_held plan_punch range_refusal punch digits decimal joined spaced field pair unless_zero item_fields added_fields put_line number_line plan_line delete_line ref_line add_line write_line plan_lines printed
punches = refl
