-- Every example of the table has the answer that the paper gives, by computation.
use mathlib.Core.Path.{◌≡◌, refl}
use mathlib.Core.List.{map, flat_map}
use Rattle.records.specs.Stages.{first, first_of, stage, every, pairs, neighbours}
use Rattle.records.specs.Select.{keep, any, count}
use Rattle.table.specs.Rows.{table_kept, find_from}
use Rattle.lists.specs.Lists.{list_kept}
use Rattle.request.specs.Lent.{lent_refusal, lent_refusal2}
use Rattle.cut_def.specs.Mappings.{holder}
use Rattle.cut_def.specs.Pieces.{cut_pieces, insert, insert_all, counted_bytes}
use Rattle.cut_def.specs.Joins.{join_around, join_all}
use Rattle.cut_def.specs.Edits.{edits}
use Rattle.ref_def.specs.Compared.{insert_ref, sorted, without, minus}
use Rattle.ref_def.specs.Drops.{in_leaves, due_of}
use Rattle.plan_def.specs.Plans.{refused_or}
use Rattle.plan_def.specs.Places.{placed, places_sound}
use Rattle.change_def.specs.Preallocs.{pieces_from, sum_of}
use Rattle.change_def.specs.Rewrites.{holder_of, each_in_place}
use Rattle.change_def.specs.Changes.{new_items, writes_anew, pieces_written, pieces_joined, drops, change_refusal, pieces_after, changed}
use Rattle.punch_def.specs.Punch.{first_held, plan_punch, range_refusal, punch}
use Rattle.fallocate_def.specs.Fallocate.{less_items, holes_to_allocate, fallocate_refusal, fallocate}
use Rattle.clone_def.specs.Clone.{lent_and_source, clone_refusal, drafted, clone}
use Rattle.clone_items.specs.Replacing.{pieces_now as clonePieces}
use Rattle.worked.specs.Table.{Example, table}

pub right : map (λ (e : Example). e.asked) table ≡ map (λ (e : Example). e.due) table
unfolding table first first_of stage every pairs neighbours keep any count flat_map table_kept find_from list_kept lent_refusal lent_refusal2 holder cut_pieces insert insert_all counted_bytes join_around join_all edits insert_ref sorted without minus in_leaves due_of refused_or placed places_sound pieces_from holder_of each_in_place new_items writes_anew pieces_written pieces_joined drops change_refusal pieces_after changed first_held plan_punch range_refusal punch less_items holes_to_allocate sum_of fallocate_refusal fallocate lent_and_source clone_refusal drafted clone clonePieces
right = refl
