-- What a planned clone brings along when it is applied. Assumes nothing.
use mathlib.Core.Path.{◌≡◌}
use mathlib.Core.Bool.{Bool, true}
use mathlib.Core.List.{List, ◌++◌, map}
use Prim.Native.Nat.{ℕ, ◌+◌, ◌%◌}
use lib.Dec.{ltb}
use Rattle.records.specs.Stages.{every, pairs}
use Rattle.records.proofs.Tests.{every_picked}
use Rattle.records.proofs.Lists.{every_append}
use Rattle.records.proofs.Wholes.{add_whole, sub_whole}
use Rattle.item.specs.Items.{Fields}
use Rattle.table.specs.declared.Row.{Row}
use Rattle.lists.specs.Lists.{whole_sectors}
use Rattle.request.specs.declared.Volume.{Volume}
use Rattle.request.specs.declared.File.{File}
use Rattle.cut_def.specs.Pieces.{items_of, cut_pieces}
use Rattle.cut_def.specs.Refs.{ref_of}
use Rattle.cut_def.specs.Edits.{Edit, key_of}
use Rattle.cut_def.proofs.Kept.{whole_cut, every-insert_all}
use Rattle.cut_def.proofs.Applied.{edits-rise}
use Rattle.ref_def.proofs.Lines.{rowed, more_rowed, releases_rowed, unrefs_rowed}
use Rattle.plan_def.specs.Plans.{Plan}
use Rattle.change_def.proofs.Rounding.{up_whole, sector-limit}
use Rattle.clone_items.specs.declared.Copying.{Copying}
use Rattle.clone_items.specs.Copies.{clone_item, copied}
use Rattle.clone_items.proofs.Fits.{clones_rowed, copy_whole}
use Rattle.clone_items.specs.Replacing.{pieces_now}
use Rattle.clone_span.specs.declared.CloneRange.{CloneRange}
use Rattle.clone_def.specs.Clone.{split_refs, drops}
use Rattle.clone_def.proofs.Planned.{Planned, L, src_items}
use Rattle.clone_def.proofs.Laws.{accepted, width', copy', copies, after, after_kept, before_kept}

module _ (v : Volume) (dst src : File) (own : Bool) (span : CloneRange) (before : List Fields) (shared : List ℕ) (source : List Fields) (rs : List Row) (p : Plan) (h : Planned v dst src own span before shared source rs p) where
  abbrev copy : Copying
  copy = copy' v dst src own span before shared source rs p h

  abbrev W : ℕ
  W = width' v dst src own span before shared source rs p h

  width_whole : W % v.sector ≡ 0
  width_whole =
      sub_whole v.sector _ span.from
      (up_whole v.sector (sector-limit v.sector (accepted v dst src own span before shared source rs p h).sector).0 (span.from + L v dst src own span before shared source rs))
      h.aligned.0

  pub sectors_now : every (whole_sectors v.sector) (items_of (after v dst src own span before shared source rs p h)) ≡ true
  unfolding pieces_now
  sectors_now =
      every-insert_all (whole_sectors v.sector) (copies v dst src own span before shared source rs p h) (cut_pieces span.to (span.to + W) before)
      (every_picked (whole_sectors v.sector) (copied copy) (clone_item copy) (whole_sectors v.sector)
      (λ f u k. copy_whole v.sector copy h.aligned.0 h.aligned.1 width_whole f u)
      (src_items v dst src own span before shared source rs) h.lent.«source-sectors»)
      (whole_cut v.sector span.to (span.to + W) before h.aligned.1 (add_whole v.sector span.to W h.aligned.1 width_whole) (accepted v dst src own span before shared source rs p h).sectors)

  -- edits by rising key
  pub rising : pairs (λ (d e : Edit). ltb (key_of d) (key_of e)) p.edits ≡ true
  rising = rw h.made (edits-rise before (after v dst src own span before shared source rs p h) (before_kept v dst src own span before shared source rs p h).rising (after_kept v dst src own span before shared source rs p h).rising)

  -- every line is of an extent with a row
  pub lines_rowed : every (rowed rs) (p.shares ++ (p.unrefs ++ p.releases)) ≡ true
  lines_rowed =
      rw h.made
      (every_append (rowed rs) (split_refs v dst src own span before shared source rs ++ map ref_of (copies v dst src own span before shared source rs p h)) _
      (every_append (rowed rs) (split_refs v dst src own span before shared source rs) (map ref_of (copies v dst src own span before shared source rs p h)) (more_rowed rs (split_refs v dst src own span before shared source rs) h.splits) (clones_rowed rs copy (src_items v dst src own span before shared source rs) h.records))
      (every_append (rowed rs) _ _ (unrefs_rowed rs (drops v dst src own span before shared source rs) (accepted v dst src own span before shared source rs p h).«table_kept») (releases_rowed rs (drops v dst src own span before shared source rs) (accepted v dst src own span before shared source rs p h).«table_kept»)))
