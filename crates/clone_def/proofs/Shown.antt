-- ioctl_ficlonerange(2): after a planned clone the destination's range shows what the source showed. Assumes nothing.
use mathlib.Core.Path.{◌∙◌}
use mathlib.Core.Bool.{Bool}
use mathlib.Core.List.{List}
use Prim.Native.Nat.{ℕ, ◌+◌}
use native.Mathlib.Omega.{arith}
use Rattle.item.specs.Items.{Fields}
use Rattle.table.specs.declared.Row.{Row}
use Rattle.request.specs.declared.Volume.{Volume}
use Rattle.request.specs.declared.File.{File}
use Rattle.cut_def.specs.Mappings.{mapping}
use Rattle.cut_def.specs.Pieces.{items_of, cut_pieces}
use Rattle.cut_def.proofs.Mappings.{cut_inside}
use Rattle.cut_def.proofs.Shown.{insert_all_shows}
use Rattle.plan_def.specs.Plans.{Plan}
use Rattle.clone_items.proofs.Items.{clones-apart}
use Rattle.clone_items.proofs.Mappings.{copies_show}
use Rattle.clone_items.specs.Replacing.{pieces_now}
use Rattle.clone_span.specs.declared.CloneRange.{CloneRange}
use Rattle.clone_def.specs.Clone.{Cloned}
use Rattle.clone_def.proofs.Planned.{Planned, src_items}
use Rattle.clone_def.proofs.Laws.{source_kept, width', copy', copies, after, width_some, top-limit, mapping-outside}

module _ (v : Volume) (dst src : File) (own : Bool) (span : CloneRange) (before : List Fields) (shared : List ℕ) (source : List Fields) (rs : List Row) (p : Plan) (h : Planned v dst src own span before shared source rs p) where
  abbrev W : ℕ
  W = width' v dst src own span before shared source rs p h

  -- "after a clone each offset of the destination range shows the mapping that the source showed before the cut, none where
  -- the source had none"; the rest of the destination is as it was
  pub cloned-shown : Cloned span.from span.to W (λ o. mapping o (src_items v dst src own span before shared source rs)) (λ o. mapping o before) (λ o. mapping o (items_of (after v dst src own span before shared source rs p h)))
  unfolding pieces_now
  cloned-shown =
      record {
        shared = λ i l.
            insert_all_shows (span.to + i) (copies v dst src own span before shared source rs p h) (cut_pieces span.to (span.to + W) before)
            (clones-apart (copy' v dst src own span before shared source rs p h) (width_some v dst src own span before shared source rs p h) (top-limit v dst src own span before shared source rs p h) rs _ _ (source_kept v dst src own span before shared source rs p h) h.records)
            (cut_inside span.to (span.to + W) (span.to + i) before (omega arith) (omega arith))
            ∙ copies_show (copy' v dst src own span before shared source rs p h) i l (src_items v dst src own span before shared source rs);
        below = λ o l. mapping-outside v dst src own span before shared source rs p h o (λ a b. omega arith);
        above = λ o l. mapping-outside v dst src own span before shared source rs p h o (λ a b. omega arith);
      }
