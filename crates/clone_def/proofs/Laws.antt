-- What a planned clone does: to the list, to mappings, and to references. Assumes nothing.
use mathlib.Core.Path.{◌≡◌, refl, ◌∙◌}
use mathlib.Core.Bool.{Bool, true, false, not}
use mathlib.Core.List.{List}
use mathlib.Core.Logic.{◌⊎◌, inl, inr}
use mathlib.Core.Option.{some}
use Prim.Native.Nat.{ℕ, ◌+◌, ◌-◌, ◌%◌, ◌<◌, ◌≤◌, ◌^◌}
use native.Mathlib.Omega.{arith}
use lib.Dec.{leb}
use lib.ListN.{length}
use borrow.Author.Tests.{leb-true}
use Rattle.records.proofs.Tests.{both_left, both_right, every_map}
use Rattle.item.specs.Items.{Fields, end}
use Rattle.table.specs.declared.Row.{Row}
use Rattle.lists.proofs.Laws.{Kept, kept}
use Rattle.request.specs.declared.Volume.{Volume}
use Rattle.request.specs.declared.File.{File}
use Rattle.request.specs.Lent.{sector_sound}
use Rattle.request.proofs.Stages.{Accepted, sector-is}
use Rattle.cut_def.specs.Mappings.{holds, mapping}
use Rattle.cut_def.specs.Pieces.{Piece, items_of, cut_pieces}
use Rattle.cut_def.specs.Edits.{edits, items_after}
use Rattle.cut_def.proofs.Mappings.{misses, cut-outside, insert_all_misses}
use Rattle.cut_def.proofs.Kept.{within, kept-cut, ranged-cut, kept-insertAll, cut_apart}
use Rattle.cut_def.proofs.Applied.{edits-applied, from_cut as drawn-cut, from-insert_all as drawn-insertAll}
use Rattle.records.proofs.Wholes.{add_whole, sub_whole}
use Rattle.change_def.specs.Rounding.{round_up}
use Rattle.change_def.proofs.Rounding.{up_above, up_whole, up_first}
use Rattle.plan_def.specs.Plans.{Plan}
use Rattle.clone_items.specs.declared.Copying.{Copying}
use Rattle.clone_items.proofs.Items.{clones-sound, clones-ranged, clones-within, clones-apart}
use Rattle.clone_items.specs.Replacing.{pieces_now}
use Rattle.clone_span.specs.declared.CloneRange.{CloneRange}
use Rattle.clone_span.specs.Spans.{span_of}
use Rattle.clone_def.specs.Clone.{copying, cloned, pieces_after}
use Rattle.clone_def.proofs.Planned.{Planned, L, W, src_file, src_items}

-- ---- the span

-- of whole sectors: the range in the destination, rounded up, is the span
pub widened : (s from to length : ℕ) → 0 < s → from % s ≡ 0 → to % s ≡ 0 → round_up s (to + length) ≡ to + span_of s from length
widened s from to length pos f t =
    let down : to + (round_up s (from + length) - from) ≤ round_up s (to + length) =
    omega (arith, up_above s pos (to + length), up_first s pos (from + length) (from + (round_up s (to + length) - to)) (add_whole s from (round_up s (to + length) - to) f (sub_whole s (round_up s (to + length)) to (up_whole s pos (to + length)) t)) (omega (arith, up_above s pos (to + length)))) in
    let up : round_up s (to + length) ≤ to + (round_up s (from + length) - from) =
    up_first s pos (to + length) (to + (round_up s (from + length) - from)) (add_whole s to (round_up s (from + length) - from) t (sub_whole s (round_up s (from + length)) from (up_whole s pos (from + length)) f)) (omega (arith, up_above s pos (from + length))) in
    omega arith

-- whole sectors up to a limit that is whole sectors
pub span-limit : (sector from to length : ℕ) → sector_sound sector ≡ true → from % sector ≡ 0 → to % sector ≡ 0 → to + length < 2 ^ 63 → to + span_of sector from length ≤ 2 ^ 63
span-limit sector from to length s =
    sector-is (λ (s : ℕ). from % s ≡ 0 → to % s ≡ 0 → to + length < 2 ^ 63 → to + span_of s from length ≤ 2 ^ 63)
    (λ a b c. omega arith) (λ a b c. omega arith) (λ a b c. omega arith) (λ a b c. omega arith) (λ a b c. omega arith) sector s

pub span-some : (sector from length : ℕ) → sector_sound sector ≡ true → 0 < length → 0 < span_of sector from length
span-some sector from length s =
    sector-is (λ (s : ℕ). 0 < length → 0 < span_of s from length)
    (λ a. omega arith) (λ a. omega arith) (λ a. omega arith) (λ a. omega arith) (λ a. omega arith) sector s

module _ (v : Volume) (dst src : File) (own : Bool) (span : CloneRange) (before : List Fields) (shared : List ℕ) (source : List Fields) (rs : List Row) (p : Plan) (h : Planned v dst src own span before shared source rs p) where
  abbrev pub width' : ℕ
  width' = W v dst src own span before shared source rs

  abbrev pub top : ℕ
  top = span.to + width'

  abbrev pub copy' : Copying
  copy' = copying v dst src own span before shared source rs

  abbrev pub copies : List Fields
  copies = cloned v dst src own span before shared source rs

  abbrev pub after : List Piece
  after = pieces_after v dst src own span before shared source rs

  pub accepted : Accepted v dst before shared rs
  accepted = h.lent.destination

  pub width_some : 0 < width'
  width_some = span-some v.sector span.from (L v dst src own span before shared source rs) accepted.sector h.some

  pub top-limit : top ≤ 2 ^ 63
  top-limit = span-limit v.sector span.from span.to (L v dst src own span before shared source rs) accepted.sector h.aligned.0 h.aligned.1 h.limit

  pub before_kept : Kept dst.number before
  before_kept = kept dst.number before accepted.kept

  pub source_kept : Kept (src_file v dst src own span before shared source rs).number (src_items v dst src own span before shared source rs)
  source_kept = kept _ _ h.lent.«source-kept»

  -- ---- the list

  pub after_kept : Kept dst.number (items_of after)
  unfolding pieces_now
  after_kept =
      kept-insertAll dst.number copies (cut_pieces span.to top before)
      (clones-sound copy' width_some top-limit rs _ _ source_kept h.records)
      (clones-ranged copy' width_some top-limit rs _ _ source_kept h.records)
      (clones-apart copy' width_some top-limit rs _ _ source_kept h.records)
      (cut_apart span.to top copies before (omega (arith, width_some)) (clones-within copy' width_some top-limit rs _ _ source_kept h.records))
      (kept-cut dst.number span.to top before before_kept h.«all-ranged»)
      (ranged-cut span.to top before h.«all-ranged»)

  -- applied, its edits give the pieces
  pub applied-pieces : items_after before p.edits ≡ after
  unfolding pieces_now
  applied-pieces = rw h.made (edits-applied before after before_kept.rising after_kept.rising (drawn-insertAll before copies (cut_pieces span.to top before) (drawn-cut span.to top before)))

  -- ---- mappings

  pub mapping-outside : (o : ℕ) → (span.to ≤ o → o < top → ⊥) → mapping o (items_of after) ≡ mapping o before
  unfolding pieces_now
  mapping-outside o out =
      insert_all_misses o copies (cut_pieces span.to top before)
      (every_map (within span.to top) (λ (x : Fields). not (holds o x))
      (λ x w. rw (misses o x (λ a b. out (omega (arith, leb-true span.to x.key (both_left (leb span.to x.key) (leb (end x) top) w))) (omega (arith, leb-true (end x) top (both_right (leb span.to x.key) (leb (end x) top) w))))) refl)
      copies (clones-within copy' width_some top-limit rs _ _ source_kept h.records))
      ∙ cut-outside span.to top o before (side (leb span.to o) refl)
    where
      side : (b : Bool) → leb span.to o ≡ b → (o < span.to) ⊎ (top ≤ o)
      side false e = inl (borrow.Author.Tests.leb-false span.to o e)
      side true e = inr (above (leb top o) refl (leb-true span.to o e))
        where
          above : (b : Bool) → leb top o ≡ b → span.to ≤ o → top ≤ o
          above true e a = leb-true top o e
          above false e a = absurd (out a (borrow.Author.Tests.leb-false top o e))
