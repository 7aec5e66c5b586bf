-- The copies in place of what the cut leaves out: edits, bytes and lines, part by part. Assumes nothing.
use mathlib.Core.Path.{◌≡◌, refl, ap, ◌∙◌, sym}
use mathlib.Core.Bool.{true}
use mathlib.Core.List.{List, [], ◌∷◌, map}
use Prim.Native.Nat.{ℕ, ◌+◌, ◌<◌, ◌^◌}
use native.Mathlib.Omega.{arith}
use lib.Dec.{leb, ltb}
use lib.ListN.{take, drop}
use borrow.Author.Tests.{leb-true, ltb-true}
use Rattle.records.specs.Stages.{every, pairs}
use Rattle.records.specs.Select.{keep, any}
use Rattle.records.proofs.Tests.{both_left, both_right, every_map}
use Rattle.records.proofs.Lists.{every_true}
use Rattle.records.proofs.Picks.{keep_all}
use Rattle.item.specs.Items.{Fields, items}
use Rattle.lists.specs.Lists.{rises}
use Rattle.lists.proofs.Laws.{Kept}
use Rattle.cut_def.specs.Cuts.{split}
use Rattle.cut_def.specs.Pieces.{Piece, built, items_of, insert_all, counted_bytes}
use Rattle.cut_def.specs.Raw.{replaced}
use Rattle.cut_def.specs.Refs.{ref_of}
use Rattle.cut_def.specs.Edits.{edits}
use Rattle.cut_def.proofs.Bytes.{insert_all-bytes, bytes_fit}
use Rattle.cut_segment.specs.declared.Segment.{Segment}
use Rattle.cut_segment.specs.Segments.{segment_of, starts_by, starts_past, Around, Cutting}
use Rattle.cut_segment.proofs.Inserting.{insert_items, insert_all_made, insert_all-replaced}
use Rattle.edit_merge.specs.Merge.{together}
use Rattle.cut_def.proofs.Mappings.{items_made}
use Rattle.cut_splits.specs.Splits.{elsewhere}
use Rattle.cut_splits.proofs.Shares.{two-extents}
use Rattle.change_segment.specs.Sides.{middle, bytes_of}
use Rattle.change_segment.proofs.Edited.{segment_rises, edits-same, bytes_same}
use Rattle.clone_items.specs.declared.Copying.{Copying}
use Rattle.clone_items.specs.Copies.{clones}
use Rattle.clone_items.specs.Replacing.{top, pieces_now}
use Rattle.clone_lay.specs.Raw.{starts_inside, Placing}

-- ---- shares

-- no extent is written in place, so every split is shared
pub splits_plain : (lo hi : ℕ) (fs : List Fields) → keep (elsewhere (0 ∷ 0 ∷ [])) (map ref_of (keep (split lo hi) fs)) ≡ map ref_of (keep (split lo hi) fs)
unfolding any
splits_plain lo hi fs = two-extents lo hi 0 0 fs ∙ keep_all (elsewhere []) (map ref_of (keep (split lo hi) fs)) (every_true _)

-- ---- the list

module _ (c : Copying) (list source : List ℕ) (h : Placing c (items list) (items source)) (s : Segment) (seg : List ℕ) (k : Cutting c.to (top c) list s seg) where
  abbrev fs : List Fields
  fs = items list

  abbrev copies : List Fields
  copies = clones c (items source)

  -- the new items: the copies among what the cut leaves
  abbrev news : List Fields
  news = insert_items copies (segment_of s seg)

  -- each copy lies behind what is before the segment, and before what is behind it
  around : (y : Fields) → starts_inside c y ≡ true → Around y.key list s
  around y w = k.around y.key (leb-true c.to y.key (both_left (leb c.to y.key) (ltb y.key (top c)) w)) (ltb-true y.key (top c) (both_right (leb c.to y.key) (ltb y.key (top c)) w))

  -- the file's items are those before the segment, the new ones, and those behind it
  placed : pieces_now c fs (items source) ≡ replaced fs s.from s.to news
  unfolding pieces_now
  placed =
      ap (insert_all copies) (sym k.same)
      ∙ insert_all-replaced copies fs s.from s.to (segment_of s seg)
      (every_map (starts_inside c) (λ (y : Fields). every (starts_by y.key) (take s.from fs)) (λ y w. (around y w).before) copies h.inside)
      (every_map (starts_inside c) (λ (y : Fields). every (starts_past y.key) (drop s.to fs)) (λ y w. (around y w).behind) copies h.inside)

  kept-placed : Kept c.number (items_of (replaced fs s.from s.to news))
  kept-placed = rw placed at h.«kept-now»

  -- ---- edits

  pub together_made : together copies (segment_of s seg) ≡ map built news
  together_made = insert_all_made copies (segment_of s seg)

  pub new-rises : pairs rises (items_of (together copies (segment_of s seg))) ≡ true
  new-rises = rw (together_made, items_made news) (segment_rises fs s news c.number kept-placed)

  pub edits-placed : edits fs (pieces_now c fs (items source)) ≡ edits (middle fs s) (together copies (segment_of s seg))
  unfolding insert_all every pairs
  edits-placed =
      ap (edits fs) placed
      ∙ edits-same fs s news c.number kept-placed h.kept k.good.order [] refl refl refl
      ∙ ap (edits (middle fs s)) (sym together_made)

  -- ---- bytes

  bytes_now : counted_bytes (items_of (pieces_now c fs (items source))) ≡ bytes_of fs s (segment_of s seg) + counted_bytes copies
  bytes_now =
      let e : counted_bytes news ≡ counted_bytes copies + counted_bytes (segment_of s seg) =
      sym (ap counted_bytes (ap items_of together_made ∙ items_made news)) ∙ insert_all-bytes copies (map built (segment_of s seg)) ∙ ap (λ (l : List Fields). counted_bytes copies + counted_bytes l) (items_made (segment_of s seg)) in
      omega (arith, ap (λ (ps : List Piece). counted_bytes (items_of ps)) placed, bytes_same fs s news, e)

  pub bytes-placed : (a b : ℕ) → a ≡ bytes_of fs s (segment_of s seg) → b ≡ counted_bytes copies → a + b ≡ counted_bytes (items_of (pieces_now c fs (items source)))
  bytes-placed a b p q = omega (arith, bytes_now)

  -- they fit
  pub bytes_below : (bytes_of fs s (segment_of s seg) < 2 ^ 64) × (counted_bytes copies < 2 ^ 64) × (bytes_of fs s (segment_of s seg) + counted_bytes copies < 2 ^ 64)
  bytes_below =
      let f = bytes_fit c.number (items_of (pieces_now c fs (items source))) h.«kept-now» h.«ranges-now» in
      (omega (arith, f, bytes_now), omega (arith, f, bytes_now), omega (arith, f, bytes_now))
