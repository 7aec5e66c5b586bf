-- A list where a segment stands for a part of it: its edits and bytes, and that a change's lists are well kept. Assumes nothing.
use mathlib.Core.Path.{◌≡◌, refl}
use mathlib.Core.Bool.{Bool, true, not}
use mathlib.Core.List.{List, ◌++◌, map}
use Prim.Native.Nat.{ℕ, ◌+◌, ◌-◌, ◌%◌, ◌^◌, ◌≤◌, ◌<◌}
use native.Mathlib.Omega.{arith}
use lib.Dec.{eqb}
use lib.ListN.{take, drop, take-append-drop}
use Rattle.records.specs.Stages.{every, pairs}
use Rattle.records.proofs.Tests.{every_map}
use Rattle.records.proofs.Lists.{every_true, every_parts, pairs_parts}
use Rattle.item.specs.Items.{Fields, ranged}
use Rattle.lists.specs.Lists.{item_sound, rises, apart}
use Rattle.lists.proofs.Laws.{Kept}
use Rattle.cut_def.specs.Pieces.{Piece, built, items_of, insert_all, counted_bytes}
use Rattle.cut_def.specs.Raw.{replaced}
use Rattle.cut_def.specs.Edits.{edits}
use Rattle.cut_def.proofs.Bytes.{bytes_append, bytes_fit}
use Rattle.cut_def.proofs.Kept.{clear_apart, kept_from, from_keeps, from-insert_all, from-ranged}
use Rattle.cut_segment.specs.declared.Segment.{Segment}
use Rattle.records.proofs.Lists.{pairs-drop}
use Rattle.cut_def.proofs.Inserts.{fresh, inserted_rises}
use Rattle.cut_def.proofs.Mappings.{items_made}
use Rattle.edit_merge.proofs.Replaced.{items-replaced}
use Rattle.edit_lines.proofs.Filled.{edits-filled}
use Rattle.plan_def.specs.Plans.{Add}
use Rattle.plan_def.specs.Places.{Wanted}
use Rattle.change_def.specs.Rewrites.{Ground}
use Rattle.change_def.specs.Changes.{Change, new_items, pieces_joined, pieces_after, wanted}
use Rattle.change_def.proofs.Fair.{Fair}
use Rattle.change_def.proofs.Each.{new_item, new-every, new-pairs}
use Rattle.change_def.proofs.Items.{sound-item, apart-clear}
use Rattle.change_def.proofs.News.{wants, wanted_sound, wanted_apart, wanted_clear, wanted-sound, wanted-apart, wanted-clear}
use Rattle.change_def.proofs.Steps.{kept-joined, ranged-joined}
use Rattle.change_segment.specs.Sides.{middle}

-- ---- a segment that stands for a part of a list

module _ (fs : List Fields) (s : Segment) (segment : List Fields) where
  abbrev pieces : List Piece
  pieces = replaced fs s.from s.to segment

  abbrev ahead : List Fields
  ahead = take s.from fs

  abbrev behind : List Fields
  behind = drop s.to fs

  pub bytes_same : counted_bytes (items_of pieces) ≡ counted_bytes ahead + (counted_bytes segment + counted_bytes behind)
  bytes_same = rw (items-replaced fs s.from s.to segment) (omega (arith, bytes_append ahead (segment ++ behind), bytes_append segment behind))

  module _ (file : ℕ) where
    -- what makes way rises
    pub middle-rises : Kept file fs → pairs rises (middle fs s) ≡ true
    middle-rises o =
        let d : List Fields = drop s.from fs in
        let n : ℕ = s.to - s.from in
        (pairs_parts rises (take n d) (drop n d) (rw (take-append-drop n d) (pairs-drop rises s.from fs o.rising))).0

    module _ (k : Kept file (items_of pieces)) where
      rising : pairs rises (ahead ++ (segment ++ behind)) ≡ true
      rising = rw (items-replaced fs s.from s.to segment) at k.rising

      -- and so does what takes its place
      pub segment_rises : pairs rises segment ≡ true
      segment_rises = (pairs_parts rises segment behind (pairs_parts rises ahead (segment ++ behind) rising).1).0

      -- the edits of the whole are those of the part, with the same new items among them
      pub edits-same : Kept file fs → s.from ≤ s.to → (ys : List Fields) → pairs rises ys ≡ true → every (fresh fs) ys ≡ true → every (fresh (items_of pieces)) ys ≡ true
          → edits fs (insert_all ys pieces) ≡ edits (middle fs s) (insert_all ys (map built segment))
      edits-same o l ys r olds news =
          let h = pairs_parts rises ahead (segment ++ behind) rising in
          edits-filled fs s.from s.to segment ys o.rising l
          (every_map (λ (f : Fields). every (rises f) (segment ++ behind)) (λ (f : Fields). every (rises f) segment) (λ f e. (every_parts (rises f) segment behind e).0) ahead h.2)
          (pairs_parts rises segment behind h.1).2 k.rising r olds news

      -- what takes its place rises with them
      pub part-rises : (ys : List Fields) → pairs rises ys ≡ true → every (fresh (items_of pieces)) ys ≡ true → pairs rises (items_of (insert_all ys (map built segment))) ≡ true
      part-rises ys r news =
          inserted_rises (map built segment) ys (rw (items_made segment) segment_rises) r
          (rw (items_made segment)
          (every_map (fresh (items_of pieces)) (fresh segment)
          (λ y e. let d : Fields → Bool = λ f. not (eqb f.key y.key) in (every_parts d segment behind (every_parts d ahead (segment ++ behind) (rw (items-replaced fs s.from s.to segment) at e)).1).0) ys news))

      -- the bytes fit
      pub bytes_below : every ranged (items_of pieces) ≡ true → counted_bytes ahead + (counted_bytes segment + counted_bytes behind) < 2 ^ 64
      bytes_below r = omega (arith, bytes_same, bytes_fit file (items_of pieces) k r)

-- ---- a change's lists

module _ (g : Ground) (c : Change) (fair : Fair g c) where
  pub joined-kept : Kept g.file (items_of (pieces_joined g c)) × (every ranged (items_of (pieces_joined g c)) ≡ true)
  joined-kept = (kept-joined g c fair, ranged-joined g c fair)

  -- at any places, sound or not: they are only the starts of extents, which no test of a list looks at
  module _ (limit : ℕ) (pos : 0 < limit) (sectors : limit % g.sector ≡ 0) (places : List ℕ) where
    abbrev news : List Fields
    news = new_items g places (wanted g c limit)

    -- what holds of each item over a new extent
    every-item : (u : Wanted → Bool) (q : Fields → Bool) → ((p : ℕ) (w : Wanted) → u w ≡ true → q (new_item g p w) ≡ true) → every u (wanted g c limit) ≡ true → every q news ≡ true
    every-item u q f h = new-every g (λ (a : Add). true) u q (λ p w v e. f p w e) places (wanted g c limit) (every_true _) h

    pub after_kept : Kept g.file (items_of (pieces_after g c limit places)) × (every ranged (items_of (pieces_after g c limit places)) ≡ true)
    unfolding pieces_after
    after_kept =
        let j : List Fields = items_of (pieces_joined g c) in
        let w = wanted-sound g c fair limit pos sectors in
        let f = from-insert_all g.file news (pieces_joined g c)
        (every-item (wanted_sound g.sector) (item_sound g.file) (λ p w e. let u = wants g.sector w e in sound-item g.file (new_item g p w) refl refl u.some u.ends (omega (arith, u.ends))) w)
        (every-item (wanted_sound g.sector) ranged (λ p w e. (wants g.sector w e).kind) w)
        (new-pairs g wanted_apart apart (λ p q a d h. apart-clear (new_item g p a) (new_item g q d) h) places (wanted g c limit) (wanted-apart g c fair limit pos))
        (every-item (wanted_clear j) (λ (x : Fields). every (apart x) j) (λ p w e. clear_apart w.key (w.key + w.length) (new_item g p w) j (omega arith) (omega arith) e) (wanted-clear g c fair limit pos))
        (kept_from g.file j joined-kept.0 joined-kept.1) in
        (from_keeps g.file 0 _ f, from-ranged g.file 0 _ f)
