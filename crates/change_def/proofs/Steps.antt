-- A change keeps the file's list well kept, and its edits give the items planned. Assumes nothing.
use mathlib.Core.Path.{◌≡◌}
use mathlib.Core.Bool.{true}
use mathlib.Core.List.{List}
use Prim.Native.Nat.{ℕ, ◌%◌, ◌<◌}
use native.Mathlib.Omega.{arith}
use Rattle.records.specs.Stages.{every}
use Rattle.item.specs.Items.{Fields, ranged}
use Rattle.lists.specs.Lists.{apart, whole_sectors}
use Rattle.lists.proofs.Laws.{Kept}
use Rattle.cut_def.specs.Pieces.{Piece, items_of, cut_pieces}
use Rattle.cut_def.specs.Edits.{items_after}
use Rattle.cut_def.proofs.Mappings.{Joins, joins_all}
use Rattle.cut_def.proofs.Kept.{all_apart, clear_apart, cut-clear, From, kept_from, from_keeps, from_cut, from-insert_all, from_joins, ranged-cut, whole_cut, every-insert_all, ranged_joins, whole_joins}
use Rattle.cut_def.proofs.Applied.{edits-applied, from_cut as drawn-cut, from-insert_all as drawn-insertAll, from-join_all as drawn-joinAll}
use Rattle.ref_def.specs.Drops.{InLeaf}
use Rattle.plan_def.specs.Places.{places_sound}
use Rattle.change_def.specs.declared.Rewrite.{Rewrite}
use Rattle.change_def.specs.Rewrites.{Ground, new_generation, item_in_place, each_in_place}
use Rattle.change_def.specs.Changes.{Change, before, new_items, pieces_written, pieces_joined, pieces_after, wanted, plan_of}
use Rattle.change_def.proofs.Fair.{Fair, rewrite_inside}
use Rattle.change_def.proofs.Each.{each_every}
use Rattle.change_def.proofs.Items.{inside, sector-some, items_in_place, written-sound, written-ranged, written_whole, written_apart}
use Rattle.change_def.proofs.News.{new-sound, new-ranged, new_whole, new_apart, new_away}

-- the file's items cut, the sectors written in place, and the joins around them
abbrev pub cut_items : Ground → Change → List Piece
cut_items g c = cut_pieces c.lo c.hi (before g c)

abbrev pub sectors_in_place : Ground → Change → List ℕ
sectors_in_place g c = each_in_place g (λ (r : Rewrite) (h : InLeaf). r.sector) c.rewrites

pub joins_made : (g : Ground) (c : Change) → Joins (new_generation g) (items_of (pieces_written g c)) (items_of (pieces_joined g c))
unfolding pieces_joined
joins_made g c = joins_all (new_generation g) (sectors_in_place g c) (pieces_written g c)

module _ (g : Ground) (c : Change) (fair : Fair g c) where
  -- ---- after the cut and the writes in place

  cut-from : From g.file 0 (items_of (cut_items g c))
  cut-from = from_cut g.file c.lo c.hi 0 (before g c) (kept_from g.file (before g c) fair.sound.kept fair.sound.ranges)

  -- the cut leaves its range empty
  pub written_away : all_apart (items_in_place g c) (items_of (cut_items g c)) ≡ true
  written_away =
      each_every g (item_in_place g) (rewrite_inside g c) (λ (x : Fields). every (apart x) (items_of (cut_items g c)))
      (λ r h u s.
      let i = inside g c r u in
      let low = i.low in
      let high = i.high in
      clear_apart c.lo c.hi (item_in_place g r h) (items_of (cut_items g c)) low high (cut-clear c.lo c.hi (before g c) (omega (arith, sector-some g c fair))))
      c.rewrites fair.rewrites

  written_from : From g.file 0 (items_of (pieces_written g c))
  unfolding pieces_written
  written_from =
      from-insert_all g.file (items_in_place g c) (cut_items g c) (written-sound g c fair) (written-ranged g c fair) (written_apart g c fair) written_away cut-from

  pub kept-cut-items : Kept g.file (items_of (cut_items g c))
  kept-cut-items = from_keeps g.file 0 (items_of (cut_items g c)) cut-from

  pub kept-written : Kept g.file (items_of (pieces_written g c))
  kept-written = from_keeps g.file 0 (items_of (pieces_written g c)) written_from

  pub ranged-written : every ranged (items_of (pieces_written g c)) ≡ true
  unfolding pieces_written
  ranged-written = every-insert_all ranged (items_in_place g c) (cut_items g c) (written-ranged g c fair) (ranged-cut c.lo c.hi (before g c) fair.sound.ranges)

  pub whole_written : every (whole_sectors g.sector) (items_of (pieces_written g c)) ≡ true
  unfolding pieces_written
  whole_written =
      every-insert_all (whole_sectors g.sector) (items_in_place g c) (cut_items g c) (written_whole g c fair)
      (whole_cut g.sector c.lo c.hi (before g c) fair.lower fair.upper fair.sound.sectors)

  -- ---- after the joins

  joined-from : From g.file 0 (items_of (pieces_joined g c))
  joined-from = from_joins g.file (new_generation g) (joins_made g c) 0 written_from

  pub kept-joined : Kept g.file (items_of (pieces_joined g c))
  kept-joined = from_keeps g.file 0 (items_of (pieces_joined g c)) joined-from

  pub ranged-joined : every ranged (items_of (pieces_joined g c)) ≡ true
  ranged-joined = ranged_joins (new_generation g) (joins_made g c) ranged-written

  pub whole_joined : every (whole_sectors g.sector) (items_of (pieces_joined g c)) ≡ true
  whole_joined = whole_joins g.sector (new_generation g) (joins_made g c) whole_written

  -- ---- after the change
  module _ (limit : ℕ) (pos : 0 < limit) (sectors : limit % g.sector ≡ 0) (places : List ℕ) (sound : places_sound g.rows places (wanted g c limit) ≡ true) where
    -- the list is well kept
    pub kept-after : Kept g.file (items_of (pieces_after g c limit places))
    unfolding pieces_after
    kept-after =
        from_keeps g.file 0 (items_of (pieces_after g c limit places))
        (from-insert_all g.file (new_items g places (wanted g c limit)) (pieces_joined g c) (new-sound g c fair limit pos sectors places sound) (new-ranged g c fair limit pos sectors places sound) (new_apart g c fair limit pos sectors places sound) (new_away g c fair limit pos sectors places sound) joined-from)

    -- of kinds 1 and 2
    pub ranged-after : every ranged (items_of (pieces_after g c limit places)) ≡ true
    unfolding pieces_after
    ranged-after = every-insert_all ranged (new_items g places (wanted g c limit)) (pieces_joined g c) (new-ranged g c fair limit pos sectors places sound) ranged-joined

    -- on whole sectors
    pub whole_after : every (whole_sectors g.sector) (items_of (pieces_after g c limit places)) ≡ true
    unfolding pieces_after
    whole_after = every-insert_all (whole_sectors g.sector) (new_items g places (wanted g c limit)) (pieces_joined g c) (new_whole g c fair limit pos sectors places sound) whole_joined

    -- the edits, applied, give it
    pub edits-give : items_after (before g c) (plan_of g c limit places).edits ≡ pieces_after g c limit places
    unfolding pieces_after pieces_joined pieces_written
    edits-give =
        edits-applied (before g c) (pieces_after g c limit places) fair.sound.kept.rising kept-after.rising
        (drawn-insertAll (before g c) (new_items g places (wanted g c limit)) (pieces_joined g c)
        (drawn-joinAll (before g c) (new_generation g) (sectors_in_place g c) (pieces_written g c) (drawn-insertAll (before g c) (items_in_place g c) (cut_items g c) (drawn-cut c.lo c.hi (before g c)))))
