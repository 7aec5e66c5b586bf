-- What a planned change brings along when it is applied. Assumes nothing.
use mathlib.Core.Path.{◌≡◌, refl}
use mathlib.Core.Bool.{Bool, true, not}
use mathlib.Core.List.{List, [], ◌∷◌, ◌++◌}
use Prim.Native.Nat.{ℕ, ◌%◌, ◌<◌}
use lib.Dec.{eqb, leb, ltb}
use lib.ListN.{length}
use borrow.Author.Tests.{eqb-true, le-leb}
use Rattle.records.specs.Stages.{stage, every, pairs}
use Rattle.records.specs.Select.{any}
use Rattle.records.proofs.Tests.{both, both_left, both_right, first_of_zero, every_map, every-keep}
use Rattle.records.proofs.Lists.{any_some, every_append, stage-none}
use Rattle.table.specs.Rows.{find, one_more_reference}
use Rattle.cut_def.specs.Refs.{Ref}
use Rattle.cut_def.specs.Pieces.{items_of}
use Rattle.cut_def.specs.Edits.{Edit, key_of}
use Rattle.cut_def.proofs.Applied.{edits-rise}
use Rattle.ref_def.specs.Drops.{InLeaf, releases, unrefs}
use Rattle.ref_def.specs.Compared.{compared_unrefs}
use Rattle.ref_def.proofs.Compared.{unrefs-listed}
use Rattle.ref_def.proofs.Drops.{is_found}
use Rattle.ref_def.proofs.Lines.{rowed, more_rowed, releases_rowed, unrefs_rowed}
use Rattle.plan_def.specs.Plans.{Plan, Add}
use Rattle.plan_def.specs.Places.{Wanted, placed, places_sound}
use Rattle.change_def.specs.declared.Rewrite.{Rewrite}
use Rattle.change_def.specs.Rewrites.{Ground, rewrite_refusal}
use Rattle.change_def.specs.Changes.{Change, before, pieces_joined, pieces_after, extents_in_place, split_refs, shares_compared, drops, change_refusal, wanted, plan_of}
use Rattle.change_def.proofs.Rewrites.{rewrite_sound}
use Rattle.change_def.proofs.Fair.{Fair}
use Rattle.change_def.proofs.Each.{each_every}
use Rattle.change_def.proofs.News.{wanted_sound, wants, wanted-sound}
use Rattle.change_def.proofs.Steps.{kept-after}

module _ (g : Ground) (c : Change) (fair : Fair g c) (unrefused : change_refusal g c ≡ 0) where
  abbrev found : ℕ → Bool
  found s = is_found (find s g.rows)

  -- the stages, one by one
  stages : (stage (λ (r : Ref). one_more_reference r.start g.rows) (split_refs g c) ≡ 0) × (stage (rewrite_refusal g) c.rewrites ≡ 0) × (stage (λ (r : Ref). one_more_reference r.start g.rows) (shares_compared g c) ≡ 0)
  unfolding change_refusal
  stages = let z = first_of_zero _ unrefused in (z.1.0, z.1.1.0, z.1.1.1.0)

  -- an extent written in place has a row
  extents_rowed : every found (extents_in_place g c) ≡ true
  extents_rowed =
      each_every g (λ (r : Rewrite) (h : InLeaf). h.item.extent_start) (λ (r : Rewrite). eqb (rewrite_refusal g r) 0) found
      (λ r h u s. rw (rewrite_sound g r h (eqb-true (rewrite_refusal g r) 0 u) s).found refl)
      c.rewrites (stage-none (rewrite_refusal g) c.rewrites stages.1)

  listed_found : (r : Ref) → any (eqb r.start) (extents_in_place g c) ≡ true → rowed g.rows r ≡ true
  listed_found r h = let z = any_some (eqb r.start) found (extents_in_place g c) h extents_rowed in rw (eqb-true r.start z.0 z.1) z.2

  module _ (limit : ℕ) (pos : 0 < limit) (sectors : limit % g.sector ≡ 0) (places : List ℕ) (sound : places_sound g.rows places (wanted g c limit) ≡ true) where
    abbrev made : Plan
    made = plan_of g c limit places

    -- every line is of an extent with a row
    pub lines_rowed : every (rowed g.rows) (made.shares ++ (made.unrefs ++ made.releases)) ≡ true
    lines_rowed =
        every_append (rowed g.rows) made.shares (made.unrefs ++ made.releases)
        (every_append (rowed g.rows) _ (shares_compared g c)
        (every-keep (rowed g.rows) (λ (r : Ref). not (any (eqb r.start) (extents_in_place g c))) (split_refs g c) (more_rowed g.rows (split_refs g c) stages.0))
        (more_rowed g.rows (shares_compared g c) stages.2))
        (every_append (rowed g.rows) made.unrefs made.releases
        (every_append (rowed g.rows) (compared_unrefs (extents_in_place g c) (before g c) (items_of (pieces_joined g c))) (unrefs g.rows (drops g c))
        (every_map (λ (r : Ref). any (eqb r.start) (extents_in_place g c)) (rowed g.rows) listed_found (compared_unrefs (extents_in_place g c) (before g c) (items_of (pieces_joined g c))) (unrefs-listed (extents_in_place g c) (before g c) (items_of (pieces_joined g c))))
        (unrefs_rowed g.rows (drops g c) fair.sound.table))
        (releases_rowed g.rows (drops g c) fair.sound.table))

    -- edits by rising key
    pub rising : pairs (λ (d e : Edit). ltb (key_of d) (key_of e)) made.edits ≡ true
    rising = edits-rise (before g c) (pieces_after g c limit places) fair.sound.kept.rising (kept-after g c fair limit pos sectors places sound).rising

    -- no new extent is empty
    pub adds-some : every (λ (a : Add). leb 1 a.length) made.adds ≡ true
    unfolding every placed
    adds-some = go places (wanted g c limit) (wanted-sound g c fair limit pos sectors)
      where
        go : (ps : List ℕ) (ws : List Wanted) → every (wanted_sound g.sector) ws ≡ true → every (λ (a : Add). leb 1 a.length) (placed ps ws) ≡ true
        go [] ws h = refl
        go (p ∷ ps) [] h = refl
        go (p ∷ ps) (w ∷ ws) h =
            both (leb 1 w.length) (every (λ (a : Add). leb 1 a.length) (placed ps ws)) (le-leb 1 w.length (wants g.sector w (both_left (wanted_sound g.sector w) (every (wanted_sound g.sector) ws) h)).some)
            (go ps ws (both_right (wanted_sound g.sector w) (every (wanted_sound g.sector) ws) h))
