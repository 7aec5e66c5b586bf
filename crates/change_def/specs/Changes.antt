-- `change_range` (fallocate.rs): "`change_range` then cuts, rewrites, joins, drops, takes places, counts."
use Rattle.std.specs.Prelude.{◌&&◌, not, ℕ, ◌-◌, ◌^◌, eqb}
use mathlib.Core.List.{List, [], ◌∷◌, ◌++◌, map, flat_map}
use Rattle.records.specs.Stages.{whenever, unless, first_of, stage}
use Rattle.records.specs.Select.{keep, any}
use Rattle.item.specs.Items.{Fields, hole, regular_item, of_kind}
use Rattle.table.specs.Rows.{one_more_reference}
use Rattle.request.specs.Answers.{Outcome, plan}
use Rattle.cut_def.specs.Cuts.{covered, split}
use Rattle.cut_def.specs.Pieces.{Piece, items_of, cut_pieces, insert_all, counted_bytes}
use Rattle.cut_def.specs.Joins.{join_all}
use Rattle.cut_def.specs.Refs.{Ref, ref_of}
use Rattle.cut_def.specs.Edits.{edits}
use Rattle.ref_def.specs.Compared.{among, compared_shares, compared_unrefs}
use Rattle.ref_def.specs.Drops.{InLeaf, drops_refusal, releases, unrefs}
use Rattle.plan_def.specs.Plans.{Plan, Write, refused_or}
use Rattle.plan_def.specs.Places.{Wanted, placed, places_sound}
use Rattle.plan_def.specs.Outputs.{Rooms, room_for}
use Rattle.change_def.specs.Preallocs.{Stretch, prealloc_pieces}
use Rattle.change_def.specs.declared.Rewrite.{Rewrite}
use Rattle.change_def.specs.Rewrites.{Ground, leaf_items, new_generation, rewrite_refusal, item_in_place, write_in_place, each_in_place, rewritten_anew}

-- a change of a range: what is cut, [lo, hi), the sectors rewritten inside it, the holes filled, and the new size
pub record Change : Type 0 where
  pub lo : ℕ
  pub hi : ℕ
  pub rewrites : List Rewrite
  pub holes : List Stretch
  pub size : ℕ

-- the items over new extents, each at its place
unfoldable pub new_items : Ground → List ℕ → List Wanted → List Fields
new_items g [] ws = []
new_items g (p ∷ ps) [] = []
new_items g (p ∷ ps) (w ∷ ws) = of_kind (regular_item g.file w.key (new_generation g) p w.length) w.kind ∷ new_items g ps ws

-- the writes of sectors that go to new extents
unfoldable pub writes_anew : List ℕ → List Rewrite → List Write
writes_anew [] rs = []
writes_anew (p ∷ ps) [] = []
writes_anew (p ∷ ps) (r ∷ rs) = record { key = r.sector; at = p; first = r.first; end = r.end } ∷ writes_anew ps rs

module _ (g : Ground) (c : Change) where
  -- the file's items before the change
  abbrev pub before : List Fields
  before = leaf_items g.in_leaves

  -- ---- the items, step by step

  -- after the cut and the writes in place
  unfoldable pub pieces_written : List Piece
  pieces_written = insert_all (each_in_place g (item_in_place g) c.rewrites) (cut_pieces c.lo c.hi before)

  -- and after the joins around them; no place is taken yet
  unfoldable pub pieces_joined : List Piece
  pieces_joined = join_all (new_generation g) (each_in_place g (λ (r : Rewrite) (h : InLeaf). r.sector) c.rewrites) pieces_written

  -- ---- references

  -- the extents written in place, whose references are compared; "such an extent is never released"
  abbrev pub extents_in_place : List ℕ
  extents_in_place = each_in_place g (λ (r : Rewrite) (h : InLeaf). h.item.extent_start) c.rewrites

  abbrev pub split_refs : List Ref
  split_refs = map ref_of (keep (split c.lo c.hi) before)

  abbrev pub shares_compared : List Ref
  shares_compared = compared_shares extents_in_place before (items_of pieces_joined)

  -- the covered items that are no holes, but for those of extents written in place
  unfoldable pub drops : List InLeaf
  drops = keep (λ (h : InLeaf). covered c.lo c.hi h.item && (not (hole h.item) && not (among extents_in_place h.item))) g.in_leaves

  -- "13, current generation 2^64 − 1; for each split 14 or 15; for each rewrite 16 .. else in place 14, 17, 18; for each
  -- share after the joins 14, 15; for drops by extent start 14, 17"
  unfoldable pub change_refusal : ℕ
  change_refusal =
      first_of
      (whenever (eqb g.generation (2 ^ 64 - 1)) 13
      ∷ stage (λ (r : Ref). one_more_reference r.start g.rows) split_refs
      ∷ stage (rewrite_refusal g) c.rewrites
      ∷ stage (λ (r : Ref). one_more_reference r.start g.rows) shares_compared
      ∷ drops_refusal g.rows drops
      ∷ [])

  module _ (limit : ℕ) where
    -- ---- new extents: the rewritten sectors first, then the pieces of the holes

    abbrev pub sectors_wanted : List Wanted
    sectors_wanted = map (λ (r : Rewrite). record { key = r.sector; length = g.sector; kind = 1 }) (rewritten_anew g c.rewrites)

    abbrev pub pieces_wanted : List Wanted
    pieces_wanted = map (λ (s : Stretch). record { key = s.start; length = s.length; kind = 2 }) (flat_map (prealloc_pieces limit) c.holes)

    abbrev pub wanted : List Wanted
    wanted = sectors_wanted ++ pieces_wanted

    module _ (places : List ℕ) where
      -- the items after the change
      unfoldable pub pieces_after : List Piece
      pieces_after = insert_all (new_items g places wanted) pieces_joined

      abbrev pub plan_of : Plan
      plan_of =
          record {
            edits = edits before pieces_after;
            shares = keep (λ (r : Ref). not (any (eqb r.start) extents_in_place)) split_refs ++ shares_compared;
            unrefs = compared_unrefs extents_in_place before (items_of pieces_joined) ++ unrefs g.rows drops;
            releases = releases g.rows drops;
            adds = placed places wanted;
            writes = each_in_place g write_in_place c.rewrites ++ writes_anew places (rewritten_anew g c.rewrites);
            size = c.size;
            bytes = counted_bytes (items_of pieces_after);
            prealloc = any (λ (w : Wanted). eqb w.kind 2) wanted;
          }

      -- all refusals from 13 on, and the plan
      unfoldable pub changed : Rooms → Outcome Plan
      changed rooms =
          refused_or
          (first_of (change_refusal ∷ unless (places_sound g.rows places wanted) 26 ∷ unless (room_for rooms plan_of) 27 ∷ []))
          (plan plan_of)
