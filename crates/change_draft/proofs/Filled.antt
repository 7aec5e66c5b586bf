-- A change that fills holes: its new extents are those of the walk, and its plan is that of the change without holes with the
-- pieces put in. Assumes nothing.
use mathlib.Core.Path.{◌≡◌, refl, ap, ap₂, ◌∙◌, sym}
use mathlib.Core.Bool.{Bool, true, false, cond, not}
use mathlib.Core.List.{List, [], ◌∷◌, ◌++◌, map, flat_map, map-append, map-map, map-id, append_assoc}
use Prim.Native.Nat.{ℕ, suc, ◌+◌, ◌-◌, ◌≤◌, ◌<◌, ◌^◌}
use native.Mathlib.Omega.{arith}
use lib.Dec.{eqb, ltb}
use lib.ListN.{length, length-append, length-map}
use borrow.Author.Tests.{ltb-false}
use Rattle.std.specs.Prelude.{Option, Some, None, option_to_list}
use Rattle.records.specs.Select.{keep}
use Rattle.records.specs.Stages.{every, pairs}
use Rattle.item.specs.Items.{Fields, ranged}
use Rattle.lists.specs.Lists.{rises}
use Rattle.lists.proofs.Laws.{Kept}
use Rattle.request.specs.declared.Volume.{Volume}
use Rattle.request.specs.Lent.{sector_sound}
use Rattle.cut_def.specs.Pieces.{Piece, items_of, insert_all, counted_bytes}
use Rattle.cut_def.specs.Edits.{edits}
use Rattle.cut_def.proofs.Inserts.{edits-count, inserted_fresh}
use Rattle.cut_def.proofs.Bytes.{bytes_fit}
use Rattle.plan_def.specs.Plans.{Write, numbers}
use Rattle.plan_def.specs.Places.{Wanted}
use Rattle.plan_def.proofs.Places.{placed-length}
use Rattle.change_def.specs.declared.RangeChange.{RangeChange}
use Rattle.change_def.specs.declared.Fill.{Fill}
use Rattle.change_def.specs.declared.Rewrite.{Rewrite}
use Rattle.change_def.specs.Rewrites.{Ground, rewritten_anew, write_in_place, each_in_place}
use Rattle.change_def.specs.Preallocs.{Stretch, piece_limit, prealloc_pieces, sum_of}
use Rattle.change_def.specs.Changes.{Change, before, new_items, pieces_joined, pieces_written, drops, sectors_wanted, pieces_wanted, wanted, pieces_after, plan_of}
use Rattle.change_def.specs.Drafts.{stretch_for}
use Rattle.change_def.specs.Sweep.{sweep, filled_of}
use Rattle.change_def.proofs.Fair.{Fair}
use Rattle.change_def.proofs.Sweep.{sum_some}
use Rattle.change_def.proofs.Preallocs.{limit_whole}
use Rattle.change_def.proofs.Rounding.{sector-range}
use Rattle.change_def.proofs.News.{sector_wanted, piece_wanted}
use Rattle.change_def.proofs.Filled.{bare, bare_wanted, after_parts, writes-part, bytes-filled, mark-filled, pieces-rise, pieces_fresh}
use Rattle.change_holes.specs.Walk.{stretch_of, wishes}
use Rattle.change_holes.proofs.Pieces.{pieces_none, pieces_cons}
use Rattle.change_segment.specs.declared.Parts.{Parts}
use Rattle.change_segment.specs.Raw.{Parting}
use Rattle.change_segment.specs.Sides.{front_new, back_new, sides, wanted_at}
use Rattle.change_segment.proofs.Sides.{wanted-sides}
use Rattle.change_segment.proofs.Edited.{after_kept}
use Rattle.change_lay.specs.Laid.{Pieced}
use Rattle.change_draft.specs.Raw.{side_of, extents_of, counts_of, numbers_of}

new-length : (g : Ground) (qs : List ℕ) (ws : List Wanted) → length qs ≡ length ws → length (new_items g qs ws) ≡ length ws
unfolding new_items
new-length g [] [] h = refl
new-length g [] (w ∷ ws) h = absurd (omega arith)
new-length g (q ∷ qs) [] h = absurd (omega arith)
new-length g (q ∷ qs) (w ∷ ws) h = ap suc (new-length g qs ws (omega arith))

-- ---- empty stretches have no pieces

some-pieces : (ss : List Stretch) → flat_map (prealloc_pieces piece_limit) (keep (λ (s : Stretch). ltb 0 s.length) ss) ≡ flat_map (prealloc_pieces piece_limit) ss
unfolding flat_map keep
some-pieces [] = refl
some-pieces (s ∷ ss) = go (ltb 0 s.length) refl (some-pieces ss)
  where
    go : (b : Bool) → ltb 0 s.length ≡ b → flat_map (prealloc_pieces piece_limit) (keep (λ (s : Stretch). ltb 0 s.length) ss) ≡ flat_map (prealloc_pieces piece_limit) ss → flat_map (prealloc_pieces piece_limit) (cond b (s ∷ keep (λ (s : Stretch). ltb 0 s.length) ss) (keep (λ (s : Stretch). ltb 0 s.length) ss)) ≡ prealloc_pieces piece_limit s ++ flat_map (prealloc_pieces piece_limit) ss
    go true e h = ap (λ (l : List Stretch). prealloc_pieces piece_limit s ++ l) h
    go false e h = rw (pieces_none s (omega (arith, ltb-false 0 s.length e))) h

-- ---- a sector is one piece

side_pieces : (v : Volume) → sector_sound v.sector ≡ true → (g : Ground) → g.sector ≡ v.sector → (o : Option Rewrite) → prealloc_pieces piece_limit (stretch_of (side_of v.sector o)) ≡ map stretch_for (map (wanted_at g) (option_to_list o))
side_pieces v ok g e (Some r) =
    let few = sector-range v.sector ok in
    let n : r.sector + v.sector - r.sector ≡ v.sector = omega arith in
    let one : prealloc_pieces piece_limit (record { start = r.sector; length = v.sector }) ≡ record { start = r.sector; length = v.sector } ∷ [] = single (record { start = r.sector; length = v.sector }) few.0 (omega (arith, few.1)) in
    rw (n, one, e) refl
  where
    single : (s : Stretch) → 0 < s.length → s.length ≤ piece_limit → prealloc_pieces piece_limit s ≡ s ∷ []
    single s some most =
        let m : Prim.Native.Nat.min piece_limit s.length ≡ s.length = omega arith in
        pieces_cons piece_limit (omega arith) s some ∙ ap₂ (λ (a : Stretch) (l : List Stretch). a ∷ l) (rw m refl) (pieces_none _ (omega arith))
side_pieces v ok g e None = pieces_none _ (omega arith)

-- ---- the new extents

module _ (g : Ground) (c : RangeChange) (w : Fill) (fs : List Fields) where
  abbrev pub filled : Change
  filled = filled_of c w fs

  abbrev swept : List Stretch
  swept = sweep c.lo c.hi w.from w.to fs

  -- the pieces of the holes are those of the sweep
  pieces_swept : map stretch_for (pieces_wanted g filled piece_limit) ≡ flat_map (prealloc_pieces piece_limit) swept
  pieces_swept = map-map stretch_for piece_wanted (flat_map (prealloc_pieces piece_limit) filled.holes) ∙ map-id (flat_map (prealloc_pieces piece_limit) filled.holes) ∙ some-pieces swept

  pub pieces-count : length (pieces_wanted g filled piece_limit) ≡ length (flat_map (prealloc_pieces piece_limit) swept)
  pieces-count = sym (length-map (pieces_wanted g filled piece_limit) stretch_for) ∙ ap length pieces_swept

  pub holes_sum : sum_of filled.holes ≡ sum_of swept
  holes_sum = sum_some swept

  module _ (p : Parts) (part : Parting g.in_leaves c p) where
    pub sectors_now : sectors_wanted g filled piece_limit ≡ sides (front_new c p) (back_new c p) (wanted_at g) (wanted_at g)
    sectors_now = sym (bare_wanted 0 g filled piece_limit) ∙ wanted-sides g c 0 p part piece_limit

    -- all of them are those of the walk
    pub wishes_now : (v : Volume) → sector_sound v.sector ≡ true → g.sector ≡ v.sector → wishes (extents_of v c w p) fs ≡ map stretch_for (wanted g filled piece_limit)
    unfolding flat_map
    wishes_now v ok e =
        let x : List Wanted = map (wanted_at g) (option_to_list (front_new c p)) in
        let y : List Wanted = map (wanted_at g) (option_to_list (back_new c p)) in
        ap₂ (λ (l m : List Stretch). l ++ (m ++ flat_map (prealloc_pieces piece_limit) swept)) (side_pieces v ok g e (front_new c p)) (side_pieces v ok g e (back_new c p))
        ∙ sym (append_assoc (map stretch_for x) (map stretch_for y) (flat_map (prealloc_pieces piece_limit) swept))
        ∙ ap₂ (λ (l m : List Stretch). l ++ m) (sym (map-append stretch_for x y) ∙ ap (map stretch_for) (sym sectors_now)) (sym pieces_swept)
        ∙ sym (map-append stretch_for (sectors_wanted g filled piece_limit) (pieces_wanted g filled piece_limit))

-- ---- the plan

module _ (size : ℕ) (g : Ground) (d : Change) (fair : Fair g d) (ps qs : List ℕ) (m : length ps ≡ length (sectors_wanted g d piece_limit)) where
  abbrev news : List Fields
  news = new_items g qs (pieces_wanted g d piece_limit)

  abbrev after : List Piece
  after = pieces_after g (bare size d) piece_limit ps

  all_kept : Kept g.file (items_of (pieces_after g d piece_limit (ps ++ qs))) × (every ranged (items_of (pieces_after g d piece_limit (ps ++ qs))) ≡ true)
  all_kept = after_kept g d fair piece_limit (omega arith) (limit_whole g.sector fair.sound.sector) (ps ++ qs)

  all_rise_lem : pairs rises (items_of (insert_all news after)) ≡ true
  all_rise_lem = rw (after_parts size g d piece_limit ps qs m) at all_kept.0.rising

  -- the pieces' items have keys of their own
  pub pieced : Pieced (before g d) (items_of after) news
  pieced =
      record {
        rise = pieces-rise g d fair piece_limit (omega arith) qs;
        olds = pieces_fresh g d fair piece_limit (omega arith) qs;
        news = (inserted_fresh after news all_rise_lem).0;
      }

  pub edits_now : (plan_of g d piece_limit (ps ++ qs)).edits ≡ edits (before g d) (insert_all news after)
  edits_now = ap (edits (before g d)) (after_parts size g d piece_limit ps qs m)

  pub writes_now : (plan_of g d piece_limit (ps ++ qs)).writes ≡ (plan_of g (bare size d) piece_limit ps).writes
  writes_now = ap (λ (l : List Write). each_in_place g write_in_place d.rewrites ++ l) (writes-part ps qs (rewritten_anew g d.rewrites) (m ∙ length-map (rewritten_anew g d.rewrites) (sector_wanted g)))

  -- the references do not turn on holes and places
  pub shares_now : (plan_of g d piece_limit (ps ++ qs)).shares ≡ (plan_of g (bare size d) piece_limit ps).shares
  unfolding pieces_joined pieces_written
  shares_now = refl

  pub unrefs_now : (plan_of g d piece_limit (ps ++ qs)).unrefs ≡ (plan_of g (bare size d) piece_limit ps).unrefs
  unfolding pieces_joined pieces_written drops
  unrefs_now = refl

  pub releases_now : (plan_of g d piece_limit (ps ++ qs)).releases ≡ (plan_of g (bare size d) piece_limit ps).releases
  unfolding drops
  releases_now = refl

  module _ (n : length qs ≡ length (pieces_wanted g d piece_limit)) where
    news-many : length news ≡ length (pieces_wanted g d piece_limit)
    news-many = new-length g qs (pieces_wanted g d piece_limit) n

    edits-number : length (plan_of g d piece_limit (ps ++ qs)).edits ≡ length (edits (before g d) after) + length (pieces_wanted g d piece_limit)
    edits-number =
        let k = inserted_fresh after news all_rise_lem in
        let e = edits-count (before g d) after news fair.sound.kept.rising k.1 pieced.rise pieced.olds pieced.news in
        ap length edits_now ∙ omega (arith, e, news-many)

    many : length (ps ++ qs) ≡ length (wanted g d piece_limit)
    many = omega (arith, length-append ps qs, length-append (sectors_wanted g d piece_limit) (pieces_wanted g d piece_limit), m, n)

    pub bytes_fit_now : every (λ (p : ℕ). not (eqb p 0)) qs ≡ true → counted_bytes (items_of after) + sum_of d.holes ≤ 2 ^ 63
    bytes_fit_now h = omega (arith, bytes-filled size g d piece_limit (omega arith) ps qs m n h, bytes_fit g.file _ all_kept.0 all_kept.1)

    -- its numbers
    pub numbers_now : every (λ (p : ℕ). not (eqb p 0)) qs ≡ true
        → numbers (plan_of g d piece_limit (ps ++ qs)) ≡ numbers_of (counts_of (plan_of g (bare size d) piece_limit ps)) (length ps) (record { bytes = sum_of d.holes; pieces = length (pieces_wanted g d piece_limit) }) d.size
    numbers_now h =
        let l1 = edits-number in
        let l2 : length (plan_of g d piece_limit (ps ++ qs)).shares ≡ length (plan_of g (bare size d) piece_limit ps).shares = ap length shares_now in
        let l3 : length (plan_of g d piece_limit (ps ++ qs)).unrefs ≡ length (plan_of g (bare size d) piece_limit ps).unrefs = ap length unrefs_now in
        let l4 : length (plan_of g d piece_limit (ps ++ qs)).releases ≡ length (plan_of g (bare size d) piece_limit ps).releases = ap length releases_now in
        let l5 : length (plan_of g d piece_limit (ps ++ qs)).adds ≡ length ps + length (pieces_wanted g d piece_limit) = placed-length (ps ++ qs) (wanted g d piece_limit) many ∙ omega (arith, length-append ps qs, n) in
        let l6 : length (plan_of g d piece_limit (ps ++ qs)).writes ≡ length (plan_of g (bare size d) piece_limit ps).writes = ap length writes_now in
        let l7 = bytes-filled size g d piece_limit (omega arith) ps qs m n h in
        let l8 = mark-filled g d piece_limit in
        λ i. record { edits = l1 i; shares = l2 i; unrefs = l3 i; releases = l4 i; adds = l5 i; writes = l6 i; size = d.size; bytes = l7 i; prealloc = l8 i }
