-- A change's plan by what the code has of it: the cut with the extents written in place, and the segment that was built.
-- Assumes nothing.
use mathlib.Core.Path.{◌≡◌, refl, ap, ap₂, ◌∙◌, sym}
use mathlib.Core.Bool.{Bool, true, false, ◌&&◌, not}
use mathlib.Core.List.{List, [], ◌∷◌, ◌++◌, map, map-append}
use mathlib.Core.Option as maybe
use mathlib.Core.Option.{none, some}
use Prim.Native.Nat.{ℕ, ◌+◌, ◌-◌, ◌%◌, ◌<◌, ◌≤◌, ◌^◌}
use native.Mathlib.Omega.{arith}
use lib.Dec.{eqb, leb, ltb}
use lib.ListN.{length, take, drop, take-append-drop, length-take, length-drop}
use lib.Seq.{drop-drop}
use borrow.Author.Tests.{eqb-true, leb-true}
use Rattle.std.specs.Prelude.{Option, Some, None, option_to_list}
use Rattle.std.specs.Option.{ForSome}
use Rattle.records.specs.Select.{only, keep}
use Rattle.records.specs.Stages.{every, stage}
use Rattle.records.proofs.Tests.{both_left, both_right}
use Rattle.records.proofs.Lists.{stage-none, every_parts}
use Rattle.item.specs.Items.{Fields, fields, items, end}
use Rattle.table.specs.declared.Row.{Row}
use Rattle.table.proofs.Laws.{window_says}
use Rattle.cut_def.specs.Mappings.{named}
use Rattle.cut_def.specs.Cuts.{split}
use Rattle.cut_def.specs.Pieces.{Piece, built, kept, items_of}
use Rattle.cut_def.specs.Raw.{replaced}
use Rattle.cut_def.specs.Refs.{Ref, ref_of}
use Rattle.cut_segment.specs.declared.Segment.{Segment}
use Rattle.ref_def.specs.Compared.{among, minus, refs_among, compared_shares, compared_unrefs}
use Rattle.ref_def.specs.Drops.{InLeaf, in_leaves, releases, unrefs}
use Rattle.ref_def.proofs.Compared.{compared_most}
use Rattle.ref_def.proofs.Drops.{leaves-items}
use Rattle.request.specs.declared.Volume.{Volume}
use Rattle.request.specs.declared.File.{File}
use Rattle.drop_lines.specs.declared.Cut.{Cut}
use Rattle.drop_lines.specs.Dropped.{drops_in}
use Rattle.drop_lines.proofs.Cuts.{drops-among}
use Rattle.cut_splits.specs.Splits.{elsewhere}
use Rattle.cut_splits.proofs.Shares.{two-extents}
use Rattle.ref_def.proofs.Among.{nonzero, among_nonzero}
use Rattle.ref_compare.proofs.Laws.{refs_nonzero}
use Rattle.ref_compare.proofs.Nearest.{named_start}
use Rattle.ref_compare.proofs.Times.{minus_common}
use Rattle.change_def.specs.declared.Rewrite.{Rewrite}
use Rattle.change_def.specs.declared.RangeChange.{RangeChange}
use Rattle.change_def.specs.Rewrites.{Ground, ground_of, leaf_items, holder_of, when_held, preallocated, item_in_place, position_of, rewrite_refusal}
use Rattle.change_def.specs.Changes.{Change, pieces_written, pieces_joined, pieces_after, extents_in_place, shares_compared, drops, plan_of}
use Rattle.change_def.specs.Raw.{change_of}
use Rattle.change_def.proofs.Fair.{Fair, rewrite_inside}
use Rattle.change_def.proofs.Rewrites.{holder_says, preallocated_says, rewrite_sound}
use Rattle.change_def.proofs.Rounding.{sector-limit}
use Rattle.change_rewrites.specs.declared.in_place.InPlace.{InPlace}
use Rattle.change_rewrites.specs.Raw.{holder_leaf, in_place_of, said_in_place, extent_of, Writable}
use Rattle.change_segment.specs.declared.Parts.{Parts}
use Rattle.change_segment.specs.Raw.{Parting, Within, Ready}
use Rattle.change_segment.specs.Sides.{places_at, joined_pieces, after_pieces, cut_of, middle, compared_of, shares_of, unrefs_of}
use Rattle.change_segment.proofs.Sides.{by_held, each_sides, news-sides}

-- ---- one sector that is written in place

abbrev with_holder : Rewrite → InLeaf → maybe.Option (Rewrite × InLeaf)
with_holder r h = some (r, h)

-- the parts of a pair, if there is one
abbrev rewrite_in : Rewrite → maybe.Option (Rewrite × InLeaf) → Rewrite
rewrite_in r none = r
rewrite_in r (some q) = q.0

abbrev leaf_in : InLeaf → maybe.Option (Rewrite × InLeaf) → InLeaf
leaf_in h none = h
leaf_in h (some q) = q.1

module _ (g : Ground) (r : Option Rewrite) (o : Option InPlace) (e : said_in_place o ≡ in_place_of g.in_leaves r) (w : InPlace) (t : o ≡ Some w) where
  -- it is rewritten, and its holder is preallocated
  found_held : (r ≡ Some w.rewrite) × (preallocated g w.rewrite ≡ some (holder_leaf w.holder))
  found_held = go r (rw t at e)
    where
      leaf : InLeaf
      leaf = holder_leaf w.holder

      none-some : {A : Type 0} → with_holder w.rewrite leaf ≡ none → A
      none-some z = let n : ◌≡◌ {A = ℕ} 0 1 = cc in absurd (omega arith)

      got : (x : Rewrite) (m : maybe.Option InLeaf) → preallocated g x ≡ m → with_holder w.rewrite leaf ≡ when_held m none (with_holder x)
          → (Some x ≡ Some w.rewrite) × (preallocated g w.rewrite ≡ some leaf)
      got x none p z = none-some z
      got x (some h) p z =
          let a : w.rewrite ≡ x = ap (rewrite_in x) z in
          let b : leaf ≡ h = ap (leaf_in h) z in
          (ap (λ (y : Rewrite). Some y) (sym a), ap (preallocated g) a ∙ p ∙ ap (λ (y : InLeaf). some y) (sym b))

      go : (r : Option Rewrite) → with_holder w.rewrite leaf ≡ in_place_of g.in_leaves r → (r ≡ Some w.rewrite) × (preallocated g w.rewrite ≡ some leaf)
      go None z = none-some z
      go (Some x) z = got x (preallocated g x) refl z

  found_holder : holder_of w.rewrite.sector g.in_leaves ≡ some (holder_leaf w.holder)
  found_holder = (preallocated_says g w.rewrite (holder_leaf w.holder) found_held.1).0

  -- which is no hole
  found_extent : eqb (fields w.holder.item).extent_start 0 ≡ false
  found_extent =
      let i : Fields = fields w.holder.item in
      let k : ℕ = w.rewrite.sector in
      named_start i (both_left (named i) (leb i.key k && ltb k (end i)) (holder_says k g.in_leaves (holder_leaf w.holder) found_holder).0)

-- its extent, where 0 is none
extent-one :
    (g : Ground) (r : Option Rewrite) (o : Option InPlace)
    → said_in_place o ≡ in_place_of g.in_leaves r
    → map (by_held (λ (x : Rewrite) (h : InLeaf). h.item.extent_start)) (option_to_list o) ≡ only (not (eqb (extent_of o) 0)) (extent_of o)
extent-one g r None e = refl
extent-one g r (Some w) e = rw (found_extent g r (Some w) e w refl) refl

-- ---- a list in three parts

list_parts : (fs : List Fields) (s : Segment) → s.from ≤ s.to → fs ≡ take s.from fs ++ (middle fs s ++ drop s.to fs)
list_parts fs s o =
    let n : s.from + (s.to - s.from) ≡ s.to = omega arith in
    let d : drop (s.to - s.from) (drop s.from fs) ≡ drop s.to fs = drop-drop (s.to - s.from) s.from fs ∙ ap (λ k. drop k fs) n in
    sym (ap (λ l. take s.from fs ++ (middle fs s ++ l)) (sym d) ∙ ap (λ l. take s.from fs ++ l) (take-append-drop (s.to - s.from) (drop s.from fs)) ∙ take-append-drop s.from fs)

items_parts : (fs segment : List Fields) (from to : ℕ) → items_of (replaced fs from to segment) ≡ take from fs ++ (segment ++ drop to fs)
items_parts fs segment from to =
    let item : Piece → Fields = λ p. p.item in
    map-append item (map kept (take from fs)) (map built segment ++ map kept (drop to fs))
    ∙ ap₂ (λ (a b : List Fields). a ++ b) (same kept (λ f. refl) (take from fs)) (map-append item (map built segment) (map kept (drop to fs)) ∙ ap₂ (λ (a b : List Fields). a ++ b) (same built (λ f. refl) segment) (same kept (λ f. refl) (drop to fs)))
  where
    same : (p : Fields → Piece) → ((f : Fields) → (p f).item ≡ f) → (l : List Fields) → items_of (map p l) ≡ l
    same p e [] = refl
    same p e (f ∷ l) = ap₂ (λ (a : Fields) (k : List Fields). a ∷ k) (e f) (same p e l)

-- ---- what is compared is no more than the items

-- by a segment: what is shared, and what is no longer named
pub shares-most : (k : Cut) (fs segment : List Fields) (s : Segment) → length (compared_of k (middle fs s) segment) ≤ length segment
shares-most k fs segment s = compared_most (k.one ∷ k.two ∷ []) segment (middle fs s)

pub unrefs-most : (k : Cut) (fs segment : List Fields) (s : Segment) → length (compared_of k segment (middle fs s)) ≤ length fs
unrefs-most k fs segment s =
    omega (arith, compared_most (k.one ∷ k.two ∷ []) (middle fs s) segment, length-take (s.to - s.from) (drop s.from fs), length-drop s.from fs)

-- ---- tests over the two sides

pub sides-every :
    {A : Type 0} (q : A → Bool) (a b : Option A)
    → every q (option_to_list a ++ option_to_list b) ≡ true
    → ForSome a (λ (x : A). q x ≡ true) × ForSome b (λ (x : A). q x ≡ true)
unfolding every
sides-every {A} q a b h = let k = every_parts q (option_to_list a) (option_to_list b) h in (one a k.0, one b k.1)
  where
    one : (o : Option A) → every q (option_to_list o) ≡ true → ForSome o (λ (x : A). q x ≡ true)
    one o h x t = both_left (q x) true (rw t at h)

-- ---- the plan

module _ (v : Volume) (f : File) (c : RangeChange) (p : Parts) (fs : List Fields) (shared : List ℕ) (rs : List Row) (part : Parting (in_leaves fs shared) c p) where
  abbrev g : Ground
  g = ground_of v f fs shared rs

  abbrev ch : Change
  ch = change_of c f.size

  abbrev k : Cut
  k = cut_of c p

  pub extents-cut : extents_in_place g ch ≡ nonzero k.one k.two
  extents-cut =
      each_sides g c f.size p part (λ (r : Rewrite) (h : InLeaf). h.item.extent_start)
      ∙ ap₂ (λ (a b : List ℕ). a ++ b) (extent-one g c.front p.front part.front) (extent-one g c.back p.back part.back)

  among-cut : (i : Fields) → among (extents_in_place g ch) i ≡ among (k.one ∷ k.two ∷ []) i
  among-cut i = ap (λ (l : List ℕ). among l i) extents-cut ∙ sym (among_nonzero k.one k.two i)

  pub drops_same : drops g ch ≡ drops_in k fs shared
  unfolding drops
  drops_same = drops-among k (extents_in_place g ch) among-cut fs shared

  pub releases-same : (limit : ℕ) (ps : List ℕ) → (plan_of g ch limit ps).releases ≡ releases rs (drops_in k fs shared)
  releases-same limit ps = ap (releases rs) drops_same

  module _ (l : length shared ≡ length fs) where
    pub joined_same : pieces_joined g ch ≡ joined_pieces v c p fs
    unfolding pieces_joined pieces_written
    joined_same =
        rw
        (each_sides g c f.size p part (item_in_place g), each_sides g c f.size p part (λ (r : Rewrite) (h : InLeaf). r.sector), leaves-items fs shared l)
        refl

    pub after_same : (limit x y : ℕ) → pieces_after g ch limit (places_at c p x y) ≡ after_pieces v f c p x y fs
    unfolding pieces_after
    after_same limit x y = rw (news-sides g c f.size p part limit x y, joined_same) refl

    -- ---- by a segment that makes the pieces

    module _ (s : Segment) (segment : List Fields) (o : s.from ≤ s.to) (m : replaced fs s.from s.to segment ≡ joined_pieces v c p fs) where
      abbrev around : List Fields → List Fields
      around xs = take s.from fs ++ (xs ++ drop s.to fs)

      before_parts : leaf_items g.in_leaves ≡ around (middle fs s)
      before_parts = leaves-items fs shared l ∙ list_parts fs s o

      after_parts : items_of (pieces_joined g ch) ≡ around segment
      after_parts = ap items_of (joined_same ∙ sym m) ∙ items_parts fs segment s.from s.to

      -- of two lists that differ in the middle
      compared_parts : (xs ys : List Fields) → minus (refs_among (extents_in_place g ch) (around xs)) (refs_among (extents_in_place g ch) (around ys)) ≡ compared_of k ys xs
      compared_parts xs ys =
          minus_common (extents_in_place g ch) (take s.from fs) xs ys (drop s.to fs)
          ∙ rw (extents-cut, refs_nonzero k.one k.two xs, refs_nonzero k.one k.two ys) refl

      pub shared_same : shares_compared g ch ≡ compared_of k (middle fs s) segment
      shared_same =
          ap₂ (λ (a b : List Fields). compared_shares (extents_in_place g ch) a b) before_parts after_parts ∙ compared_parts segment (middle fs s)

      unshared-same : compared_unrefs (extents_in_place g ch) (leaf_items g.in_leaves) (items_of (pieces_joined g ch)) ≡ compared_of k segment (middle fs s)
      unshared-same =
          ap₂ (λ (a b : List Fields). compared_unrefs (extents_in_place g ch) a b) before_parts after_parts ∙ compared_parts (middle fs s) segment

      pub shares-same : (limit : ℕ) (ps : List ℕ) → (plan_of g ch limit ps).shares ≡ shares_of k fs s segment
      shares-same limit ps =
          let q : keep (elsewhere (extents_in_place g ch)) (map ref_of (keep (split c.lo c.hi) (leaf_items g.in_leaves))) ≡ keep (elsewhere (k.one ∷ k.two ∷ [])) (map ref_of (keep (split c.lo c.hi) fs)) =
          rw (extents-cut, leaves-items fs shared l) (sym (two-extents c.lo c.hi k.one k.two fs))
          in
          ap₂ (λ (a b : List Ref). a ++ b) q shared_same

      pub unrefs-same : (limit : ℕ) (ps : List ℕ) → (plan_of g ch limit ps).unrefs ≡ unrefs_of k rs fs shared s segment
      unrefs-same limit ps = ap₂ (λ (a b : List Ref). a ++ b) unshared-same (ap (unrefs rs) drops_same)

-- ---- one sector of a fair change

module _ (v : Volume) (f : File) (c : RangeChange) (fs : List Fields) (shared : List ℕ) (rs : List Row) (fair : Fair (ground_of v f fs shared rs) (change_of c f.size)) where
  within-one : (r : Rewrite) → rewrite_inside (ground_of v f fs shared rs) (change_of c f.size) r ≡ true → Within v.sector c r
  within-one r e =
      let low : Bool = leb c.lo r.sector in
      let high : Bool = leb (r.sector + v.sector) c.hi in
      let i : (low && high) ≡ true = both_right (eqb (r.sector % v.sector) 0) (low && high) e in
      record {
        low = leb-true c.lo r.sector (both_left low high i);
        some = (sector-limit v.sector fair.sound.sector).0;
        high = leb-true (r.sector + v.sector) c.hi (both_right low high i);
        limit = fair.limit;
      }

  module _ (r : Option Rewrite) (o : Option InPlace) (e : said_in_place o ≡ in_place_of (in_leaves fs shared) r) where
    -- in what is cut
    inside_one : ForSome r (λ (x : Rewrite). rewrite_inside (ground_of v f fs shared rs) (change_of c f.size) x ≡ true) → ForSome o (λ (w : InPlace). Within v.sector c w.rewrite)
    inside_one z w t = within-one w.rewrite (z w.rewrite (found_held (ground_of v f fs shared rs) r o e w t).0)

    -- in its extent, which ends below 2^64
    writable_one : ForSome r (λ (x : Rewrite). eqb (rewrite_refusal (ground_of v f fs shared rs) x) 0 ≡ true) → Writable o
    writable_one z w t =
        let g : Ground = ground_of v f fs shared rs in
        let d = found_held g r o e w t in
        let i : InLeaf = holder_leaf w.holder in
        let k = rewrite_sound g w.rewrite i (eqb-true (rewrite_refusal g w.rewrite) 0 (z w.rewrite d.0)) d.1 in
        let n = window_says (i.item.extent_start + position_of w.rewrite i) v.sector i.item.extent_start k.row.length k.inside in
        omega (arith, n.0)

-- ---- both

module _ (v : Volume) (f : File) (c : RangeChange) (p : Parts) (list shared : List ℕ) (rs : List Row) (part : Parting (in_leaves (items list) shared) c p) (fair : Fair (ground_of v f (items list) shared rs) (change_of c f.size)) where
  -- what the steps of the segment ask for
  pub ready : v.generation + 1 < 2 ^ 64 → Ready v c p
  ready n =
      let fs : List Fields = items list in
      let w = sides-every (rewrite_inside (ground_of v f fs shared rs) (change_of c f.size)) c.front c.back fair.rewrites in
      record {
        generation = n;
        inside =
            record {
              front = inside_one v f c fs shared rs fair c.front p.front part.front w.0;
              back = inside_one v f c fs shared rs fair c.back p.back part.back w.1;
              «new-front» = λ r t. within-one v f c fs shared rs fair r (w.0 r t);
              «new-back» = λ r t. within-one v f c fs shared rs fair r (w.1 r t);
            };
      }

  -- what the writes ask for
  pub writable : stage (rewrite_refusal (ground_of v f (items list) shared rs)) (change_of c f.size).rewrites ≡ 0 → Writable p.front × Writable p.back
  writable z =
      let fs : List Fields = items list in
      let refusal : Rewrite → ℕ = rewrite_refusal (ground_of v f fs shared rs) in
      let w = sides-every (λ (r : Rewrite). eqb (refusal r) 0) c.front c.back (stage-none refusal (change_of c f.size).rewrites z) in (
        writable_one v f c fs shared rs fair c.front p.front part.front w.0,
        writable_one v f c fs shared rs fair c.back p.back part.back w.1,
      )
