-- What a planned clone does to references. Assumes nothing.
use mathlib.Core.Path.{◌≡◌, refl, ap, ◌∙◌, sym}
use mathlib.Core.Bool.{Bool, true, false, cond, ◌&&◌, not}
use mathlib.Core.List.{List, map}
use mathlib.Core.Logic.{⊎_elim}
use Prim.Native.Nat.{ℕ, ◌+◌, ◌<◌, ◌≤◌}
use native.Mathlib.Omega.{arith}
use lib.Dec.{eqb, leb, ltb}
use lib.ListN.{length}
use borrow.Author.Tests.{eqb-true, leb-true, ltb-true}
use Rattle.std.specs.Prelude.{Some}
use Rattle.records.specs.Stages.{every}
use Rattle.records.specs.Select.{keep, count}
use Rattle.records.proofs.Tests.{both_left, both_right, every_both, every-keep}
use Rattle.records.proofs.Counts.{count_append, count_map, count-keep, count_where, count-apart, count_most}
use Rattle.item.specs.Items.{Fields, ranged, hole, end}
use Rattle.table.specs.declared.Row.{Row}
use Rattle.table.specs.Rows.{find}
use Rattle.request.specs.declared.Volume.{Volume}
use Rattle.request.specs.declared.File.{File}
use Rattle.cut_def.specs.Cuts.{covered, split, touched}
use Rattle.cut_def.specs.Mappings.{named}
use Rattle.cut_def.specs.Pieces.{items_of, cut_pieces}
use Rattle.cut_def.specs.Refs.{Ref, ref_of, ref_passes, names, naming}
use Rattle.cut_def.proofs.Counts.{cut-count, passes_pieces, insert_all-counts}
use Rattle.ref_def.specs.Drops.{InLeaf, in_leaves, drops_of, releases, unrefs}
use Rattle.ref_def.proofs.Drops.{leaves-count, drops-lines, drops-number, line-drops, drops-line, leaves-unshared}
use Rattle.plan_def.specs.Plans.{Plan}
use Rattle.clone_items.specs.declared.Copying.{Copying}
use Rattle.clone_items.specs.Copies.{clone_item, copied}
use Rattle.clone_items.proofs.Items.{clones-ranged, clones_solid, picked}
use Rattle.clone_items.specs.Replacing.{pieces_now}
use Rattle.clone_span.specs.declared.CloneRange.{CloneRange}
use Rattle.clone_def.specs.Clone.{drops, split_refs}
use Rattle.clone_def.proofs.Planned.{Planned, src_items}
use Rattle.clone_def.proofs.Laws.{accepted, source_kept, copy', top, copies, after, width_some, top-limit}

-- ---- tests of references on items of kind 1 or 2

-- an item of kind 1 or 2 that is no hole names its extent
solid : (f : Fields) → ranged f ≡ true → named f ≡ not (hole f)
solid f r = rw r refl

-- a covered item that is no hole is a drop, whatever the test
drop_test : (lo hi : ℕ) (q : Ref → Bool) (f : Fields) → ranged f ≡ true → ((covered lo hi f && not (hole f)) && q (ref_of f)) ≡ (covered lo hi f && ref_passes q f)
drop_test lo hi q f r = go (covered lo hi f) ∙ ap (λ (b : Bool). covered lo hi f && (b && q (ref_of f))) (sym (solid f r))
  where
    go : (c : Bool) → ((c && not (hole f)) && q (ref_of f)) ≡ (c && (not (hole f) && q (ref_of f)))
    go true = refl
    go false = refl

split_test : (lo hi : ℕ) (q : Ref → Bool) (f : Fields) → ranged f ≡ true → (split lo hi f && q (ref_of f)) ≡ (split lo hi f && ref_passes q f)
split_test lo hi q f r = rw (solid f r) (go (ltb lo hi) (ltb f.key lo && ltb hi (end f)) (not (hole f)))
  where
    go : (a b c : Bool) → ((a && (b && c)) && q (ref_of f)) ≡ ((a && (b && c)) && (c && q (ref_of f)))
    go true true true = refl
    go true true false = refl
    go true false c = refl
    go false b c = refl

-- an item is not both covered and split
cover_or_split : (lo hi : ℕ) (q : Ref → Bool) (f : Fields) → cond (covered lo hi f && ref_passes q f) 1 0 + cond (split lo hi f && ref_passes q f) 1 0 ≤ cond (ref_passes q f) 1 0
cover_or_split lo hi q f = go (covered lo hi f) (split lo hi f) (ref_passes q f) refl refl
  where
    go : (c s p : Bool) → covered lo hi f ≡ c → split lo hi f ≡ s → cond (c && p) 1 0 + cond (s && p) 1 0 ≤ cond p 1 0
    go true true p ec es =
        let i = both_right (touched lo hi f) (leb lo f.key && leb (end f) hi) ec in
        let a = leb-true lo f.key (both_left (leb lo f.key) (leb (end f) hi) i) in
        let k = both_left (ltb f.key lo && ltb hi (end f)) (not (hole f)) (both_right (ltb lo hi) ((ltb f.key lo && ltb hi (end f)) && not (hole f)) es) in
        let b = ltb-true f.key lo (both_left (ltb f.key lo) (ltb hi (end f)) k) in
        absurd (omega arith)
    go true false true ec es = omega arith
    go true false false ec es = omega arith
    go false true true ec es = omega arith
    go false true false ec es = omega arith
    go false false p ec es = omega arith

module _ (v : Volume) (dst src : File) (own : Bool) (span : CloneRange) (before : List Fields) (shared : List ℕ) (source : List Fields) (rs : List Row) (p : Plan) (h : Planned v dst src own span before shared source rs p) where
  abbrev lo : ℕ
  lo = span.to

  abbrev up : ℕ
  up = top v dst src own span before shared source rs p h

  abbrev copy : Copying
  copy = copy' v dst src own span before shared source rs p h

  abbrev made : List Fields
  made = copies v dst src own span before shared source rs p h

  abbrev now : List Fields
  now = items_of (after v dst src own span before shared source rs p h)

  abbrev gone : List InLeaf
  gone = drops v dst src own span before shared source rs

  -- the shared bytes are one a record
  bytes : length shared ≡ length before
  bytes = eqb-true (length shared) (length before) (both_left (eqb (length shared) (length before)) (every (λ (b : ℕ). leb b 1) shared) (accepted v dst src own span before shared source rs p h).shares)

  -- ---- counts, for any test on references

  module _ (q : Ref → Bool) where
    abbrev C : ℕ
    C = count (λ (f : Fields). covered lo up f && ref_passes q f) before

    abbrev S : ℕ
    S = count (λ (f : Fields). split lo up f && ref_passes q f) before

    pub drops-counted : count (λ (d : InLeaf). q (ref_of d.item)) gone ≡ C
    drops-counted =
        count-keep (λ (d : InLeaf). q (ref_of d.item)) (λ (d : InLeaf). covered lo up d.item && not (hole d.item)) (in_leaves before shared)
        ∙ leaves-count (λ (f : Fields). (covered lo up f && not (hole f)) && q (ref_of f)) before shared bytes
        ∙ count_where ranged (λ (f : Fields). (covered lo up f && not (hole f)) && q (ref_of f)) (λ (f : Fields). covered lo up f && ref_passes q f) (drop_test lo up q) before h.«all-ranged»

    splits_counted : count q (split_refs v dst src own span before shared source rs) ≡ S
    splits_counted =
        count_map q ref_of (keep (split lo up) before)
        ∙ count-keep (λ (f : Fields). q (ref_of f)) (split lo up) before
        ∙ count_where ranged (λ (f : Fields). split lo up f && q (ref_of f)) (λ (f : Fields). split lo up f && ref_passes q f) (split_test lo up q) before h.«all-ranged»

    copies-counted : count q (map ref_of made) ≡ count (ref_passes q) made
    copies-counted =
        count_map q ref_of made
        ∙ count_where (λ (f : Fields). ranged f && not (hole f)) (λ (f : Fields). q (ref_of f)) (ref_passes q)
        (λ f n. rw (solid f (both_left (ranged f) (not (hole f)) n), both_right (ranged f) (not (hole f)) n) refl) made
        (every_both ranged (λ (f : Fields). not (hole f)) made
        (clones-ranged copy (width_some v dst src own span before shared source rs p h) (top-limit v dst src own span before shared source rs p h) rs _ _ (source_kept v dst src own span before shared source rs p h) h.records)
        (clones_solid copy (width_some v dst src own span before shared source rs p h) (top-limit v dst src own span before shared source rs p h) rs _ _ (source_kept v dst src own span before shared source rs p h) h.records))

    now_counted : count (ref_passes q) now ≡ count (ref_passes q) made + count (ref_passes q) (items_of (cut_pieces lo up before))
    unfolding pieces_now
    now_counted = insert_all-counts (ref_passes q) made (cut_pieces lo up before)

    cut-counted : count (ref_passes q) (items_of (cut_pieces lo up before)) + C ≡ count (ref_passes q) before + S
    cut-counted = cut-count (ref_passes q) (passes_pieces q) lo up before

    -- items + unrefs + releases = items before + shares
    pub balance : count (ref_passes q) now + (count q p.unrefs + count q p.releases) ≡ count (ref_passes q) before + (count q p.shares + 0)
    balance =
        rw h.made
        (omega (arith, now_counted, cut-counted, drops-lines q rs gone (accepted v dst src own span before shared source rs p h).«table_kept» h.dropped, drops-counted, count_append q (split_refs v dst src own span before shared source rs) (map ref_of made), splits_counted, copies-counted))

    -- covered and split items are different ones
    cover_most : C + S ≤ count (ref_passes q) before
    cover_most = count-apart ranged (λ (f : Fields). covered lo up f && ref_passes q f) (λ (f : Fields). split lo up f && ref_passes q f) (ref_passes q) (λ f t. cover_or_split lo up q f) before h.«all-ranged»

    -- the copies are of picked source items
    abbrev picks : Fields → Bool
    picks = copied copy

    abbrev M : List Fields → ℕ
    M fs = count (λ (f : Fields). picks f && ref_passes q f) fs

  module _ (start : ℕ) where
    abbrev at : Ref → Bool
    at q = eqb q.start start

    made_picked : naming start made ≡ M at (src_items v dst src own span before shared source rs)
    made_picked =
        count_map (names start) (clone_item copy) (keep (picks at) (src_items v dst src own span before shared source rs))
        ∙ count-keep (names start) (picks at) (src_items v dst src own span before shared source rs)

    made_most : naming start made ≤ naming start (src_items v dst src own span before shared source rs)
    made_most = rw made_picked (count_most (λ (f : Fields). picks at f && names start f) (names start) (λ f e. both_right (picks at f) (names start f) e) (src_items v dst src own span before shared source rs))

    -- what is shared was named, in the destination or in the source
    pub shared-named : 0 < count at p.shares → 0 < naming start before + naming start (src_items v dst src own span before shared source rs)
    shared-named =
        rw h.made
        (λ e. omega (arith, count_append at (split_refs v dst src own span before shared source rs) (map ref_of made), splits_counted at, copies-counted at, cover_most at, made_most))

    -- in one file a covered item is not picked: the ranges lie apart
    cover_or_pick : own ≡ true → (f : Fields) → cond (covered lo up f && names start f) 1 0 + cond (picks at f && names start f) 1 0 ≤ cond (names start f) 1 0
    cover_or_pick o f = go (covered lo up f) (picks at f) (names start f) refl refl
      where
        go : (c s n : Bool) → covered lo up f ≡ c → picks at f ≡ s → cond (c && n) 1 0 + cond (s && n) 1 0 ≤ cond n 1 0
        go true true n ec es =
            let i = both_right (touched lo up f) (leb lo f.key && leb (end f) up) ec in
            let a = leb-true lo f.key (both_left (leb lo f.key) (leb (end f) up) i) in
            let b = leb-true (end f) up (both_right (leb lo f.key) (leb (end f) up) i) in
            let k = picked copy f es in
            let x = k.ends in
            let y = k.starts in
            absurd (⊎_elim (λ e. omega arith) (λ e. omega arith) (h.separate o))
        go true false true ec es = omega arith
        go true false false ec es = omega arith
        go false true true ec es = omega arith
        go false true false ec es = omega arith
        go false false n ec es = omega arith

    -- with other files' items naming the extent, the source's among them
    module _ (others : ℕ) (rest : own ≡ false → naming start source ≤ others) where
      -- copies and covered items are different ones, or another file's
      picked_most : C at + naming start made ≤ naming start before + others
      picked_most = go own refl
        where
          go : (b : Bool) → own ≡ b → C at + naming start made ≤ naming start before + others
          go true e =
              let x : src_items v dst src own span before shared source rs ≡ before = rw e refl in
              omega (arith, made_picked ∙ ap (M at) x, count-apart ranged (λ (f : Fields). covered lo up f && names start f) (λ (f : Fields). picks at f && names start f) (names start) (λ f t. cover_or_pick e f) before h.«all-ranged»)
          go false e =
              let x : src_items v dst src own span before shared source rs ≡ source = rw e refl in
              omega (arith, ap (naming start) x, made_most, rest e, cover_most at)

      dropped-number : length (drops_of start gone) ≡ C at
      dropped-number = drops-number start gone ∙ drops-counted at

      abbrev counted : Type 0
      counted = 0 < naming start before + others → (k : ℕ) × (row : Row) × (find start rs ≡ Some (k, row)) × (row.references ≡ naming start before + others)

      pub released-only : counted → 0 < count at p.releases → (0 < naming start before + others) × (naming start now + others ≡ 0)
      released-only true' =
          rw h.made
          (λ e.
          let d = line-drops start gone rs (accepted v dst src own span before shared source rs p h).«table_kept» e in
          let some : 0 < naming start before + others = omega (arith, d.4, dropped-number, cover_most at) in
          let t = true' some in
          let found : ◌≡◌ {A = ℕ × Row} (d.0, d.1) (t.0, t.1) = cc (d.2, t.2) in
          let same : d.1 ≡ t.1 = ap (λ (x : ℕ × Row). x.1) found in
          let refs : d.1.references ≡ t.1.references = ap (λ (r : Row). r.references) same in
          (some, omega (arith, d.3, refs, t.3, dropped-number, cover_most at, picked_most, now_counted at, cut-counted at)))

      pub released-always : counted → every (λ (b : ℕ). eqb b 0) shared ≡ true → 0 < naming start before + others → naming start now + others ≡ 0 → 0 < count at p.releases
      released-always true' u some none =
          rw h.made
          (let t = true' some in
          drops-line start gone rs (accepted v dst src own span before shared source rs p h).«table_kept» t.0 t.1 t.2
          (omega (arith, t.3, dropped-number, now_counted at, cut-counted at, cover_most at))
          (omega (arith, dropped-number, now_counted at, cut-counted at, cover_most at))
          (every-keep (λ (d : InLeaf). eqb d.shared 0) (λ (d : InLeaf). covered lo up d.item && not (hole d.item)) (in_leaves before shared) (leaves-unshared before shared u)))
