-- The lines of drops, row by row and item by item, and how many there are. Assumes nothing.
use mathlib.Core.Path.{◌≡◌, refl, ap, ◌∙◌, sym}
use mathlib.Core.Bool.{Bool, true, false, cond}
use mathlib.Core.List.{List, [], ◌∷◌, map, flat_map}
use Prim.Native.Nat.{ℕ, ◌+◌, ◌≤◌}
use native.Mathlib.Omega.{arith}
use lib.Dec.{eqb, leb}
use lib.ListN.{length, length-append, length-map}
use borrow.Author.Tests.{eqb-true, le-leb, leb-true, leb-false}
use Rattle.std.specs.List.{filter}
use Rattle.records.specs.Select.{keep, count}
use Rattle.records.specs.Stages.{every, pairs}
use Rattle.records.proofs.Tests.{both_left, every_map}
use Rattle.records.proofs.Lists.{every_true}
use Rattle.records.proofs.Counts.{count-length, count-apart, keep-length}
use Rattle.item.specs.Items.{Fields}
use Rattle.table.specs.declared.Row.{Row}
use Rattle.table.specs.Rows.{row_sound, row_before, table_kept}
use Rattle.table.proofs.Laws.{kept-tail, kept-length, kept-pairs}
use Rattle.cut_def.specs.Refs.{Ref, ref_of}
use Rattle.ref_def.specs.Drops.{InLeaf, in_leaves, drops_of, lines, released, releases, unrefs}
use Rattle.ref_def.proofs.Drops.{drops-number, leaves-length}
use Rattle.drop_lines.specs.declared.Cut.{Cut}
use Rattle.drop_lines.specs.Dropped.{dropped, drops_in}
use Rattle.drop_lines.specs.Raw.{drop_of, line_of, lines_at, row_releases, row_unrefs}
use Rattle.drop_lines.proofs.Released.{of_extent, drops_of_lem}

-- ---- the lines of one extent: the shared bytes do not count

module _ (c : Cut) (start : ℕ) where
  lines-held : (fs : List Fields) (bs : List ℕ) → length bs ≡ length fs → map (λ (d : InLeaf). ref_of d.item) (keep (of_extent c start) (in_leaves fs bs)) ≡ lines_at c start fs
  unfolding in_leaves keep
  lines-held [] bs h = refl
  lines-held (f ∷ fs) [] h = absurd (omega arith)
  lines-held (f ∷ fs) (b ∷ bs) h = go (drop_of c start f) (lines-held fs bs (omega arith))
    where
      go : (t : Bool) → map (λ (d : InLeaf). ref_of d.item) (keep (of_extent c start) (in_leaves fs bs)) ≡ lines_at c start fs
          → map (λ (d : InLeaf). ref_of d.item) (cond t (record { item = f; shared = b } ∷ keep (of_extent c start) (in_leaves fs bs)) (keep (of_extent c start) (in_leaves fs bs)))
          ≡ map line_of (cond t (f ∷ filter (drop_of c start) fs) (filter (drop_of c start) fs))
      go true e = ap (λ (l : List Ref). ref_of f ∷ l) e
      go false e = e

  pub lines-items : (fs : List Fields) (bs : List ℕ) → length bs ≡ length fs → lines start (drops_in c fs bs) ≡ lines_at c start fs
  lines-items fs bs h = ap (map (λ (d : InLeaf). ref_of d.item)) (drops_of_lem c start fs bs) ∙ lines-held fs bs h

-- ---- the lines of one row, and of all

module _ (c : Cut) (fs : List Fields) (bs : List ℕ) (row : Row) (t : Bool) (e : t ≡ released (drops_in c fs bs) row) where
  pub released_lines : length bs ≡ length fs → t ≡ true → row_releases (drops_in c fs bs) row ≡ lines_at c row.start fs
  released_lines l z = rw (sym e ∙ z) (lines-items c row.start fs bs l)

  pub released_none : t ≡ true → row_unrefs (drops_in c fs bs) row ≡ []
  released_none z = rw (sym e ∙ z) refl

  pub held_lines : length bs ≡ length fs → t ≡ false → row_unrefs (drops_in c fs bs) row ≡ lines_at c row.start fs
  held_lines l z = rw (sym e ∙ z) (lines-items c row.start fs bs l)

  pub held_none : t ≡ false → row_releases (drops_in c fs bs) row ≡ []
  held_none z = rw (sym e ∙ z) refl

module _ (ds : List InLeaf) where
  -- the drops whose extent starts at or past a place
  abbrev from : ℕ → InLeaf → Bool
  from b d = leb b d.item.extent_start

  -- a drop gives a line of one kind or the other
  row_most : (row : Row) → length (row_releases ds row) + length (row_unrefs ds row) ≡ count (λ (d : InLeaf). eqb d.item.extent_start row.start) ds
  row_most row = go (released ds row) ∙ length-map (drops_of row.start ds) (λ (d : InLeaf). ref_of d.item) ∙ drops-number row.start ds
    where
      go : (u : Bool) → length (cond u (lines row.start ds) []) + length (cond u [] (lines row.start ds)) ≡ length (lines row.start ds)
      go true = omega arith
      go false = omega arith

  -- of rows from b on
  rows-most : (rs : List Row) (b : ℕ) → table_kept rs ≡ true → every (λ (r : Row). leb b r.start) rs ≡ true → length (releases rs ds) + length (unrefs rs ds) ≤ count (from b) ds
  unfolding flat_map every pairs
  rows-most [] b k h = omega arith
  rows-most (r ∷ rs) b k h =
      let ih = rows-most rs (r.start + 1) (kept-tail r rs k) (every_map (row_before r) (λ (q : Row). leb (r.start + 1) q.start) later rs (both_left (every (row_before r) rs) (pairs row_before rs) (kept-pairs (r ∷ rs) k).1)) in
      let x = length-append (row_releases ds r) (releases rs ds) in
      let y = length-append (row_unrefs ds r) (unrefs rs ds) in
      let w = row_most r in
      let z = count-apart (λ (d : InLeaf). true) (λ (d : InLeaf). eqb d.item.extent_start r.start) (from (r.start + 1)) (from b) (λ d e. apart d) ds (every_true ds) in
      omega arith
    where
      later : (q : Row) → row_before r q ≡ true → leb (r.start + 1) q.start ≡ true
      later q e = let l = leb-true (r.start + r.length) q.start e in le-leb (r.start + 1) q.start (omega (arith, kept-length (r ∷ rs) k 0 r (omega arith)))

      -- a drop of this row is of no later one
      apart : (d : InLeaf) → cond (eqb d.item.extent_start r.start) 1 0 + cond (from (r.start + 1) d) 1 0 ≤ cond (from b d) 1 0
      apart d = go (eqb s r.start) (leb (r.start + 1) s) (leb b s) refl refl refl
        where
          s : ℕ
          s = d.item.extent_start

          low : b ≤ r.start
          low = leb-true b r.start (both_left (leb b r.start) (every (λ (r : Row). leb b r.start) rs) h)

          go : (x y z : Bool) → eqb s r.start ≡ x → leb (r.start + 1) s ≡ y → leb b s ≡ z → cond x 1 0 + cond y 1 0 ≤ cond z 1 0
          go false false z p q t = omega arith
          go true true z p q t = absurd (omega (arith, eqb-true s r.start p, leb-true (r.start + 1) s q))
          go true false true p q t = omega arith
          go true false false p q t = absurd (omega (arith, low, eqb-true s r.start p, leb-false b s t))
          go false true true p q t = omega arith
          go false true false p q t = absurd (omega (arith, low, leb-true (r.start + 1) s q, leb-false b s t))

-- no more lines than items, releases and unrefs together
pub lines-most : (c : Cut) (rs : List Row) (fs : List Fields) (bs : List ℕ) → table_kept rs ≡ true → length bs ≡ length fs → length (releases rs (drops_in c fs bs)) + length (unrefs rs (drops_in c fs bs)) ≤ length fs
lines-most c rs fs bs k l =
    let ds = drops_in c fs bs in
    let x = rows-most ds rs 0 k (every_map row_sound (λ (r : Row). leb 0 r.start) (λ r e. le-leb 0 r.start (omega arith)) rs (kept-pairs rs k).0) in
    let y = count-length (from ds 0) ds in
    let z = keep-length (dropped c) (in_leaves fs bs) in
    let w = count-length (dropped c) (in_leaves fs bs) in
    omega (arith, leaves-length fs bs l)
