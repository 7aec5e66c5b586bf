-- Which item holds a rewritten sector, and what a rewrite in place that is not refused rests on. Assumes nothing.
use mathlib.Core.Path.{◌≡◌, refl}
use mathlib.Core.Bool.{Bool, true, false, cond, ◌&&◌, not, false≢true}
use mathlib.Core.List.{List, [], ◌∷◌, Memᴰ}
use mathlib.Core.Option.{Option, none, some}
use mathlib.Core.Logic.{◌↔◌}
use Prim.Native.Nat.{ℕ, ◌+◌, ◌<◌}
use native.Mathlib.Omega.{arith}
use lib.Dec.{eqb, ltb}
use borrow.Author.Tests.{eqb-true, eq-eqb, ltb-true}
use Rattle.std.specs.Prelude.{Some, None}
use Rattle.records.specs.Stages.{whenever, unless, first, first_of, every}
use Rattle.records.proofs.Tests.{both_left, both_right, first-zero, first_of_zero, unless-zero}
use Rattle.table.specs.declared.Row.{Row}
use Rattle.table.specs.Rows.{Found, find, with_row}
use Rattle.table.specs.Windows.{window_inside}
use Rattle.cut_def.specs.Mappings.{holds, holder}
use Rattle.cut_def.specs.Refs.{naming}
use Rattle.ref_def.specs.Drops.{InLeaf}
use Rattle.change_def.specs.declared.Rewrite.{Rewrite}
use Rattle.change_def.specs.Rewrites.{Ground, leaf_items, holder_of, when_held, preallocated, in_place, position_of, in_place_refusal, rewrite_refusal}

-- ---- the item that holds an offset

-- it holds the offset, and is one of the list
pub holder_says : (o : ℕ) (hs : List InLeaf) (h : InLeaf) → holder_of o hs ≡ some h → (holds o h.item ≡ true) × Memᴰ h hs
unfolding holder_of
holder_says o [] h e = let z : ◌≡◌ {A = ℕ} 0 1 = cc in absurd (omega arith)
holder_says o (q ∷ hs) h e = go (holds o q.item) refl e (holder_says o hs h)
  where
    go : (b : Bool) → holds o q.item ≡ b → cond b (some q) (holder_of o hs) ≡ some h
        → (holder_of o hs ≡ some h → (holds o h.item ≡ true) × Memᴰ h hs)
        → (holds o h.item ≡ true) × Memᴰ h (q ∷ hs)
    go true t e rec = let i : h ≡ q = cc in (rw i t, Memᴰ.head i)
    go false t e rec = let r = rec e in (r.0, Memᴰ.tail r.1)

-- where there is none, no item holds the offset
pub holder-none : (o : ℕ) (hs : List InLeaf) → holder_of o hs ≡ none → every (λ (h : InLeaf). not (holds o h.item)) hs ≡ true
unfolding holder_of every
holder-none o [] e = refl
holder-none o (q ∷ hs) e = go (holds o q.item) e (holder-none o hs)
  where
    go : (b : Bool) → cond b (some q) (holder_of o hs) ≡ none
        → (holder_of o hs ≡ none → every (λ (h : InLeaf). not (holds o h.item)) hs ≡ true)
        → (not b && every (λ (h : InLeaf). not (holds o h.item)) hs) ≡ true
    go true e rec = let z : ◌≡◌ {A = ℕ} 0 1 = cc in absurd (omega arith)
    go false e rec = rec e

-- the same without the shared bytes
pub holder-item : (o : ℕ) (hs : List InLeaf) → holder o (leaf_items hs) ≡ when_held (holder_of o hs) none (λ (h : InLeaf). some h.item)
unfolding holder holder_of
holder-item o [] = refl
holder-item o (q ∷ hs) = go (holds o q.item) (holder-item o hs)
  where
    go : (b : Bool) → holder o (leaf_items hs) ≡ when_held (holder_of o hs) none (λ (h : InLeaf). some h.item)
        → cond b (some q.item) (holder o (leaf_items hs)) ≡ when_held (cond b (some q) (holder_of o hs)) none (λ (h : InLeaf). some h.item)
    go true rec = refl
    go false rec = rec

-- ---- the preallocated one

-- it holds the sector, and its kind is 2
pub preallocated_says : (g : Ground) (r : Rewrite) (h : InLeaf) → preallocated g r ≡ some h → (holder_of r.sector g.in_leaves ≡ some h) × (h.item.kind ≡ 2)
preallocated_says g r h e = found (holder_of r.sector g.in_leaves) e
  where
    kind : (q : InLeaf) (b : Bool) → eqb q.item.kind 2 ≡ b → cond b (some q) none ≡ some h → (some q ≡ some h) × (h.item.kind ≡ 2)
    kind q true t e = let i : q ≡ h = cc in (e, rw i at (eqb-true q.item.kind 2 t))
    kind q false t e = let z : ◌≡◌ {A = ℕ} 0 1 = cc in absurd (omega arith)

    found : (o : Option InLeaf) → when_held o none (λ (q : InLeaf). cond (eqb q.item.kind 2) (some q) none) ≡ some h → (o ≡ some h) × (h.item.kind ≡ 2)
    found none e = let z : ◌≡◌ {A = ℕ} 0 1 = cc in absurd (omega arith)
    found (some q) e = kind q (eqb q.item.kind 2) refl e

-- a rewrite is in place where there is one
pub in_place_some : (g : Ground) (r : Rewrite) → (in_place g r ≡ true) ↔ ((h : InLeaf) × (preallocated g r ≡ some h))
in_place_some g r = (there (preallocated g r) refl, λ p. rw p.1 refl)
  where
    there : (o : Option InLeaf) → preallocated g r ≡ o → when_held o false (λ (h : InLeaf). true) ≡ true → (h : InLeaf) × (preallocated g r ≡ some h)
    there none e t = absurd (false≢true t)
    there (some h) e t = (h, e)

-- ---- a rewrite in place that is not refused

-- the extent's row, the window in it, and 18's three reasons set aside
pub record SoundRewrite (g : Ground) (r : Rewrite) (h : InLeaf) : Type 0 where
  pub number : ℕ
  pub row : Row
  pub found : find h.item.extent_start g.rows ≡ Some (number, row)
  pub inside : window_inside (h.item.extent_start + position_of r h) g.sector h.item.extent_start row.length ≡ true
  pub own : row.references ≡ naming h.item.extent_start (leaf_items g.in_leaves)
  pub fresh : g.snapshot < row.made
  pub unshared : h.shared ≡ 0

in_place_zero : (g : Ground) (r : Rewrite) (h : InLeaf) → in_place_refusal g r h ≡ 0 → SoundRewrite g r h
in_place_zero g r h z = go (find h.item.extent_start g.rows) refl z
  where
    window : Row → Bool
    window row = window_inside (h.item.extent_start + position_of r h) g.sector h.item.extent_start row.length

    own : Row → Bool
    own row = eqb row.references (naming h.item.extent_start (leaf_items g.in_leaves))

    rest : Row → Bool
    rest row = ltb g.snapshot row.made && eqb h.shared 0

    go : (f : Found) → find h.item.extent_start g.rows ≡ f
        → with_row f (λ (row : Row). first_of (unless (window row) 17 ∷ unless (own row && rest row) 18 ∷ [])) ≡ 0 → SoundRewrite g r h
    go (Some (k, row)) e z =
        let p = first_of_zero (unless (window row) 17 ∷ unless (own row && rest row) 18 ∷ []) z in
        let t = unless-zero (own row && rest row) 18 p.1.0 (λ n. omega arith) in
        let u : rest row ≡ true = both_right (own row) (rest row) t in
        record {
          number = k;
          row = row;
          found = e;
          inside = unless-zero (window row) 17 p.0 (λ n. omega arith);
          own = eqb-true row.references (naming h.item.extent_start (leaf_items g.in_leaves)) (both_left (own row) (rest row) t);
          fresh = ltb-true g.snapshot row.made (both_left (ltb g.snapshot row.made) (eqb h.shared 0) u);
          unshared = eqb-true h.shared 0 (both_right (ltb g.snapshot row.made) (eqb h.shared 0) u);
        }
    go None e z = absurd (omega arith)

-- a rewrite in place that is not refused is sound
pub rewrite_sound : (g : Ground) (r : Rewrite) (h : InLeaf) → rewrite_refusal g r ≡ 0 → preallocated g r ≡ some h → SoundRewrite g r h
rewrite_sound g r h z e =
    let p = preallocated_says g r h e in
    let k : ℕ = h.item.kind in
    let y : first (whenever (g.nodatacow && eqb k 1) 16) (cond (eqb k 2) (in_place_refusal g r h) 0) ≡ 0 = rw p.0 at z in
    in_place_zero g r h (rw (eq-eqb k 2 p.1) at (first-zero (whenever (g.nodatacow && eqb k 1) 16) (cond (eqb k 2) (in_place_refusal g r h) 0) y).1)
