-- The item that holds an offset, by the first that ends past it. Assumes nothing.
use mathlib.Core.Path.{◌≡◌, refl, sym}
use mathlib.Core.Bool.{Bool, true, false, cond, ◌&&◌, and-false}
use mathlib.Core.List.{List, [], ◌∷◌}
use mathlib.Core.Option as maybe
use mathlib.Core.Option.{none, some}
use Prim.Native.Nat.{ℕ, suc, ◌+◌, ◌<◌, ◌≤◌, ◌^◌}
use native.Mathlib.Omega.{arith}
use lib.Dec.{leb, ltb}
use lib.ListN.{length, get_or}
use borrow.Author.Tests.{leb-true, leb-false, lt-leb, le-ltb, le-leb, lt-ltb}
use Rattle.std.specs.Prelude.{Option, Some}
use Rattle.records.proofs.Tests.{both}
use Rattle.item.specs.Items.{Fields, fields, items, end}
use Rattle.lists.specs.Lists.{range_sound}
use Rattle.cut_def.specs.Mappings.{named, holds}
use Rattle.cut_segment.specs.declared.RunningLeaves.{RunningLeaves}
use Rattle.cut_segment.specs.Segments.{nothing, item_at, leading, ends_by, Runs}
use Rattle.ref_def.specs.Drops.{InLeaf, in_leaves}
use Rattle.change_def.specs.declared.Rewrite.{Rewrite}
use Rattle.change_def.specs.Rewrites.{holder_of}
use Rattle.change_ground.specs.Lent.{running_leaves}
use Rattle.change_rewrites.specs.declared.Holder.{Holder}
use Rattle.change_rewrites.specs.Raw.{holder_leaf, holder_in}

module _ (o : ℕ) where
  -- one that ends at most at the offset does not hold it, nor does one that starts past it
  ended : (f : Fields) → end f ≤ o → holds o f ≡ false
  ended f h = rw (le-ltb o (end f) h, and-false (leb f.key o), and-false (named f)) refl

  later : (f : Fields) → o < f.key → holds o f ≡ false
  later f h = rw (lt-leb f.key o h, and-false (named f)) refl

  none_later : (b : ℕ) (fs : List Fields) (bs : List ℕ) → Runs b fs → o < b → holder_of o (in_leaves fs bs) ≡ none
  unfolding in_leaves holder_of
  none_later b [] bs r h = refl
  none_later b (f ∷ fs) [] r h = refl
  none_later b (f ∷ fs) (x ∷ bs) r h = rw (later f (omega (arith, r.0))) (none_later (end f) fs bs r.4 (omega (arith, r.0)))

  -- item i with its byte, if it holds the offset
  abbrev leaf_at : List Fields → List ℕ → ℕ → maybe.Option InLeaf
  leaf_at fs bs i = cond (holds o (get_or fs i nothing)) (some (record { item = get_or fs i nothing; shared = get_or bs i 0 })) none

  holder_here : (b : ℕ) (fs : List Fields) (bs : List ℕ) → Runs b fs → length bs ≡ length fs → leading (ends_by o) fs < length fs → holder_of o (in_leaves fs bs) ≡ leaf_at fs bs (leading (ends_by o) fs)
  unfolding in_leaves holder_of leading
  holder_here b [] bs r l h = absurd (omega arith)
  holder_here b (f ∷ fs) [] r l h = absurd (omega arith)
  holder_here b (f ∷ fs) (x ∷ bs) r l h = go (ends_by o f) refl (λ k. holder_here (end f) fs bs r.4 (omega arith) k) h
    where
      go : (t : Bool) → ends_by o f ≡ t → (leading (ends_by o) fs < length fs → holder_of o (in_leaves fs bs) ≡ leaf_at fs bs (leading (ends_by o) fs)) → cond t (suc (leading (ends_by o) fs)) 0 < suc (length fs)
          → cond (holds o f) (some (record { item = f; shared = x })) (holder_of o (in_leaves fs bs)) ≡ leaf_at (f ∷ fs) (x ∷ bs) (cond t (suc (leading (ends_by o) fs)) 0)
      go true e ih k = rw (ended f (leb-true (end f) o e)) (ih (omega arith))
      go false e ih k = rw (none_later (end f) fs bs r.4 (leb-false (end f) o e)) refl

  holder-nowhere : (fs : List Fields) (bs : List ℕ) → length fs ≤ leading (ends_by o) fs → holder_of o (in_leaves fs bs) ≡ none
  unfolding in_leaves holder_of leading
  holder-nowhere [] bs h = refl
  holder-nowhere (f ∷ fs) [] h = refl
  holder-nowhere (f ∷ fs) (x ∷ bs) h = go (ends_by o f) refl (λ k. holder-nowhere fs bs k) h
    where
      go : (t : Bool) → ends_by o f ≡ t → (length fs ≤ leading (ends_by o) fs → holder_of o (in_leaves fs bs) ≡ none) → suc (length fs) ≤ cond t (suc (leading (ends_by o) fs)) 0
          → cond (holds o f) (some (record { item = f; shared = x })) (holder_of o (in_leaves fs bs)) ≡ none
      go true e ih k = rw (ended f (leb-true (end f) o e)) (ih (omega arith))
      go false e ih k = absurd (omega arith)

  -- the item that holds the offset does so, and has a sound range
  pub holder_ranged : (b : ℕ) (fs : List Fields) (bs : List ℕ) (h : InLeaf) → Runs b fs → some h ≡ holder_of o (in_leaves fs bs) → (range_sound h.item ≡ true) × (holds o h.item ≡ true)
  unfolding in_leaves holder_of
  holder_ranged b [] bs h r e = let z : ◌≡◌ {A = ℕ} 0 1 = cc in absurd (omega arith)
  holder_ranged b (f ∷ fs) [] h r e = let z : ◌≡◌ {A = ℕ} 0 1 = cc in absurd (omega arith)
  holder_ranged b (f ∷ fs) (x ∷ bs) h r e = go (holds o f) refl e (λ k. holder_ranged (end f) fs bs h r.4 k)
    where
      go : (t : Bool) → holds o f ≡ t → some h ≡ cond t (some (record { item = f; shared = x })) (holder_of o (in_leaves fs bs)) → (some h ≡ holder_of o (in_leaves fs bs) → (range_sound h.item ≡ true) × (holds o h.item ≡ true)) → (range_sound h.item ≡ true) × (holds o h.item ≡ true)
      go true q k ih =
          let i : h.item ≡ f = cc in
          let sound : range_sound f ≡ true = both (leb 1 f.length && leb (end f) (2 ^ 63)) (ltb (f.position + f.length) (2 ^ 64)) (both (leb 1 f.length) (leb (end f) (2 ^ 63)) (le-leb 1 f.length r.1) (le-leb (end f) (2 ^ 63) r.2)) (lt-ltb (f.position + f.length) (2 ^ 64) r.3) in
          rw i (sound, q)
      go false q k ih = ih k

  -- from what the calls give: i of the items end at most at the offset
  module _ (l : RunningLeaves) (i : ℕ) (e : i ≡ leading (ends_by o) (items l.list.records.now)) where
    pub holder-none : length (items l.list.records.now) ≤ i → none ≡ holder_of o (running_leaves l)
    holder-none h = sym (holder-nowhere (items l.list.records.now) l.shared.now (rw e at h))

    module _ (x : Fields) (t : Bool) (h : i < length (items l.list.records.now)) (q : x ≡ item_at l.list.records.now i) (s : t ≡ holds o x) where
      holder_found : cond t (some (record { item = x; shared = get_or l.shared.now i 0 })) none ≡ holder_of o (running_leaves l)
      holder_found = rw (s, q, e) (sym (holder_here 0 (items l.list.records.now) l.shared.now l.list.runs l.one_each (rw e at h)))

      pub holder_stop : t ≡ true → some (record { item = x; shared = get_or l.shared.now i 0 }) ≡ holder_of o (running_leaves l)
      holder_stop k = rw k at holder_found

      pub holder_free : t ≡ false → none ≡ holder_of o (running_leaves l)
      holder_free k = rw k at holder_found

-- what a search says, where it finds an item
module _ (r : Rewrite) (l : RunningLeaves) (o : Option Holder) (h : Holder) (e : o ≡ Some h) (t : holder_in o ≡ holder_of r.sector (running_leaves l)) where
  pub found_some : some (holder_leaf h) ≡ holder_of r.sector (running_leaves l)
  found_some = rw e at t

  pub found_held : (range_sound (fields h.item) ≡ true) × (holds r.sector (fields h.item) ≡ true)
  found_held = holder_ranged r.sector 0 (items l.list.records.now) l.shared.now (holder_leaf h) l.list.runs found_some
