-- The copies of a source list, item by item and one behind the other. Assumes nothing.
use mathlib.Core.Path.{◌≡◌, refl, ap, ◌∙◌, sym}
use mathlib.Core.Bool.{Bool, true, false, cond, ◌&&◌, not, false≢true}
use mathlib.Core.List.{List, [], ◌∷◌, ◌++◌, map, map-append}
use Prim.Native.Nat.{ℕ, ◌+◌, ◌*◌, ◌/◌, ◌<◌, ◌≤◌}
use native.Mathlib.Omega.{arith}
use native.Mathlib.Decide.{dec_lt}
use lib.Dec.{eqb}
use lib.ListN.{length, take, drop, get_or, take-append-drop, length-drop, drop_of_length-le}
use Rattle.std.specs.Prelude.{Option, Some, None, position, nat_lt}
use Rattle.std.specs.Bool.{then_some}
use Rattle.item.specs.declared.Item.{Item}
use Rattle.std.specs.List.{position_or_len}
use Rattle.std.proofs.lemmas.List.{drop-drop, get_or-drop}
use Rattle.std.proofs.lemmas.List.Quantifiers.{position-Some}
use borrow.Author.Tests.{not-true, ltb-false}
use Rattle.records.specs.Stages.{every, pairs}
use Rattle.records.specs.Select.{keep}
use Rattle.records.proofs.Tests.{both_left, both_right, implied, every-at}
use Rattle.item.specs.Items.{Fields, fields, decode, items, hole, reference}
use Rattle.item.proofs.Laws.{items-length, items_at}
use Rattle.lists.specs.Lists.{range_sound, rises}
use Rattle.records.proofs.Lists.{pairs_parts}
use Rattle.records.proofs.Picks.{keep_append}
use Rattle.cut_def.specs.Pieces.{counted_bytes}
use Rattle.cut_def.specs.Refs.{ref_of}
use Rattle.edit_merge.specs.Merge.{from, comes_first}
use Rattle.edit_merge.proofs.News.{from_cons, from_nil, first_read}
use Rattle.clone_items.specs.declared.Copying.{Copying}
use Rattle.clone_items.specs.Copies.{overlaps, clone_item, copied, clones}
use Rattle.clone_items.specs.Raw.{Copyable}
use Rattle.clone_copies.specs.Walk.{leads, copy_sound, Settled, Sought, LeadingCopy}

-- ---- one item

-- an item that is copied can be
pub copy_able : (c : Copying) (f : Fields) → copy_sound c f ≡ true → copied c f ≡ true → Copyable c f
copy_able c f s h =
    record {
      sound = implied (copied c f) (range_sound f) s h;
      over = both_left (overlaps c f) (not (hole f)) (both_right (not (eqb f.kind 0)) (overlaps c f && not (hole f)) h);
    }

copied_solid : (c : Copying) (f : Fields) → copied c f ≡ true → hole f ≡ false
copied_solid c f h = not-true (hole f) (both_right (overlaps c f) (not (hole f)) (both_right (not (eqb f.kind 0)) (overlaps c f && not (hole f)) h))

-- the first of items that are sound where they are copied, and those behind it
pub sound_first : (c : Copying) (l : List Fields) (f : Fields) (fs : List Fields) → l ≡ f ∷ fs → every (copy_sound c) l ≡ true → (copy_sound c f ≡ true) × (every (copy_sound c) fs ≡ true)
unfolding every
sound_first c l f fs e h = let x = rw e at h in (both_left (copy_sound c f) (every (copy_sound c) fs) x, both_right (copy_sound c f) (every (copy_sound c) fs) x)

-- an item that the walk has come to
pub able_read : (c : Copying) (s : List ℕ) (k : ℕ) (f : Fields) (fs : List Fields) → every (copy_sound c) (items s) ≡ true → Settled c s k → from s k ≡ f ∷ fs → Copyable c f
able_read c s k f fs h w e =
    let r = first_read s k f fs e in
    let l : k < length (items s) = omega (arith, r.0, items-length s) in
    let at : f ≡ get_or (items s) k f = r.1 ∙ sym (items_at s k f r.0) in
    copy_able c f (ap (copy_sound c) at ∙ every-at (copy_sound c) (items s) h k f l) (ap (copied c) r.1 ∙ w.there r.0)

-- its copy's reference, by its numbers
pub copy_ref : (c : Copying) (f g : Fields) (start offset : ℕ) → start ≡ g.extent_start → offset ≡ reference g → g ≡ clone_item c f → record { start = start; offset = offset } ≡ ref_of (clone_item c f)
copy_ref c f g start offset p q e = rw (p, q, e) refl

-- ---- the copies of a list, by its first item

module _ (c : Copying) (f : Fields) (fs : List Fields) where
  pub clones-yes : copied c f ≡ true → clones c (f ∷ fs) ≡ clone_item c f ∷ clones c fs
  unfolding keep
  clones-yes h = rw h refl

  pub clones-no : copied c f ≡ false → clones c (f ∷ fs) ≡ clones c fs
  unfolding keep
  clones-no h = rw h refl

-- of what a loop has left: the next item is copied, or passed
module _ (c : Copying) (l : List Fields) (f : Fields) (fs : List Fields) (e : l ≡ f ∷ fs) where
  pub left-copied : copied c f ≡ true → clones c l ≡ clone_item c f ∷ clones c fs
  left-copied h = ap (clones c) e ∙ clones-yes c f fs h

  pub left-passed : copied c f ≡ false → clones c l ≡ clones c fs
  left-passed h = ap (clones c) e ∙ clones-no c f fs h

  -- a copy is no hole
  pub bytes-copied : copied c f ≡ true → (g : Fields) → g ≡ clone_item c f → counted_bytes (clones c l) ≡ g.length + counted_bytes (clones c fs)
  unfolding counted_bytes
  bytes-copied h g p = ap counted_bytes (left-copied h) ∙ rw (copied_solid c f h, p) refl

pub left-none : (c : Copying) (l : List Fields) → l ≡ [] → clones c l ≡ []
unfolding keep
left-none c l e = rw e refl

pub bytes-none : (c : Copying) (l : List Fields) → l ≡ [] → counted_bytes (clones c l) ≡ 0
unfolding counted_bytes
bytes-none c l e = ap counted_bytes (left-none c l e)

-- ---- the walk

module _ (c : Copying) (s : List ℕ) where
  pub walk_end : (k : ℕ) → length s / 70 ≤ k → clones c (from s k) ≡ []
  unfolding keep
  walk_end k h = rw (from_nil s k h) refl

  -- a record that is copied, and one that is not
  pub walk_copied : (k : ℕ) → k < length s / 70 → copied c (decode (drop (k * 70) s)) ≡ true → clones c (from s k) ≡ clone_item c (decode (drop (k * 70) s)) ∷ clones c (from s (k + 1))
  walk_copied k h e = rw (from_cons s k h) (clones-yes c (decode (drop (k * 70) s)) (from s (k + 1)) e)

  -- the records before the first one that is copied add nothing
  passed : (fs : List Fields) → clones c (drop (position_or_len (copied c) fs) fs) ≡ clones c fs
  passed [] = refl
  passed (f ∷ fs) = go (copied c f) refl (passed fs)
    where
      go : (b : Bool) → copied c f ≡ b → clones c (drop (position_or_len (copied c) fs) fs) ≡ clones c fs → clones c (drop (cond (not b) (1 + position_or_len (copied c) fs) 0) (f ∷ fs)) ≡ clones c (f ∷ fs)
      go true e ih = refl
      go false e ih = ap (clones c) (sym (drop-drop (position_or_len (copied c) fs) 1 (f ∷ fs))) ∙ ih ∙ sym (clones-no c f fs e)

  -- what a search gives
  pub sought_at : (k d : ℕ) → position (copied c) (from s k) ≡ Some d → Sought c s k (k + d)
  sought_at k d e =
      let p = position-Some (copied c) (from s k) d (decode s) e in
      let l : k + d < length s / 70 = omega (arith, p.0, length-drop k (items s), items-length s) in
      record {
        least = omega arith;
        settled = record { most = omega arith; there = λ t. ap (copied c) (sym (items_at s (k + d) (decode s) l)) ∙ ap (copied c) (sym (get_or-drop k (items s) d (decode s))) ∙ p.1 };
        same = ap (clones c) (sym (drop-drop d k (items s))) ∙ ap (λ (n : ℕ). clones c (drop n (from s k))) (place (nat_lt (position_or_len (copied c) (from s k)) (length (from s k))) e) ∙ passed (from s k);
      }
    where
      place : (b : Bool) → cond b (Some (position_or_len (copied c) (from s k))) None ≡ Some d → d ≡ position_or_len (copied c) (from s k)
      place true e = cc
      place false e = absurd cc

  pub sought_none : (k n : ℕ) → n ≡ length s / 70 → k ≤ n → position (copied c) (from s k) ≡ None → Sought c s k n
  sought_none k n m h e =
      record {
        least = h;
        settled = record { most = omega arith; there = λ t. absurd (omega arith) };
        same =
            walk_end n (omega arith)
            ∙ sym (walk_end (k + length (from s k)) (omega (arith, length-drop k (items s), items-length s)))
            ∙ ap (clones c) (sym (drop-drop (length (from s k)) k (items s)))
            ∙ past (nat_lt (position_or_len (copied c) (from s k)) (length (from s k))) refl e
            ∙ passed (from s k);
      }
    where
      past : (b : Bool) → nat_lt (position_or_len (copied c) (from s k)) (length (from s k)) ≡ b → cond b (Some (position_or_len (copied c) (from s k))) None ≡ None
          → clones c (drop (length (from s k)) (from s k)) ≡ clones c (drop (position_or_len (copied c) (from s k)) (from s k))
      past true l z = absurd cc
      past false l z =
          let n : length (from s k) ≤ position_or_len (copied c) (from s k) = ltb-false (position_or_len (copied c) (from s k)) (length (from s k)) l in
          ap (clones c) (drop_of_length-le (from s k) {i = length (from s k)} (omega arith) ∙ sym (drop_of_length-le (from s k) {i = position_or_len (copied c) (from s k)} n))

-- ---- whether a copy is the first of the new items

pub leads-end : (t : List ℕ) (j key : ℕ) → length t / 70 ≤ j → true ≡ leads key (from t j)
leads-end t j key h = rw (from_nil t j h) refl

module _ (c : Copying) (s t : List ℕ) (j k : ℕ) (w : Settled c s k) where
  pub copy_none : from s k ≡ [] → comes_first (clones c (from s k)) (from t j) ≡ false
  unfolding keep
  copy_none h = rw h refl

  pub copy_leads : (g : Fields) (b : Bool) → k < length s / 70 → g ≡ clone_item c (decode (drop (k * 70) s)) → b ≡ leads g.key (from t j) → b ≡ comes_first (clones c (from s k)) (from t j)
  copy_leads g b h e p = rw (walk_copied c s k h (w.there h)) (go (from t j) (p ∙ rw e refl))
    where
      go : (gs : List Fields) → b ≡ leads (clone_item c (decode (drop (k * 70) s))).key gs → b ≡ comes_first (clone_item c (decode (drop (k * 70) s)) ∷ clones c (from s (k + 1))) gs
      go [] q = q
      go (x ∷ xs) q = q

  -- it is, if it leads
  pub leading-if :
      (x copy : Item) (fs : List Fields) (b : Bool) (r : Option Item) → from s k ≡ fields x ∷ fs → fields copy ≡ clone_item c (fields x) → b ≡ leads copy.key (from t j)
      → r ≡ then_some b copy → LeadingCopy c s t j k r
  leading-if x copy fs b r e p q z =
      rw z (go b (copy_leads (fields copy) b n.0 (p ∙ ap (clone_item c) n.1) q))
    where
      n : (k < length s / 70) × (fields x ≡ decode (drop (k * 70) s)) × (fs ≡ from s (k + 1))
      n = first_read s k (fields x) fs e

      go : (b : Bool) → b ≡ comes_first (clones c (from s k)) (from t j) → LeadingCopy c s t j k (then_some b copy)
      go true h = (n.0, p ∙ ap (clone_item c) n.1, sym h)
      go false h = sym h

  -- where none comes first and the segment has ended, none is left
  pub copy_gone : (b : Bool) → b ≡ comes_first (clones c (from s k)) (from t j) → b ≡ false → length t / 70 ≤ j → length s / 70 ≤ k
  copy_gone b e h l =
      elim (dec_lt k (length s / 70)) [
        | yes m ↦ absurd (false≢true (sym h ∙ e ∙ sym (copy_leads (clone_item c (decode (drop (k * 70) s))) true m refl (leads-end t j _ l))))
        | no m ↦ omega arith
      ]

-- the copies from a record on rise, as all do
pub copies-rise : (c : Copying) (s : List ℕ) (k : ℕ) → pairs rises (clones c (items s)) ≡ true → pairs rises (clones c (from s k)) ≡ true
copies-rise c s k r =
    let a : List Fields = take k (items s) in
    let e : clones c (items s) ≡ clones c a ++ clones c (from s k) = ap (clones c) (sym (take-append-drop k (items s))) ∙ ap (map (clone_item c)) (keep_append (copied c) a (from s k)) ∙ map-append (clone_item c) (keep (copied c) a) (keep (copied c) (from s k)) in
    (pairs_parts rises (clones c a) (clones c (from s k)) (rw e at r)).1
