-- What callers have of a list that was accepted. Assumes nothing.
use mathlib.Core.Path.{◌≡◌, refl}
use mathlib.Core.Bool.{Bool, true, false, ◌&&◌, ◌||◌, not}
use mathlib.Core.List.{List, ◌∷◌}
use mathlib.Core.Logic.{⊎_elim}
use Prim.Native.Nat.{ℕ, ◌%◌, ◌<◌, ◌≤◌}
use native.Mathlib.Omega.{arith}
use native.Mathlib.Decide.{ℕ_discrete}
use lib.Dec.{eqb, leb}
use lib.ListN.{length, get_or}
use borrow.Author.Tests.{eqb-true, eqb-false, eq-eqb, leb-true, ltb-true}
use Rattle.records.specs.Stages.{whenever, unless, first, first_of, every, pairs}
use Rattle.records.proofs.Tests.{both_left, both_right, either, either_left, either_right, implied, first-zero, whenever-zero, unless-zero, every-at, pairs-at}
use Rattle.item.specs.Items.{Fields, ranged, end}
use Rattle.lists.specs.Lists.{item_sound, range_sound, rises, apart, list_kept, whole_sectors, record_refusal}
use Rattle.lists.proofs.Order.{item-ranged}

-- ---- a well_kept_lem list

pub record Kept (file : ℕ) (fs : List Fields) : Type 0 where
  pub sound : every (item_sound file) fs ≡ true
  pub rising : pairs rises fs ≡ true
  pub separate : pairs apart fs ≡ true

pub kept : (file : ℕ) (fs : List Fields) → list_kept file fs ≡ true → Kept file fs
unfolding list_kept
kept file fs h =
    let s : Bool = every (item_sound file) fs in
    let r : Bool = pairs rises fs in
    let p : Bool = pairs apart fs in
    let t : (r && p) ≡ true = both_right s (r && p) h in
    record { sound = both_left s (r && p) h; rising = both_left r p t; separate = both_right r p t }

pub well_kept_lem : (file : ℕ) (fs : List Fields) → Kept file fs → list_kept file fs ≡ true
unfolding list_kept
well_kept_lem file fs k = rw (k.sound, k.rising, k.separate) refl

-- by induction: the first item, and the rest
pub kept-tail : (file : ℕ) (f : Fields) (fs : List Fields) → Kept file (f ∷ fs) → Kept file fs
unfolding every pairs
kept-tail file f fs k =
    record {
      sound = both_right (item_sound file f) (every (item_sound file) fs) k.sound;
      rising = both_right (every (rises f) fs) (pairs rises fs) k.rising;
      separate = both_right (every (apart f) fs) (pairs apart fs) k.separate;
    }

pub kept-head : (file : ℕ) (f : Fields) (fs : List Fields) → Kept file (f ∷ fs) → item_sound file f ≡ true
unfolding every
kept-head file f fs k = both_left (item_sound file f) (every (item_sound file) fs) k.sound

-- by number
module _ (file : ℕ) (fs : List Fields) (k : Kept file fs) (e : Fields) where
  pub kept_at : (i : ℕ) → i < length fs → item_sound file (get_or fs i e) ≡ true
  kept_at i l = every-at (item_sound file) fs k.sound i e l

  -- an earlier item has the lower key
  pub keys_rise : (i j : ℕ) → i < j → j < length fs → (get_or fs i e).key < (get_or fs j e).key
  keys_rise i j l m = ltb-true (get_or fs i e).key (get_or fs j e).key (pairs-at rises fs k.rising i j e l m)

  -- and ends at most where a later one starts
  pub ranges_apart : (i j : ℕ) → i < j → j < length fs → ranged (get_or fs i e) ≡ true → ranged (get_or fs j e) ≡ true → end (get_or fs i e) ≤ (get_or fs j e).key
  ranges_apart i j l m p q =
      let f : Fields = get_or fs i e in
      let g : Fields = get_or fs j e in
      let lt : f.key < g.key = keys_rise i j l m in
      let some = (item-ranged file g (kept_at j m) q).some in
      ⊎_elim (λ x. leb-true (end f) g.key x) (λ x. let y = leb-true (end g) f.key x in absurd (omega arith))
      (either (leb (end f) g.key) (leb (end g) f.key)
      (implied (ranged g) (leb (end f) g.key || leb (end g) f.key)
      (implied (ranged f) (not (ranged g) || (leb (end f) g.key || leb (end g) f.key)) (pairs-at apart fs k.separate i j e l m) p) q))

-- ---- one item

pub item-file : (file : ℕ) (f : Fields) → item_sound file f ≡ true → (f.file ≡ file) × (f.key_type ≡ 108)
item-file file f h =
    let t : (eqb f.file file && eqb f.key_type 108) ≡ true = both_left (eqb f.file file && eqb f.key_type 108) (not (ranged f) || range_sound f) h in
    (eqb-true f.file file (both_left (eqb f.file file) (eqb f.key_type 108) t), eqb-true f.key_type 108 (both_right (eqb f.file file) (eqb f.key_type 108) t))

pub whole_facts : (sector : ℕ) (f : Fields) → whole_sectors sector f ≡ true → ranged f ≡ true → (f.key % sector ≡ 0) × (f.length % sector ≡ 0)
whole_facts sector f h r =
    let t = implied (ranged f) (eqb (f.key % sector) 0 && eqb (f.length % sector) 0) h r in
    (eqb-true (f.key % sector) 0 (both_left (eqb (f.key % sector) 0) (eqb (f.length % sector) 0) t), eqb-true (f.length % sector) 0 (both_right (eqb (f.key % sector) 0) (eqb (f.length % sector) 0) t))

-- a kind that is neither inline nor over 2
pub ranged_of : (f : Fields) → (f.kind ≡ 0 → ⊥) → f.kind ≤ 2 → ranged f ≡ true
ranged_of f e l =
    elim (ℕ_discrete f.kind 1) [
      | yes p ↦ either_left (eqb f.kind 1) (eqb f.kind 2) (eq-eqb f.kind 1 p)
      | no p ↦ either_right (eqb f.kind 1) (eqb f.kind 2) (eq-eqb f.kind 2 (omega arith))
    ]

-- a record that passes 7, 8 and 9 is of kind 1 or 2 and not encoded
pub record Plain (f : Fields) : Type 0 where
  pub ranged : ranged f ≡ true
  pub encryption : f.encryption ≡ 0
  pub other : f.other ≡ 0

pub plain : (f : Fields) → record_refusal f ≡ 0 → Plain f
unfolding first_of
plain f h =
    let u7 : ℕ = whenever (eqb f.kind 0) 7 in
    let u8 : ℕ = unless (leb f.kind 2) 8 in
    let u9 : ℕ = unless (eqb f.encryption 0 && eqb f.other 0) 9 in
    let z = first-zero u7 (first u8 (first u9 0)) h in
    let y = first-zero u8 (first u9 0) z.1 in
    let x = first-zero u9 0 y.1 in
    let inline : eqb f.kind 0 ≡ false = whenever-zero (eqb f.kind 0) 7 z.0 (λ e. omega arith) in
    let over = leb-true f.kind 2 (unless-zero (leb f.kind 2) 8 y.0 (λ e. omega arith)) in
    let plain : (eqb f.encryption 0 && eqb f.other 0) ≡ true = unless-zero (eqb f.encryption 0 && eqb f.other 0) 9 x.0 (λ e. omega arith) in
    record {
      ranged = ranged_of f (eqb-false f.kind 0 inline) over;
      encryption = eqb-true f.encryption 0 (both_left (eqb f.encryption 0) (eqb f.other 0) plain);
      other = eqb-true f.other 0 (both_right (eqb f.encryption 0) (eqb f.other 0) plain);
    }
