-- A test that is true of the leading items of a list and false of those behind them: where the library's search by halves
-- parts the records, so many lead. Assumes nothing.
use mathlib.Core.Path.{◌≡◌, refl, ap, ◌∙◌, sym}
use mathlib.Core.Bool.{Bool, true, false, cond}
use mathlib.Core.List.{List, [], ◌∷◌}
use Prim.Native.Nat.{ℕ, zero, suc, ◌+◌, ◌/◌, ◌≤◌, ◌<◌}
use Rattle.std.proofs.Math.Nat.{eq-or-lt_of_le}
use Rattle.std.proofs.Common.{inl, inr}
use native.Mathlib.Omega.{arith}
use lib.ListN.{length, get_or, drop}
use borrow.Author.Tests.{leb-true, le-leb}
use Rattle.std.specs.Simd.{first_chunks}
use Rattle.std.specs.List.Sorted.{IsPartitionedBy, IsPartitionPoint}
use Rattle.records.specs.Records.{chunks, records}
use Rattle.item.specs.Items.{Fields, decode, items, end}
use Rattle.item.proofs.Laws.{items-length}
use Rattle.item.proofs.Widths.{decode-take}
use Rattle.cut_segment.specs.Segments.{nothing, leading, ends_by, starts_by, Leads, Runs}
use Rattle.cut_segment.proofs.Cutting.{leading_is}

-- ---- a list as arrays of 70 bytes

array-read : (n : ℕ) (s : List ℕ) (i : ℕ) (d : List ℕ) → i < n → decode (get_or (first_chunks 70 n s) i d) ≡ get_or (chunks decode 70 n s) i nothing
unfolding chunks
array-read zero s i d h = absurd (omega arith)
array-read (suc n) s zero d h = decode-take s
array-read (suc n) s (suc i) d h = array-read n (drop 70 s) i d (omega arith)

abbrev arrays : List ℕ → List (List ℕ)
arrays s = first_chunks 70 (length s / 70) s

module _ (p : Fields → Bool) (s : List ℕ) where
  array-item : (i : ℕ) (d : List ℕ) → i < length s / 70 → p (decode (get_or (arrays s) i d)) ≡ p (get_or (items s) i nothing)
  unfolding items records
  array-item i d h = ap p (array-read (length s / 70) s i d h)

  pub arrays-parted : Leads p (items s) → length (arrays s) ≡ length s / 70 → IsPartitionedBy (λ r. p (decode r)) (arrays s)
  arrays-parted a e i j d h l t =
      let passes : p (get_or (items s) j nothing) ≡ true = sym (array-item j d (omega arith)) ∙ t in
      array-item i d (omega arith) ∙ elim (eq-or-lt_of_le h) [ inl q ↦ rw q passes | inr q ↦ a i j q (omega (arith, items-length s)) passes ]

-- where those that pass end, as many lead
pub point-leading : (p : Fields → Bool) (s : List ℕ) (r : ℕ) → length (arrays s) ≡ length s / 70 → r ≤ length (arrays s)
    → IsPartitionPoint (λ y. p (decode y) ≡ true) (λ y. p (decode y) ≡ false) (arrays s) r → r ≡ leading p (items s)
point-leading p s r e h k =
    leading_is p (items s) r (omega (arith, items-length s))
    (λ j q. sym (array-item p s j [] (omega arith)) ∙ k.0 j [] (omega arith) q)
    (λ q. sym (array-item p s r [] (omega (arith, items-length s))) ∙ k.1 r [] (omega arith) (omega (arith, items-length s)))

-- ---- items that run one behind the other: each ends at most where one behind it starts

runs-least : (b : ℕ) (fs : List Fields) (j : ℕ) → Runs b fs → j < length fs → b ≤ (get_or fs j nothing).key
runs-least b [] j r h = absurd (omega arith)
runs-least b (f ∷ fs) zero r h = r.0
runs-least b (f ∷ fs) (suc j) r h = omega (arith, r.0, runs-least (end f) fs j r.4 (omega arith))

pub runs-order : (b : ℕ) (fs : List Fields) (i j : ℕ) → Runs b fs → i < j → j < length fs → end (get_or fs i nothing) ≤ (get_or fs j nothing).key
runs-order b [] i j r q h = absurd (omega arith)
runs-order b (f ∷ fs) i zero r q h = absurd (omega arith)
runs-order b (f ∷ fs) zero (suc j) r q h = runs-least (end f) fs j r.4 (omega arith)
runs-order b (f ∷ fs) (suc i) (suc j) r q h = runs-order (end f) fs i j r.4 (omega arith) (omega arith)

module _ (fs : List Fields) (r : Runs 0 fs) (k : ℕ) where
  pub ends_lead : Leads (ends_by k) fs
  ends_lead i j q h e =
      let x : Fields = get_or fs i nothing in
      let y : Fields = get_or fs j nothing in
      let o : end x ≤ y.key = runs-order 0 fs i j r q h in
      le-leb (end x) k (omega (arith, leb-true (end y) k e))

  pub starts_lead : Leads (starts_by k) fs
  starts_lead i j q h e =
      let x : Fields = get_or fs i nothing in
      let y : Fields = get_or fs j nothing in
      let o : end x ≤ y.key = runs-order 0 fs i j r q h in
      le-leb x.key k (omega (arith, leb-true y.key k e))

-- ---- one test after another

-- those that pass p pass q: behind the leading ones of p, q is counted on
module _ (p q : Fields → Bool) (m : (f : Fields) → p f ≡ true → q f ≡ true) where
  pub leading-on : (l : List Fields) → leading q l ≡ leading p l + leading q (drop (leading p l) l)
  unfolding leading
  leading-on [] = refl
  leading-on (f ∷ l) = go (p f) refl (leading-on l)
    where
      go : (b : Bool) → p f ≡ b → leading q l ≡ leading p l + leading q (drop (leading p l) l)
          → cond (q f) (suc (leading q l)) 0 ≡ cond b (suc (leading p l)) 0 + leading q (drop (cond b (suc (leading p l)) 0) (f ∷ l))
      go true e ih = rw (m f e) (omega arith)
      go false e ih = omega arith
