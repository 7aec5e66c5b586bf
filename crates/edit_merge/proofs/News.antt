-- New items put in among others, the lowest key first, and the items of a list from one on. Assumes nothing.
use mathlib.Core.Path.{◌≡◌, refl, ap, ap₂, ◌∙◌, sym}
use denote.Bor.{Bor, now}
use mathlib.Core.Bool.{true, false}
use mathlib.Core.List.{List, [], ◌∷◌, map}
use Prim.Native.Nat.{ℕ, ◌+◌, ◌*◌, ◌/◌, ◌<◌, ◌≤◌}
use native.Mathlib.Omega.{arith}
use native.Mathlib.Decide.{dec_lt}
use native.Mathlib.Numerals.{add-one}
use lib.Dec.{leb}
use lib.ListN.{length, drop, drop_of_length-le}
use lib.Seq.{drop-cons}
use borrow.Author.Tests.{ltb-true, ltb-false, le-leb}
use Rattle.records.specs.Stages.{every, pairs}
use Rattle.records.proofs.Tests.{both, both_left, both_right, every_map}
use Rattle.item.specs.declared.reader.Reader.{Reader}
use Rattle.item.specs.Reading.{left}
use Rattle.item.specs.Items.{Fields, decode, items}
use Rattle.item.proofs.Laws.{items-length, items_at}
use Rattle.lists.specs.Lists.{rises}
use Rattle.cut_def.specs.Pieces.{built, insert, insert_all}
use Rattle.cut_def.proofs.Inserts.{insert_all-behind}
use Rattle.edit_merge.specs.Merge.{from, together, comes_first}

-- ---- a list's items from one on

pub from_cons : (s : List ℕ) (i : ℕ) → i < length s / 70 → from s i ≡ decode (drop (i * 70) s) ∷ from s (i + 1)
from_cons s i h =
    let l : i < length (items s) = omega (arith, items-length s) in
    rw (add-one, drop-cons (items s) i (decode s) l, items_at s i (decode s) h) refl

pub from_nil : (s : List ℕ) (i : ℕ) → length s / 70 ≤ i → from s i ≡ []
from_nil s i h = drop_of_length-le (items s) {i = i} (omega (arith, items-length s))

-- what a reader at record k reads
pub read_from : (r : Reader) (s : Bor (List ℕ)) (k : ℕ) → (r.list ≡ s) × (r.number ≡ k) → left r ≡ from s.now k
read_from r s k e = ap₂ (λ i b. drop i (items b)) e.1 (ap now e.0)

pub first_read : (s : List ℕ) (k : ℕ) (f : Fields) (fs : List Fields) → from s k ≡ f ∷ fs → (k < length s / 70) × (f ≡ decode (drop (k * 70) s)) × (fs ≡ from s (k + 1))
first_read s k f fs e =
    elim (dec_lt k (length s / 70)) [
      | yes l ↦ let x : f ∷ fs ≡ decode (drop (k * 70) s) ∷ from s (k + 1) = sym e ∙ from_cons s k l in (l, cc, cc)
      | no m ↦ let x : [] ≡ f ∷ fs = sym (from_nil s k (omega arith)) ∙ e in absurd cc
    ]

pub none-read : (s : List ℕ) (k : ℕ) → from s k ≡ [] → length s / 70 ≤ k
none-read s k e =
    elim (dec_lt k (length s / 70)) [
      | yes l ↦ let x : [] ≡ decode (drop (k * 70) s) ∷ from s (k + 1) = sym e ∙ from_cons s k l in absurd cc
      | no m ↦ omega arith
    ]

-- ---- the first of the new items

-- items at a key or past it
at_least : (n : ℕ) (ys : List Fields) (y : Fields) → n ≤ y.key → pairs rises (y ∷ ys) ≡ true → every (λ (z : Fields). leb n z.key) (y ∷ ys) ≡ true
unfolding pairs every
at_least n ys y h r =
    both (leb n y.key) (every (λ (z : Fields). leb n z.key) ys) (le-leb n y.key h)
    (every_map (rises y) (λ (z : Fields). leb n z.key) (λ z e. let l = ltb-true y.key z.key e in le-leb n z.key (omega arith)) ys (both_left (every (rises y) ys) (pairs rises ys) r))

-- one that is put in, where its key is lower
pub first-new : (y : Fields) (ys gs : List Fields) → comes_first (y ∷ ys) gs ≡ true → pairs rises (y ∷ ys) ≡ true → together (y ∷ ys) gs ≡ built y ∷ together ys gs
unfolding insert_all pairs every
first-new y ys gs h r = ap (insert_all ys) (insert_here gs h) ∙ insert_all-behind (built y) ys (map built gs) (both_right (leb y.key y.key) (every (λ (z : Fields). leb y.key z.key) ys) (at_least y.key ys y (omega arith) r))
  where
    insert_here : (gs : List Fields) → comes_first (y ∷ ys) gs ≡ true → insert y (map built gs) ≡ built y ∷ map built gs
    insert_here [] h = unfold insert in refl
    insert_here (g ∷ gs) h = unfold insert in rw h refl

-- and one of the others
pub first-other : (ys : List Fields) (g : Fields) (gs : List Fields) → comes_first ys (g ∷ gs) ≡ false → pairs rises ys ≡ true → together ys (g ∷ gs) ≡ built g ∷ together ys gs
first-other [] g gs h r = unfold insert_all in refl
first-other (y ∷ ys) g gs h r = insert_all-behind (built g) (y ∷ ys) (map built gs) (at_least g.key ys y (ltb-false y.key g.key h) r)
