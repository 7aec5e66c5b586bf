-- The nth stretch of a sweep from the two items around it. Assumes nothing.
use mathlib.Core.Path.{◌≡◌, refl, ap, ◌∙◌, sym}
use mathlib.Core.List.{List, [], ◌∷◌, flat_map}
use Prim.Native.Nat.{ℕ, zero, suc, ◌+◌, ◌-◌, ◌*◌, ◌/◌, ◌%◌, ◌≤◌, ◌<◌, ◌^◌, min, max}
use native.Mathlib.Omega.{arith}
use lib.Dec.{leb}
use lib.ListN.{get_or, length}
use borrow.Author.Tests.{leb-true}
use Rattle.records.proofs.Tests.{every-at}
use Rattle.item.specs.Items.{Fields, items, end}
use Rattle.item.proofs.Laws.{items-length}
use Rattle.cut_segment.specs.Segments.{nothing, item_at}
use Rattle.change_def.specs.Preallocs.{Stretch}
use Rattle.change_def.specs.Sweep.{up_to, gaps_from, sweep}
use Rattle.change_holes.specs.Gaps.{Ends, gap_start, gap_stop}

-- ---- a gap's ends from the items

start-behind : (from : ℕ) (fs : List Fields) (n : ℕ) (e : Fields) → n < length fs → gap_start from fs (suc n) ≡ max from (end (get_or fs n e))
unfolding gap_start
start-behind from [] n e h = absurd (omega arith)
start-behind from (f ∷ fs) zero e h = refl
start-behind from (f ∷ fs) (suc n) e h = start-behind from fs n e (omega arith)

stop_before : (to : ℕ) (fs : List Fields) (n : ℕ) (e : Fields) → n < length fs → gap_stop to fs n ≡ min (get_or fs n e).key to
unfolding gap_stop
stop_before to [] n e h = absurd (omega arith)
stop_before to (f ∷ fs) zero e h = refl
stop_before to (f ∷ fs) (suc n) e h = stop_before to fs n e (omega arith)

stop_last : (to : ℕ) (fs : List Fields) → gap_stop to fs (length fs) ≡ to
unfolding gap_stop
stop_last to [] = refl
stop_last to (f ∷ fs) = stop_last to fs

-- ---- the same from the records in code

-- record n: where it ends, in 64 bits; the gap behind it starts there, and the gap before it stops at its key
module _ (list : List ℕ) (n : ℕ) (x : Fields) (h : n < length (items list)) (e : x ≡ item_at list n) where
  pub record_end : Ends (items list) → end x ≤ 2 ^ 63
  record_end k = rw e (leb-true (end (item_at list n)) (2 ^ 63) (every-at (λ (f : Fields). leb (end f) (2 ^ 63)) (items list) k n nothing h))

  pub starts-behind : (from k : ℕ) → n + 1 ≡ k → max from (end x) ≡ gap_start from (items list) k
  starts-behind from k m =
      let s : k ≡ suc n = omega arith in
      rw (s, e) (sym (start-behind from (items list) n nothing h))

  pub stops_before : (to : ℕ) → min x.key to ≡ gap_stop to (items list) n
  stops_before to = rw e (sym (stop_before to (items list) n nothing h))

-- the first gap starts at the start
pub starts_first : (from : ℕ) (fs : List Fields) (n : ℕ) → n ≡ 0 → from ≡ gap_start from fs n
unfolding gap_start
starts_first from fs n h = rw h refl

-- the last one stops at the end
pub stops_last : (to : ℕ) (list : List ℕ) (n : ℕ) → n ≡ length list / 70 → to ≡ gap_stop to (items list) n
stops_last to list n h =
    let e : n ≡ length (items list) = h ∙ sym (items-length list) in
    rw e (sym (stop_last to (items list)))

-- ---- the nth gap

module _ (from to : ℕ) where
  -- where a gap starts if the first starts at a
  abbrev start_from : ℕ → List Fields → ℕ → ℕ
  start_from a fs zero = a
  start_from a fs (suc n) = gap_start from fs (suc n)

  gaps-from : (a : ℕ) (fs : List Fields) (n : ℕ) (e : Stretch) → n ≤ length fs → get_or (gaps_from from to a fs) n e ≡ up_to (start_from a fs n) (gap_stop to fs n)
  unfolding gaps_from gap_start gap_stop
  gaps-from a [] zero e h = refl
  gaps-from a [] (suc n) e h = absurd (omega arith)
  gaps-from a (f ∷ fs) zero e h = refl
  gaps-from a (f ∷ fs) (suc zero) e h = gaps-from (max from (end f)) fs zero e (omega arith)
  gaps-from a (f ∷ fs) (suc (suc n)) e h = gaps-from (max from (end f)) fs (suc n) e (omega arith)

  start-from : (fs : List Fields) (n : ℕ) → start_from from fs n ≡ gap_start from fs n
  unfolding gap_start
  start-from fs zero = refl
  start-from fs (suc n) = refl

  gaps-length : (a : ℕ) (fs : List Fields) → length (gaps_from from to a fs) ≡ length fs + 1
  unfolding gaps_from
  gaps-length a [] = refl
  gaps-length a (f ∷ fs) = omega (arith, gaps-length (max from (end f)) fs)

  gaps-at : (fs : List Fields) (n : ℕ) (e : Stretch) → n ≤ length fs → get_or (gaps_from from to from fs) n e ≡ up_to (gap_start from fs n) (gap_stop to fs n)
  gaps-at fs n e h = gaps-from from fs n e h ∙ ap (λ (a : ℕ). up_to a (gap_stop to fs n)) (start-from fs n)

-- ---- two of each

module _ {A B : Type 0} (p q : A → B) where
  abbrev two : A → List B
  two a = p a ∷ q a ∷ []

  twos-length : (l : List A) → length (flat_map two l) ≡ 2 * length l
  unfolding flat_map
  twos-length [] = refl
  twos-length (a ∷ l) = omega (arith, twos-length l)

  even_at : (l : List A) (k : ℕ) (e : B) (d : A) → k < length l → get_or (flat_map two l) (2 * k) e ≡ p (get_or l k d)
  unfolding flat_map
  even_at [] k e d h = absurd (omega arith)
  even_at (a ∷ l) zero e d h = refl
  even_at (a ∷ l) (suc k) e d h =
      let m : 2 * suc k ≡ suc (suc (2 * k)) = omega arith in
      rw m (even_at l k e d (omega arith))

  odd_at : (l : List A) (k : ℕ) (e : B) (d : A) → k < length l → get_or (flat_map two l) (2 * k + 1) e ≡ q (get_or l k d)
  unfolding flat_map
  odd_at [] k e d h = absurd (omega arith)
  odd_at (a ∷ l) zero e d h = refl
  odd_at (a ∷ l) (suc k) e d h =
      let m : 2 * suc k + 1 ≡ suc (suc (2 * k + 1)) = omega arith in
      rw m (odd_at l k e d (omega arith))

-- ---- the sweep

module _ (lo hi from to : ℕ) (fs : List Fields) where
  abbrev before : Stretch → Stretch
  before s = up_to s.start (min (s.start + s.length) lo)

  abbrev behind : Stretch → Stretch
  behind s = up_to (max s.start hi) (s.start + s.length)

  sweep-length : length (sweep lo hi from to fs) ≡ 2 * (length fs + 1)
  sweep-length = twos-length before behind (gaps_from from to from fs) ∙ ap (λ (n : ℕ). 2 * n) (gaps-length from to from fs)

  -- stretch n of the sweep, where a and b are the ends of gap n / 2
  module _ (n a b : ℕ) (e : Stretch) (h : n < 2 * (length fs + 1)) (p : a ≡ gap_start from fs (n / 2)) (q : b ≡ gap_stop to fs (n / 2)) where
    gap_is : get_or (gaps_from from to from fs) (n / 2) e ≡ up_to a b
    gap_is = gaps-at from to fs (n / 2) e (omega arith) ∙ rw (p, q) refl

    pub swept_even : (m : ℕ) → n % 2 ≡ 0 → m ≡ min b lo → up_to a m ≡ get_or (sweep lo hi from to fs) n e
    swept_even m z r =
        let k : n ≡ 2 * (n / 2) = omega arith in
        let l : m - a ≡ min (a + (b - a)) lo - a = omega arith in
        sym (ap (λ (i : ℕ). get_or (sweep lo hi from to fs) i e) k ∙ even_at before behind (gaps_from from to from fs) (n / 2) e e (omega (arith, gaps-length from to from fs)) ∙ rw (gap_is, l) refl)

    pub swept_odd : (m : ℕ) → (n % 2 ≡ 0 → ⊥) → m ≡ max a hi → up_to m b ≡ get_or (sweep lo hi from to fs) n e
    swept_odd m z r =
        let k : n ≡ 2 * (n / 2) + 1 = omega arith in
        let l : b - max a hi ≡ a + (b - a) - max a hi = omega arith in
        sym (ap (λ (i : ℕ). get_or (sweep lo hi from to fs) i e) k ∙ odd_at before behind (gaps_from from to from fs) (n / 2) e e (omega (arith, gaps-length from to from fs)) ∙ rw (gap_is, r, l) refl)

-- as many stretches as the code counts
pub sweep-count : (lo hi from to : ℕ) (list : List ℕ) → length (sweep lo hi from to (items list)) ≡ (length list / 70 + 1) * 2
sweep-count lo hi from to list = omega (arith, sweep-length lo hi from to (items list), items-length list)
