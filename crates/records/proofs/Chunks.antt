-- A part of a list of records, from one record to another. Assumes nothing.
use mathlib.Core.Path.{◌≡◌, refl, ap, ◌∙◌, sym}
use mathlib.Core.List.{List, [], ◌∷◌}
use Prim.Native.Nat.{ℕ, zero, suc, ◌+◌, ◌-◌, ◌*◌, ◌≤◌}
use native.Mathlib.Omega.{arith}
use native.Mathlib.Nat.{add_comm, zero-add, suc-add, suc-mul, zero-mul, sub-zero}
use lib.ListN.{take, drop}
use lib.Seq.{drop-drop, take-take, take-nil}
use Rattle.records.specs.Records.{chunks}

pub drop-take : (m n : ℕ) (s : List ℕ) → drop m (take (m + n) s) ≡ take n (drop m s)
drop-take zero n s = rw zero-add refl
drop-take (suc m) n [] = rw (take-nil, take-nil) refl
drop-take (suc m) n (x ∷ s) = rw suc-add (drop-take m n s)

-- d reads a record of w numbers
module _ {A : Type 0} (d : List ℕ → A) (w : ℕ) (own : (s : List ℕ) → d (take w s) ≡ d s) where
  -- records of a list that is cut off behind them
  pub chunks-cut : (k m : ℕ) (s : List ℕ) → k * w ≤ m → chunks d w k (take m s) ≡ chunks d w k s
  unfolding chunks
  chunks-cut zero m s h = refl
  chunks-cut (suc k) m s h =
      let e : m ≡ w + (m - w) = omega arith in
      let t : d (take m s) ≡ d s = sym (own (take m s)) ∙ ap d (take-take w m s (omega arith)) ∙ own s in
      let r : drop w (take m s) ≡ take (m - w) (drop w s) = ap (λ (n : ℕ). drop w (take n s)) e ∙ drop-take w (m - w) s in
      rw (t, r) (ap (λ (l : List A). d s ∷ l) (chunks-cut k (m - w) (drop w s) (omega arith)))

-- the first of them, and those behind the first
module _ {A : Type 0} (d : List ℕ → A) (w : ℕ) where
  pub chunks-take : (k n : ℕ) (s : List ℕ) → k ≤ n → take k (chunks d w n s) ≡ chunks d w k s
  unfolding chunks
  chunks-take zero n s h = refl
  chunks-take (suc k) zero s h = elim h [ ]
  chunks-take (suc k) (suc n) s h = ap (λ (l : List A). d s ∷ l) (chunks-take k n (drop w s) (omega arith))

  pub chunks-drop : (k n : ℕ) (s : List ℕ) → k ≤ n → drop k (chunks d w n s) ≡ chunks d w (n - k) (drop (k * w) s)
  unfolding chunks
  chunks-drop zero n s h = rw (sub-zero, zero-mul) refl
  chunks-drop (suc k) zero s h = elim h [ ]
  chunks-drop (suc k) (suc n) s h =
      let e : suc n - suc k ≡ n - k = omega arith in
      let m : suc k * w ≡ k * w + w = suc-mul k w in
      chunks-drop k n (drop w s) (omega arith) ∙ rw (e, m, drop-drop (k * w) w s, add_comm w (k * w)) refl
