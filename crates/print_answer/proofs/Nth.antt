-- The nth line of several parts. Assumes nothing.
use mathlib.Core.Path.{◌≡◌, refl, ap, ◌∙◌}
use mathlib.Core.List.{List, [], ◌∷◌, ◌++◌, map}
use Prim.Native.Nat.{ℕ, zero, suc, ◌+◌, ◌-◌, ◌*◌, ◌≤◌, ◌<◌}
use native.Mathlib.Omega.{arith}
use native.Mathlib.Nat.{zero-mul, suc-mul}
use lib.ListN.{length, drop, get_or-append, get_or-eq_default}
use lib.Seq.{get_or-append-add, drop-drop}
use Rattle.records.specs.Records.{chunks}
use Rattle.print_answer.specs.Printed.{line_at}

-- the first of all, and those behind it
pub line_zero : (x : List ℕ) (l : List (List ℕ)) (n : ℕ) → n ≡ 0 → line_at n (x ∷ l) ≡ x
line_zero x l n h = rw h refl

pub line_past : (x : List ℕ) (l : List (List ℕ)) (n : ℕ) → (n ≡ 0 → ⊥) → line_at n (x ∷ l) ≡ line_at (n - 1) l
line_past x l zero h = absurd (h refl)
line_past x l (suc n) h = let e : suc n - 1 ≡ n = omega arith in rw e refl

-- ---- k lines that f prints, of w numbers each

length-lines : {A : Type 0} (f : A → List ℕ) (d : List ℕ → A) (w k : ℕ) (s : List ℕ) → length (map f (chunks d w k s)) ≡ k
unfolding chunks
length-lines f d w zero s = refl
length-lines f d w (suc k) s = ap suc (length-lines f d w k (drop w s))

pub line_last : {A : Type 0} (f : A → List ℕ) (d : List ℕ → A) (w k : ℕ) (s : List ℕ) (i : ℕ) → i < k → line_at i (map f (chunks d w k s)) ≡ f (d (drop (i * w) s))
unfolding chunks
line_last f d w zero s i h = absurd (omega arith)
line_last f d w (suc k) s zero h = rw zero-mul refl
line_last f d w (suc k) s (suc i) h =
    let m : suc i * w ≡ w + i * w = omega (arith, suc-mul i w) in
    line_last f d w k (drop w s) i (omega arith) ∙ rw (drop-drop (i * w) w s, m) refl

module _ {A : Type 0} (f : A → List ℕ) (d : List ℕ → A) (w k : ℕ) (s : List ℕ) (i : ℕ) where
  pub line_none : k ≤ i → line_at i (map f (chunks d w k s)) ≡ []
  line_none h = get_or-eq_default (map f (chunks d w k s)) [] (rw (length-lines f d w k s) h)

  -- with others behind them
  module _ (rest : List (List ℕ)) where
    pub line_here : i < k → line_at i (map f (chunks d w k s) ++ rest) ≡ f (d (drop (i * w) s))
    line_here h =
        let l : i < length (map f (chunks d w k s)) = rw (length-lines f d w k s) h in
        get_or-append (map f (chunks d w k s)) rest [] i l ∙ line_last f d w k s i h

    pub line_later : k ≤ i → line_at i (map f (chunks d w k s) ++ rest) ≡ line_at (i - k) rest
    line_later h =
        let e : length (map f (chunks d w k s)) + (i - k) ≡ i = rw (length-lines f d w k s) (omega arith) in
        rw e at (get_or-append-add (map f (chunks d w k s)) rest (i - k) [])

-- what finding a line is proved by
pub ruleset nth = (line_zero, line_past, line_last, line_none, line_here, line_later)
