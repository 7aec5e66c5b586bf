-- Loops that append several lines for each record, and other forms of what was appended. Assumes nothing.
use mathlib.Core.Path.{◌≡◌, refl, ap, ◌∙◌, sym}
use mathlib.Core.Bool.{Bool, true, false}
use mathlib.Core.List.{List, [], ◌∷◌, ◌++◌, flat_map}
use Prim.Native.Nat.{ℕ, ◌+◌, ◌*◌, ◌<◌, ◌≤◌}
use native.Mathlib.Omega.{arith}
use lib.ListN.{length, drop, length-append}
use Rattle.records.specs.Select.{only}
use Rattle.records.proofs.Loops.{rest, rest_cons, rest_nil}
use Rattle.plan_lines.specs.Lines.{lay, Laid}
use Rattle.plan_lines.proofs.Laws.{Going, going_first, going-turn, going_done, laid_none, length-lay}

-- f gives the numbers of a line, v of them; g the lines of a record, which d reads from w numbers
module _ {A B : Type 0} (f : B → List ℕ) (v : ℕ) (g : A → List B) (d : List ℕ → A) (w : ℕ) where
  pub flat_first : (s : List ℕ) (k n : ℕ) (out : List ℕ) (rs : List A) → rest d w s k 0 ≡ rs → Going f v n (flat_map g rs) out n (flat_map g (rest d w s k 0)) out
  flat_first s k n out rs e = rw e (going_first f v n (flat_map g rs) out)

  -- one turn: r is record i of k, and the lines before it are laid
  module _
      (s : List ℕ) (k i : ℕ) (r : A) (n₀ : ℕ) (all : List B) (out₀ : List ℕ) (n : ℕ) (out : List ℕ)
      (h : i < k) (e : r ≡ d (drop (i * w) s)) (going : Going f v n₀ all out₀ n (flat_map g (rest d w s k i)) out) where
    flat_cons : flat_map g (rest d w s k i) ≡ g r ++ flat_map g (rest d w s k (i + 1))
    unfolding flat_map
    flat_cons = rw (rest_cons d w s k i h, ← e) refl

    -- its lines are among all
    pub flat_room : n + length (g r) ≤ n₀ + length all
    flat_room =
        let x : length (flat_map g (rest d w s k i)) ≡ length (g r) + length (flat_map g (rest d w s k (i + 1))) = ap length flat_cons ∙ length-append (g r) (flat_map g (rest d w s k (i + 1))) in
        omega (arith, going.lines)

    pub flat_turn : (m : ℕ) (out' : List ℕ) → Laid f v n (g r) out m out' → Going f v n₀ all out₀ m (flat_map g (rest d w s k (i + 1))) out'
    flat_turn m out' l = going-turn f v n₀ all out₀ n (g r) (flat_map g (rest d w s k (i + 1))) out m out' (rw flat_cons at going) l

  pub flat_done : (s : List ℕ) (k i n₀ : ℕ) (all : List B) (out₀ : List ℕ) (n : ℕ) (out : List ℕ) → k ≤ i → Going f v n₀ all out₀ n (flat_map g (rest d w s k i)) out → Laid f v n₀ all out₀ n out
  unfolding flat_map
  flat_done s k i n₀ all out₀ n out h going = going_done f v n₀ all out₀ n out (rw (rest_nil d w s k i h) at going)

-- a loop over what a reader has left: r is the next record, and the lines before it are laid
module _ {A B : Type 0} (f : B → List ℕ) (v : ℕ) (g : A → List B) (n₀ : ℕ) (all : List B) (out₀ : List ℕ) (n : ℕ) (out : List ℕ) (l : List A) (going : Going f v n₀ all out₀ n (flat_map g l) out) where
  module _ (r : A) (l' : List A) (e : l ≡ r ∷ l') where
    next_lines : flat_map g l ≡ g r ++ flat_map g l'
    unfolding flat_map
    next_lines = ap (flat_map g) e

    -- its lines are among all
    pub next_room : n + length (g r) ≤ n₀ + length all
    next_room = omega (arith, going.lines, ap length next_lines, length-append (g r) (flat_map g l'))

    pub next_turn : (m : ℕ) (out' : List ℕ) → Laid f v n (g r) out m out' → Going f v n₀ all out₀ m (flat_map g l') out'
    next_turn m out' h = going-turn f v n₀ all out₀ n (g r) (flat_map g l') out m out' (rw next_lines at going) h

  pub none_left : l ≡ [] → Laid f v n₀ all out₀ n out
  unfolding flat_map
  none_left e = going_done f v n₀ all out₀ n out (rw e at going)

module _ {B : Type 0} (f : B → List ℕ) (w : ℕ) where
  -- the same lines
  pub laid_same : (n : ℕ) (k l : List B) (out : List ℕ) (m : ℕ) (out' : List ℕ) → k ≡ l → Laid f w n l out m out' → Laid f w n k out m out'
  laid_same n k l out m out' e h = rw e h

  -- the output keeps its length
  module _ (pos : 0 < w) (wide : (b : B) → length (f b) ≡ w) where
    pub going_length : (n₀ : ℕ) (all : List B) (out₀ : List ℕ) (n : ℕ) (left : List B) (out : List ℕ) → Going f w n₀ all out₀ n left out → length out ≡ length out₀
    going_length n₀ all out₀ n left out g = sym (length-lay f w pos wide n left out) ∙ ap length g.output ∙ length-lay f w pos wide n₀ all out₀

    pub laid-length : (n : ℕ) (l : List B) (out : List ℕ) (m : ℕ) (out' : List ℕ) → Laid f w n l out m out' → length out' ≡ length out
    laid-length n l out m out' h = ap length h.output ∙ length-lay f w pos wide n l out

-- a line or none, where b is the test in code and p the one that is meant
module _ {A : Type 0} (f : A → List ℕ) (w n : ℕ) (b p : Bool) (a : A) (out : List ℕ) (e : b ≡ p) where
  pub laid-yes : (x : A) (m : ℕ) (out' : List ℕ) → b ≡ true → x ≡ a → Laid f w n (x ∷ []) out m out' → Laid f w n (only p a) out m out'
  laid-yes x m out' h q l = rw (sym e ∙ h, ← q) l

  pub laid-no : b ≡ false → Laid f w n (only p a) out n out
  laid-no h = rw (sym e ∙ h) (laid_none f w n out)

-- one line by its numbers
pub laid_by : {A : Type 0} (f : A → List ℕ) (w n : ℕ) (a : A) (bs out : List ℕ) (m : ℕ) (out' : List ℕ) → bs ≡ f a → Laid (λ (x : List ℕ). x) w n (bs ∷ []) out m out' → Laid f w n (a ∷ []) out m out'
unfolding lay
laid_by f w n a bs out m out' e h = record { lines = h.lines; output = h.output ∙ rw e refl }
