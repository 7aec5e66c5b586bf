-- Laws of a text's lines. Assumes nothing.
use mathlib.Core.Path.{◌≡◌, refl, ap, ◌∙◌}
use mathlib.Core.Bool.{Bool, true, false, cond, not}
use mathlib.Core.List.{List, [], ◌∷◌}
use Prim.Native.Nat.{ℕ, zero, suc, min, ◌+◌, ◌-◌, ◌<◌}
use native.Mathlib.Omega.{arith}
use native.Mathlib.Numerals.{add-one}
use lib.Dec.{eqb}
use lib.ListN.{length, take, drop, length-drop}
use lib.Seq.{drop-drop}
use Rattle.std.specs.List.{prefix_len}
use Rattle.std.proofs.Common.{add_comm, take_all}
use Rattle.read_input.specs.Split.{onto, lines, line_length}

lines_cons : (b : ℕ) (s : List ℕ) → lines (b ∷ s) ≡ cond (eqb b 10) ([] ∷ lines s) (onto b (lines s))
unfolding lines
lines_cons b s = refl

long_cons : (b : ℕ) (s : List ℕ) → line_length (b ∷ s) ≡ cond (eqb b 10) 0 (line_length s + 1)
unfolding line_length
long_cons b s = refl

pub long_nil : line_length [] ≡ 0
unfolding line_length
long_nil = refl

-- one more byte before the first line
onto-first : (b n : ℕ) (s : List ℕ) → onto b (take n s ∷ lines (drop (n + 1) s)) ≡ take (n + 1) (b ∷ s) ∷ lines (drop (n + 1 + 1) (b ∷ s))
unfolding onto
onto-first b n s = simp add-one

lines-some : (b : ℕ) (s : List ℕ) → lines (b ∷ s) ≡ take (line_length (b ∷ s)) (b ∷ s) ∷ lines (drop (line_length (b ∷ s) + 1) (b ∷ s))
unfolding lines line_length onto
lines-some b [] = go (eqb b 10)
  where
    go : (t : Bool) → cond t ([] ∷ []) ((b ∷ []) ∷ []) ≡ take (cond t 0 1) (b ∷ []) ∷ lines (drop (cond t 0 1 + 1) (b ∷ []))
    go true = refl
    go false = refl
lines-some b (a ∷ s) = go (eqb b 10) (lines-some a s)
  where
    go : (t : Bool) → lines (a ∷ s) ≡ take (line_length (a ∷ s)) (a ∷ s) ∷ lines (drop (line_length (a ∷ s) + 1) (a ∷ s)) → cond t ([] ∷ lines (a ∷ s)) (onto b (lines (a ∷ s))) ≡ take (cond t 0 (line_length (a ∷ s) + 1)) (b ∷ a ∷ s) ∷ lines (drop (cond t 0 (line_length (a ∷ s) + 1) + 1) (b ∷ a ∷ s))
    go true e = refl
    go false e = ap (onto b) e ∙ onto-first b (line_length (a ∷ s)) (a ∷ s)

-- a text that is not empty: its first line, and those behind that line's LF
pub lines-first : (s : List ℕ) → 0 < length s → lines s ≡ take (line_length s) s ∷ lines (drop (line_length s + 1) s)
lines-first [] h = absurd (omega arith)
lines-first (b ∷ s) h = lines-some b s

-- nothing is left
pub lines_none : (s : List ℕ) → length s ≡ 0 → lines s ≡ []
unfolding lines
lines_none [] h = refl
lines_none (b ∷ s) h = absurd (omega arith)

-- a line ends before the first LF, or where the text does
pub line-prefix : (s : List ℕ) → prefix_len (λ (b : ℕ). not (eqb b 10)) s ≡ line_length s
unfolding line_length
line-prefix [] = refl
line-prefix (b ∷ s) = go (eqb b 10) (line-prefix s)
  where
    go : (t : Bool) → prefix_len (λ (b : ℕ). not (eqb b 10)) s ≡ line_length s → cond (not t) (1 + prefix_len (λ (b : ℕ). not (eqb b 10)) s) 0 ≡ cond t 0 (line_length s + 1)
    go true e = refl
    go false e = rw e (add_comm 1 (line_length s))

-- the text behind its LF, from the text behind the line
pub behind-line : (s behind : List ℕ) (n : ℕ) → n ≡ line_length s → behind ≡ drop n s → (k : ℕ) → k ≡ min (length behind) 1 → take (length behind - k) (drop k behind) ≡ drop (line_length s + 1) s
behind-line s behind n e f k g = rw (take_all (length behind - k) (drop k behind) (rw (length-drop k behind) (omega arith)), ← e, ← drop-drop 1 n s, ← f) (one behind k g)
  where
    one : (l : List ℕ) (j : ℕ) → j ≡ min (length l) 1 → drop j l ≡ drop 1 l
    one [] zero q = refl
    one [] (suc j) q = absurd (omega arith)
    one (b ∷ l) j q = let m : j ≡ 1 = omega arith in rw m refl
