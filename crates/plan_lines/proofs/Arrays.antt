-- A loop over the lines of a slice, `for [a, b] in lines.as_chunks::<2>().0`: what is left of the records that the lines are.
-- Assumes nothing.
use mathlib.Core.Path.{◌≡◌, refl, ap, ◌∙◌, sym}
use mathlib.Core.List.{List, [], ◌∷◌}
use Prim.Native.Nat.{ℕ, zero, suc, ◌+◌, ◌*◌, ◌/◌, ◌<◌, ◌≤◌}
use native.Mathlib.Omega.{arith}
use native.Mathlib.Nat.{zero-mul, add_comm, suc-mul}
use lib.ListN.{length, get_or, take, drop}
use lib.Seq.{drop-drop}
use Rattle.std.specs.Simd.{first_chunks}
use Rattle.records.specs.Records.{records}
use Rattle.records.proofs.Loops.{records_cons, records_nil}

-- array i is the numbers of line i
pub array-at : (w n : ℕ) (s : List ℕ) (i : ℕ) (e : List ℕ) → i < n → get_or (first_chunks w n s) i e ≡ take w (drop (i * w) s)
array-at w zero s i e h = absurd (omega arith)
array-at w (suc n) s zero e h = rw zero-mul refl
array-at w (suc n) s (suc i) e h =
    let m : w + i * w ≡ suc i * w = add_comm w (i * w) ∙ sym (suc-mul i w) in
    array-at w n (drop w s) i e (omega arith) ∙ rw (drop-drop (i * w) w s, m) refl

-- d reads a line of w numbers; xs are what `as_chunks` gives
module _ {A : Type 0} (d : List ℕ → A) (w : ℕ) (own : (s : List ℕ) → d (take w s) ≡ d s) (s : List ℕ) (xs : List (List ℕ)) (front : xs ≡ first_chunks w (length s / w) s) (len : length xs ≡ length s / w) (i : ℕ) where
  -- line i is the first of those from i on
  pub line_left : i < length xs → drop i (records d w s) ≡ d (get_or xs i []) ∷ drop (i + 1) (records d w s)
  line_left h =
      let l : i < length s / w = omega arith in
      let e : get_or xs i [] ≡ take w (drop (i * w) s) = rw front (array-at w (length s / w) s i [] l) in
      records_cons d w s i l ∙ ap (λ (x : A). x ∷ drop (i + 1) (records d w s)) (sym (ap d e ∙ own (drop (i * w) s)))

  pub no_line_left : length xs ≤ i → drop i (records d w s) ≡ []
  no_line_left h = records_nil d w s i (omega arith)
