-- The laws of digits read one by one. Assumes nothing.
use mathlib.Core.Path.{◌≡◌, refl, ap, sym, ◌∙◌}
use mathlib.Core.Bool.{Bool, true, false, cond, not, and-false}
use mathlib.Core.List.{List, [], ◌∷◌}
use mathlib.Core.Option.{none, some}
use Prim.Native.Nat.{ℕ, ◌+◌, ◌*◌, ◌-◌, ◌^◌, ◌<◌, ◌≤◌}
use native.Mathlib.Numerals.{add-one, one-add}
use native.Mathlib.Omega.{arith}
use lib.Dec.{eqb}
use lib.ListN.{length, take, drop, get_or, drop_of_length-le}
use lib.Seq.{drop-cons}
use borrow.Author.Tests.{lt-leb, le-leb}
use Rattle.std.specs.List.{prefix_len}
use Rattle.std.proofs.lemmas.List.Folds.{length-prefix_len}
use Rattle.std.proofs.lemmas.List.Sums.{prefix_len-le-length}
use Rattle.read_field.specs.Decimal.{is_digit, digits, pushed, value, plain}
use Rattle.read_field.specs.Parts.{number}

-- the digits at a text's start are its first bytes
pub digits-first : (s : List ℕ) → take (prefix_len is_digit s) s ≡ digits s
unfolding digits
digits-first [] = refl
digits-first (b ∷ s) = go (is_digit b) (digits-first s)
  where
    go : (t : Bool) → take (prefix_len is_digit s) s ≡ digits s → take (cond t (1 + prefix_len is_digit s) 0) (b ∷ s) ≡ cond t (b ∷ digits s) []
    go true e = rw one-add (ap (λ (l : List ℕ). b ∷ l) e)
    go false e = refl

-- more digits make no number smaller
pub value_grows : (v : ℕ) (ds : List ℕ) → v ≤ value v ds
unfolding value
value_grows v [] = omega arith
value_grows v (d ∷ ds) = let g = value_grows (pushed v d) ds in omega arith

pub plain_none : (ds : List ℕ) → length ds < 1 → false ≡ plain ds
unfolding plain
plain_none [] h = refl
plain_none (d ∷ ds) h = absurd (omega arith)

pub plain_one : (ds : List ℕ) → 1 ≤ length ds → length ds < 2 → true ≡ plain ds
unfolding plain
plain_one [] h k = absurd (omega arith)
plain_one (d ∷ []) h k = refl
plain_one (d ∷ (e ∷ ds)) h k = absurd (omega arith)

pub plain-many : (ds : List ℕ) → 2 ≤ length ds → not (eqb (get_or ds 0 0) 48) ≡ plain ds
unfolding plain
plain-many [] h = absurd (omega arith)
plain-many (d ∷ []) h = absurd (omega arith)
plain-many (d ∷ (e ∷ ds)) h = refl

-- digits are taken one by one: those before number i make v
module _ (ds : List ℕ) (i v : ℕ) (h : value v (drop i ds) ≡ value 0 ds) where
  next_value : i < length ds → value (pushed v (get_or ds i 0)) (drop (i + 1) ds) ≡ value 0 ds
  unfolding value
  next_value l = rw (drop-cons ds i 0 l, ← add-one i) at h

  pub value-turn : i < length ds → (w : ℕ) → w ≡ v * 10 + (get_or ds i 0 - 48) → value w (drop (i + 1) ds) ≡ value 0 ds
  value-turn l w e = rw e (next_value l)

  pub value-over : i < length ds → (a : ℕ) → (a < 2 ^ 64 → ⊥) → a ≤ v * 10 + (get_or ds i 0 - 48) → 2 ^ 64 ≤ value 0 ds
  value-over l a m k = let g = value_grows (pushed v (get_or ds i 0)) (drop (i + 1) ds) in omega (arith, next_value l)

  pub value-done : length ds ≤ i → v ≡ value 0 ds
  unfolding value
  value-done l = rw (drop_of_length-le ds l) at h

-- the digits at a text's start, and the number that they are
module _ (s : List ℕ) (n limit : ℕ) (ds : List ℕ) (e : n ≡ prefix_len is_digit s) (f : ds ≡ take n s) where
  first_digits : ds ≡ digits s
  first_digits = f ∙ rw e (digits-first s)

  pub number-mixed : plain ds ≡ false → none ≡ number limit s
  number-mixed h = rw (← first_digits, h) refl

  pub number-large : limit < value 0 ds → none ≡ number limit s
  number-large h = rw (← first_digits, lt-leb (value 0 ds) limit h, and-false) refl

  pub number-read : plain ds ≡ true → (v : ℕ) → v ≡ value 0 ds → v ≤ limit → (t : List ℕ) → t ≡ drop n s → some (record { numbers = v ∷ []; rest = t }) ≡ number limit s
  number-read h v g l t k =
      let m : n ≡ length (digits s) = rw (← first_digits, f, e) (sym (length-prefix_len is_digit s)) in
      rw (← first_digits, h, ← g, le-leb v limit l, first_digits, ← m, k) refl

-- what the readers of numbers are proved by
pub ruleset plain_laws = (plain_none, plain_one, plain-many)

pub ruleset value_laws = (value-turn, value-over, value-done)

pub ruleset number_laws = (prefix_len-le-length, number-mixed, number-large, number-read)
