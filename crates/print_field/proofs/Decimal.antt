-- The laws of decimal numbers. Assumes nothing.
use mathlib.Core.Path.{◌≡◌, refl, ap, ◌∙◌}
use mathlib.Core.List.{List, [], ◌∷◌, ◌++◌}
use Prim.Native.Nat.{ℕ, zero, suc, ◌-◌, ◌/◌, ◌%◌, ◌<◌, ◌≤◌, ◌^◌}
use native.Mathlib.Omega.{arith}
use lib.ListN.{length}
use Rattle.std.specs.Fmt.{decimal as written}
use Rattle.std.proofs.lemmas.Fmt.{AppendsLastDigit, decimal_from_appends, length-decimal-le}
use Rattle.print_field.specs.Text.{digit, digits, decimal}

-- more than enough is no more
digits-enough : (f g q d : ℕ) → q ≤ f → q ≤ g → digits f q d ≡ digits g q d
unfolding digits
digits-enough zero zero q d h k = refl
digits-enough zero (suc g) zero d h k = refl
digits-enough zero (suc g) (suc q) d h k = absurd (omega arith)
digits-enough (suc f) zero zero d h k = refl
digits-enough (suc f) zero (suc q) d h k = absurd (omega arith)
digits-enough (suc f) (suc g) zero d h k = refl
digits-enough (suc f) (suc g) (suc q) d h k = ap (λ (l : List ℕ). l ++ digit d ∷ []) (digits-enough f g (suc q / 10) (suc q % 10) (omega arith) (omega arith))

digits-none : (f d : ℕ) → digits f 0 d ≡ digit d ∷ []
unfolding digits
digits-none zero d = refl
digits-none (suc f) d = refl

digits_more : (f q d : ℕ) → 0 < f → 0 < q → digits f q d ≡ digits (f - 1) (q / 10) (q % 10) ++ digit d ∷ []
unfolding digits
digits_more zero q d h k = absurd (omega arith)
digits_more (suc f) zero d h k = absurd (omega arith)
digits_more (suc f) (suc q) d h k = let e : suc f - 1 ≡ f = omega arith in rw e refl

-- one digit; and of more, the last
pub decimal-low : (n : ℕ) → n < 10 → decimal n ≡ digit n ∷ []
unfolding decimal
decimal-low n h =
    let q : n / 10 ≡ 0 = omega arith in
    let d : n % 10 ≡ n = omega arith in
    rw (q, d) (digits-none n n)

pub decimal-more : (n : ℕ) → 10 ≤ n → decimal n ≡ decimal (n / 10) ++ digit (n % 10) ∷ []
unfolding decimal
decimal-more n h =
    digits_more n (n / 10) (n % 10) (omega arith) (omega arith)
    ∙ ap (λ (l : List ℕ). l ++ digit (n % 10) ∷ []) (digits-enough (n - 1) (n / 10) (n / 10 / 10) (n / 10 % 10) (omega arith) (omega arith))

-- so a number is written as the library writes it
appends : AppendsLastDigit (λ k. decimal)
appends = record { one = λ k. decimal-low; more = λ k. decimal-more }

pub as_written : (n : ℕ) → n < 2 ^ 64 → decimal n ≡ written n
as_written n h = decimal_from_appends (λ k. decimal) appends 20 n h (length-decimal-le 20 n (omega arith) (omega arith) h)

-- ---- how many: "u64 where no width is given" is at most 20 digits

pub length_64 : (n : ℕ) → n < 2 ^ 64 → length (decimal n) ≤ 20
length_64 n h = rw (as_written n h) (length-decimal-le 20 n (omega arith) (omega arith) h)

pub length_8 : (n : ℕ) → n < 256 → length (decimal n) ≤ 3
length_8 n h = rw (as_written n (omega arith)) (length-decimal-le 3 n (omega arith) (omega arith) (omega arith))

pub length_16 : (n : ℕ) → n < 65536 → length (decimal n) ≤ 5
length_16 n h = rw (as_written n (omega arith)) (length-decimal-le 5 n (omega arith) (omega arith) (omega arith))
