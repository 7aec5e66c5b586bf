-- Sums, differences and bounds of whole sectors. Assumes nothing.
use mathlib.Core.Path.{◌≡◌}
use Prim.Native.Nat.{ℕ, ◌+◌, ◌-◌, ◌%◌, min, max}
use native.Mathlib.Omega.{arith}
use native.Mathlib.Nat.{dvd-add, dvd-sub, mod-eq-zero_of_dvd, dvd_of_mod-eq-zero}
use native.Mathlib.Decide.{dec_le}

module _ (n : ℕ) where
  pub add_whole : (a b : ℕ) → a % n ≡ 0 → b % n ≡ 0 → (a + b) % n ≡ 0
  add_whole a b p q = mod-eq-zero_of_dvd n (dvd-add n (dvd_of_mod-eq-zero n p) (dvd_of_mod-eq-zero n q))

  pub sub_whole : (a b : ℕ) → a % n ≡ 0 → b % n ≡ 0 → (a - b) % n ≡ 0
  sub_whole a b p q = mod-eq-zero_of_dvd n (dvd-sub n (dvd_of_mod-eq-zero n p) (dvd_of_mod-eq-zero n q))

  pub min_whole : (a b : ℕ) → a % n ≡ 0 → b % n ≡ 0 → min a b % n ≡ 0
  min_whole a b p q =
      elim (dec_le a b) [
        | yes l ↦ let e : min a b ≡ a = omega arith in rw e p
        | no l ↦ let e : min a b ≡ b = omega arith in rw e q
      ]

  pub max_whole : (a b : ℕ) → a % n ≡ 0 → b % n ≡ 0 → max a b % n ≡ 0
  max_whole a b p q =
      elim (dec_le a b) [
        | yes l ↦ let e : max a b ≡ b = omega arith in rw e q
        | no l ↦ let e : max a b ≡ a = omega arith in rw e p
      ]
