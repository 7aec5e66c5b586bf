-- The laws of rounding to sectors. Assumes nothing.
use mathlib.Core.Path.{◌≡◌, refl, ap, ◌∙◌, sym}
use mathlib.Core.Bool.{true}
use Prim.Native.Nat.{ℕ, suc, ◌+◌, ◌-◌, ◌*◌, ◌/◌, ◌%◌, ◌^◌, ◌<◌, ◌≤◌}
use native.Mathlib.Omega.{arith}
use native.Mathlib.Nat.{suc-mul, le_of_suc-le-suc, div-add-mod', div-mul-le_self, lt-div-mul-add, mul-mod_left, mul-le-mul_right, div-lt_iff_lt-mul, le-div_iff_mul-le, add-mod_right}
use Rattle.request.specs.Lent.{sector_sound}
use Rattle.request.proofs.Stages.{sector-is}
use Rattle.change_def.specs.Rounding.{round_down, round_up}

module _ (s : ℕ) (pos : 0 < s) where
  -- ---- sector starts

  -- a sector start is a number of sectors
  whole : (y : ℕ) → y % s ≡ 0 → y / s * s ≡ y
  whole y w = omega (arith, div-add-mod' y s)

  -- two different ones are a sector apart
  pub whole_next : (y z : ℕ) → y % s ≡ 0 → z % s ≡ 0 → y < z → y + s ≤ z
  whole_next y z v w l =
      let below : y / s < z / s = (div-lt_iff_lt-mul pos).1 (rw (whole z w) l) in
      omega (arith, whole y v, whole z w, rw suc-mul at (mul-le-mul_right s below))

  -- ---- down

  -- at or before x
  pub down_below : (x : ℕ) → round_down s x ≤ x
  down_below x = div-mul-le_self x s

  -- by less than a sector
  pub down_near : (x : ℕ) → x < round_down s x + s
  down_near x = lt-div-mul-add pos

  -- a sector start
  pub down_whole : (x : ℕ) → round_down s x % s ≡ 0
  down_whole x = mul-mod_left (x / s) s

  -- x, if that is one
  pub down_self : (x : ℕ) → x % s ≡ 0 → round_down s x ≡ x
  down_self = whole

  -- the last one
  pub down_last : (x y : ℕ) → y % s ≡ 0 → y ≤ x → y ≤ round_down s x
  down_last x y w l =
      let h : y / s ≤ x / s = (le-div_iff_mul-le pos).1 (rw (whole y w) l) in
      omega (arith, whole y w, mul-le-mul_right s h)

  -- never falls as x grows
  pub down_rises : (x y : ℕ) → x ≤ y → round_down s x ≤ round_down s y
  down_rises x y l = down_last y (round_down s x) (down_whole x) (omega (arith, down_below x))

  -- ---- up

  -- at or past x
  pub up_above : (x : ℕ) → x ≤ round_up s x
  up_above x = omega (arith, down_near (x + (s - 1)))

  -- by less than a sector
  pub up_near : (x : ℕ) → round_up s x < x + s
  up_near x = omega (arith, down_below (x + (s - 1)))

  -- a sector start
  pub up_whole : (x : ℕ) → round_up s x % s ≡ 0
  up_whole x = down_whole (x + (s - 1))

  -- the first one
  pub up_first : (x y : ℕ) → y % s ≡ 0 → x ≤ y → round_up s x ≤ y
  up_first x y w l =
      let h : (x + (s - 1)) / s < suc (y / s) = (div-lt_iff_lt-mul pos).1 (rw (suc-mul, whole y w) (omega arith)) in
      omega (arith, whole y w, mul-le-mul_right s (le_of_suc-le-suc h))

  -- x, if that is one
  pub up_self : (x : ℕ) → x % s ≡ 0 → round_up s x ≡ x
  up_self x w = omega (arith, up_above x, up_first x x w (omega arith))

  -- never falls as x grows
  pub up_rises : (x y : ℕ) → x ≤ y → round_up s x ≤ round_up s y
  up_rises x y l = up_first x (round_up s y) (up_whole y) (omega (arith, up_above y))

  -- ---- both

  -- down is at most up
  pub down_up : (x : ℕ) → round_down s x ≤ round_up s x
  down_up x = omega (arith, down_below x, up_above x)

  -- and a sector below it, where x is no sector start
  pub down_next : (x : ℕ) → (x % s ≡ 0 → ⊥) → round_down s x + s ≡ round_up s x
  down_next x n =
      let apart : round_down s x ≡ x → ⊥ = λ e. n (sym (ap (λ (y : ℕ). y % s) e) ∙ down_whole x) in
      let least : round_up s x ≤ round_down s x + s = up_first x (round_down s x + s) (add-mod_right (round_down s x) s ∙ down_whole x) (omega (arith, down_near x)) in
      let less : round_down s x < round_up s x = omega (arith, down_below x, up_above x, apart) in
      omega (arith, whole_next (round_down s x) (round_up s x) (down_whole x) (up_whole x) less)

  -- a size below 2^63 ends at most at 2^63
  pub up_limit : 2 ^ 63 % s ≡ 0 → (x : ℕ) → x < 2 ^ 63 → round_up s x ≤ 2 ^ 63
  up_limit w x l = up_first x (2 ^ 63) w (omega arith)

-- a sector is from 1 to 65,536 bytes
pub sector-range : (s : ℕ) → sector_sound s ≡ true → (0 < s) × (s ≤ 65536)
sector-range = sector-is (λ (s : ℕ). (0 < s) × (s ≤ 65536)) (omega arith, omega arith) (omega arith, omega arith) (omega arith, omega arith) (omega arith, omega arith) (omega arith, omega arith)

-- every sector that a request may have divides 2^63
pub sector-limit : (s : ℕ) → sector_sound s ≡ true → (0 < s) × (2 ^ 63 % s ≡ 0)
sector-limit = sector-is (λ (s : ℕ). (0 < s) × (2 ^ 63 % s ≡ 0)) (omega arith, refl) (omega arith, refl) (omega arith, refl) (omega arith, refl) (omega arith, refl)
