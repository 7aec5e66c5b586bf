-- The pieces of a hole lie one behind the other over all of it. Assumes nothing.
use mathlib.Core.Bool.{true}
use mathlib.Core.Path.{◌≡◌, refl, ap, ◌∙◌}
use Prim.Native.Nat.{ℕ, zero, suc, ◌+◌, ◌-◌, ◌*◌, ◌/◌, ◌%◌, ◌<◌, ◌≤◌, ◌∣◌}
use native.Mathlib.Omega.{arith}
use native.Mathlib.Nat.{add-zero, zero-add, suc-mul, add-mul, one-mul, mul-le-mul_right, div-mul-le_self, lt-div-mul-add, div-lt_iff_lt-mul, le-div_iff_mul-le, dvd-add, dvd-sub, dvd-mul_left_of_dvd, dvd_of_mod-eq-zero, mod-eq-zero_of_dvd}
use lib.ListN.{length, get_or}
use Rattle.request.specs.Lent.{sector_sound}
use Rattle.request.proofs.Stages.{sector-is}
use Rattle.change_def.specs.Preallocs.{Stretch, piece_limit, piece_count, nth_piece, pieces_from, prealloc_pieces}
use Rattle.change_def.proofs.Rounding.{up_above}

-- the limit is whole sectors
pub limit_whole : (s : ℕ) → sector_sound s ≡ true → piece_limit % s ≡ 0
limit_whole = sector-is (λ (s : ℕ). piece_limit % s ≡ 0) refl refl refl refl refl

-- ---- the list

from-length : (limit : ℕ) (hole : Stretch) (n k : ℕ) → length (pieces_from limit hole n k) ≡ k
unfolding pieces_from
from-length limit hole n zero = refl
from-length limit hole n (suc k) = ap suc (from-length limit hole (n + 1) k)

from_at : (limit : ℕ) (hole : Stretch) (n k i : ℕ) (e : Stretch) → i < k → get_or (pieces_from limit hole n k) i e ≡ nth_piece limit hole (n + i)
unfolding pieces_from
from_at limit hole n zero i e l = absurd (omega arith)
from_at limit hole n (suc k) zero e l = rw add-zero refl
from_at limit hole n (suc k) (suc i) e l =
    let d : n + suc i ≡ n + 1 + i = omega arith in
    rw d (from_at limit hole (n + 1) k i e (omega arith))

-- as many pieces as are counted
pub pieces-length : (limit : ℕ) (hole : Stretch) → length (prealloc_pieces limit hole) ≡ piece_count limit hole.length
pieces-length limit hole = from-length limit hole 0 (piece_count limit hole.length)

-- the nth of them
pub pieces-at : (limit : ℕ) (hole : Stretch) (n : ℕ) (e : Stretch) → n < piece_count limit hole.length → get_or (prealloc_pieces limit hole) n e ≡ nth_piece limit hole n
pieces-at limit hole n e l = from_at limit hole 0 (piece_count limit hole.length) n e l ∙ rw zero-add refl

-- ---- where they lie

module _ (limit : ℕ) (pos : 0 < limit) (hole : Stretch) where
  -- the nth piece
  abbrev piece : ℕ → Stretch
  piece = nth_piece limit hole

  next : (n : ℕ) → (n + 1) * limit ≡ n * limit + limit
  next n = rw (add-mul, one-mul) refl

  -- a piece starts inside the hole
  begins : (n : ℕ) → n < piece_count limit hole.length → n * limit < hole.length
  begins n l = omega (arith, rw suc-mul at ((le-div_iff_mul-le {x = suc n} pos).0 l))

  -- a piece is not empty
  pub piece_some : (n : ℕ) → n < piece_count limit hole.length → 1 ≤ (piece n).length
  piece_some n l = omega (arith, begins n l)

  -- nor longer than the limit
  pub piece_most : (n : ℕ) → (piece n).length ≤ limit
  piece_most n = omega arith

  -- it lies in the hole
  pub piece_inside : (n : ℕ) → n < piece_count limit hole.length → (hole.start ≤ (piece n).start) × ((piece n).start + (piece n).length ≤ hole.start + hole.length)
  piece_inside n l = omega (arith, begins n l)

  -- it ends where the next one starts
  pub piece_next : (n : ℕ) → n + 1 < piece_count limit hole.length → (piece n).start + (piece n).length ≡ (piece (n + 1)).start
  piece_next n l = omega (arith, next n, begins (n + 1) l)

  -- the last one ends where the hole does
  pub piece_last : (n : ℕ) → n + 1 ≡ piece_count limit hole.length → (piece n).start + (piece n).length ≡ hole.start + hole.length
  piece_last n e =
      let all : hole.length ≤ (n + 1) * limit = rw e (up_above limit pos hole.length) in
      omega (arith, next n, begins n (omega arith))

  -- any two are apart
  pub piece_apart : (m n : ℕ) → m < n → (piece m).start + (piece m).length ≤ (piece n).start
  piece_apart m n l = omega (arith, rw suc-mul at (mul-le-mul_right limit l))

  -- the piece that holds an offset of the hole
  pub piece_holds : (o : ℕ) → hole.start ≤ o → o < hole.start + hole.length
      → (n : ℕ) × (n < piece_count limit hole.length) × ((piece n).start ≤ o) × (o < (piece n).start + (piece n).length)
  piece_holds o low high =
      let d : ℕ = o - hole.start in
      let n : ℕ = d / limit in
      let below : n * limit ≤ d = div-mul-le_self d limit in
      let above : d < n * limit + limit = lt-div-mul-add pos in
      let all : hole.length ≤ piece_count limit hole.length * limit = up_above limit pos hole.length in
      (n, (div-lt_iff_lt-mul pos).1 (omega arith), omega arith, omega arith)

  -- ---- whole sectors
  module _ (s : ℕ) (wl : limit % s ≡ 0) (ws : hole.start % s ≡ 0) (wn : hole.length % s ≡ 0) where
    to-limit : (n : ℕ) → s ∣ n * limit
    to-limit n = dvd-mul_left_of_dvd s (dvd_of_mod-eq-zero s wl) n

    -- a piece starts at a sector start, if the hole does and hole and limit are whole sectors
    pub piece_start_whole : (n : ℕ) → (piece n).start % s ≡ 0
    piece_start_whole n = mod-eq-zero_of_dvd s (dvd-add s (dvd_of_mod-eq-zero s ws) (to-limit n))

    -- and is whole sectors
    pub piece_length_whole : (n : ℕ) → (piece n).length % s ≡ 0
    piece_length_whole n =
        let l = dvd_of_mod-eq-zero s wl in
        let e : limit - (limit - (hole.length - n * limit)) ≡ (piece n).length = omega arith in
        rw e at (mod-eq-zero_of_dvd s (dvd-sub s l (dvd-sub s l (dvd-sub s (dvd_of_mod-eq-zero s wn) (to-limit n)))))
