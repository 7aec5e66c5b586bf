-- The pieces of a stretch one by one, and their number in all. Assumes nothing.
use mathlib.Core.Path.{◌≡◌, refl, ap₂}
use mathlib.Core.List.{List, [], ◌∷◌, flat_map}
use Prim.Native.Nat.{ℕ, zero, suc, ◌+◌, ◌-◌, ◌*◌, ◌/◌, ◌≤◌, ◌<◌, min}
use native.Mathlib.Omega.{arith}
use native.Mathlib.Nat.{add-zero, zero-mul, add-mul, one-mul, sub-zero, div-eq_of_lt, div-eq-sub-div}
use native.Mathlib.Decide.{dec_lt}
use lib.ListN.{length, length-append}
use Rattle.change_def.specs.Preallocs.{Stretch, piece_limit, piece_count, pieces_from, prealloc_pieces, sum_of}
use Rattle.change_def.proofs.Preallocs.{pieces-length}

-- no piece of nothing
pub pieces_none : (s : Stretch) → s.length ≡ 0 → prealloc_pieces piece_limit s ≡ []
unfolding pieces_from
pieces_none s h = rw h refl

module _ (limit : ℕ) (pos : 0 < limit) (s : Stretch) where
  -- what is left behind the first piece
  abbrev pub behind : Stretch
  behind = record { start = s.start + min limit s.length; length = s.length - min limit s.length }

  -- its pieces are one fewer
  count-behind : 0 < s.length → piece_count limit s.length ≡ suc (piece_count limit behind.length)
  count-behind some =
      let n : ℕ = s.length + (limit - 1) in
      let d : n / limit ≡ (n - limit) / limit + 1 = div-eq-sub-div pos (omega arith) in
      elim (dec_lt limit s.length) [
        | yes l ↦ let e : n - limit ≡ behind.length + (limit - 1) = omega arith in omega (arith, rw e at d)
        | no l ↦
            let z : (n - limit) / limit ≡ 0 = div-eq_of_lt (omega arith) in
            let y : (behind.length + (limit - 1)) / limit ≡ 0 = div-eq_of_lt (omega arith) in
            omega arith
      ]

  -- and lie where those of s from the second on do, if the first is a whole one
  from-behind : limit ≤ s.length → (n k : ℕ) → pieces_from limit s (n + 1) k ≡ pieces_from limit behind n k
  unfolding pieces_from
  from-behind l n zero = refl
  from-behind l n (suc k) =
      let m : (n + 1) * limit ≡ n * limit + limit = rw (add-mul, one-mul) refl in
      let a : s.start + (n + 1) * limit ≡ behind.start + n * limit = omega arith in
      let b : min limit (s.length - (n + 1) * limit) ≡ min limit (behind.length - n * limit) = omega arith in
      ap₂ ◌∷◌ (rw (a, b) refl) (from-behind l (n + 1) k)

  -- the first piece, and those behind it
  pub pieces_cons : 0 < s.length → prealloc_pieces limit s ≡ record { start = s.start; length = min limit s.length } ∷ prealloc_pieces limit behind
  unfolding pieces_from
  pieces_cons some = rw (count-behind some) (ap₂ ◌∷◌ (rw (zero-mul, add-zero, sub-zero) refl) others)
    where
      others : pieces_from limit s 1 (piece_count limit behind.length) ≡ prealloc_pieces limit behind
      others =
          elim (dec_lt s.length limit) [
            | yes l ↦ let z : piece_count limit behind.length ≡ 0 = div-eq_of_lt (omega arith) in rw z refl
            | no l ↦ from-behind (omega arith) 0 (piece_count limit behind.length)
          ]

-- ---- sums

-- the pieces of no stretch, and of one more
pub no_pieces : length (flat_map (prealloc_pieces piece_limit) []) ≡ 0
unfolding flat_map
no_pieces = refl

pub pieces_more : (s : Stretch) (ss : List Stretch) → length (flat_map (prealloc_pieces piece_limit) (s ∷ ss)) ≡ piece_count piece_limit s.length + length (flat_map (prealloc_pieces piece_limit) ss)
unfolding flat_map
pieces_more s ss = rw (length-append, pieces-length) refl

-- no piece is empty, so there are at most as many as bytes
pub pieces_few : (ss : List Stretch) → length (flat_map (prealloc_pieces piece_limit) ss) ≤ sum_of ss
unfolding sum_of flat_map
pieces_few [] = omega arith
pieces_few (s ∷ ss) =
    omega (arith, length-append (prealloc_pieces piece_limit s) (flat_map (prealloc_pieces piece_limit) ss), pieces-length piece_limit s, pieces_few ss)
