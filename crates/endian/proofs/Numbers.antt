-- The laws of one little-endian number. Assumes nothing.
use mathlib.Core.Path.{◌≡◌, refl, ap, ◌∙◌, sym}
use mathlib.Core.List.{List, [], ◌∷◌}
use Prim.Native.Nat.{ℕ, zero, suc, ◌+◌, ◌*◌, ◌/◌, ◌%◌, ◌<◌, ◌≤◌}
use native.Mathlib.Omega.{arith}
use native.Mathlib.Nat.{add-suc, add-zero}
use lib.ListN.{length, get_or, take, drop}
use lib.Seq.{take-nil, drop-drop, get_or-take}
use Rattle.std.specs.Int.{w16, w64, from_le_bytes}
use Rattle.endian.specs.Le.{le, num, enc, room, Bytes}

pub length-enc : (w v : ℕ) → length (enc w v) ≡ w
unfolding enc
length-enc zero v = refl
length-enc (suc w) v = ap suc (length-enc w (v / 256))

-- bytes, read and then written
pub enc-le : (s : List ℕ) → Bytes s → enc (length s) (le s) ≡ s
unfolding enc le
enc-le [] h = refl
enc-le (b ∷ s) h =
    let hb : b < 256 = h 0 in
    let lo : (b + 256 * le s) % 256 ≡ b = omega arith in
    let hi : (b + 256 * le s) / 256 ≡ le s = omega arith in
    rw (lo, hi) (ap (λ (t : List ℕ). b ∷ t) (enc-le s (λ i. h (suc i))))

-- a number that fits, written and then read
pub le-enc : (w v : ℕ) → v < room w → le (enc w v) ≡ v
unfolding enc le room
le-enc zero v h = omega arith
le-enc (suc w) v h =
    let hv : v / 256 < room w = omega arith in
    rw (le-enc w (v / 256) hv) (omega arith)

-- what is written are bytes
pub bytes-enc : (w v : ℕ) → Bytes (enc w v)
unfolding enc
bytes-enc zero v i = omega arith
bytes-enc (suc w) v zero = omega arith
bytes-enc (suc w) v (suc i) = bytes-enc w (v / 256) i

-- a number by its first byte and the rest, wherever it stands: the law that serves every width
pub num-suc : (w at : ℕ) (s : List ℕ) → num (suc w) at s ≡ get_or s at 0 + 256 * num w (suc at) s
unfolding num le
num-suc w zero [] = rw take-nil refl
num-suc w (suc at) [] = rw take-nil refl
num-suc w zero (b ∷ s) = refl
num-suc w (suc at) (b ∷ s) = num-suc w at s

-- the same at the code's sums
pub num-step : (w at k : ℕ) (s : List ℕ) → num (suc w) (at + k) s ≡ get_or s (at + k) 0 + 256 * num w (at + suc k) s
num-step w at k s = rw add-suc (num-suc w (at + k) s)

pub num-zero : (at : ℕ) (s : List ℕ) → num 0 at s ≡ 0
unfolding num le
num-zero at s = refl

pub num-drop : (w at k : ℕ) (s : List ℕ) → num w at (drop k s) ≡ num w (k + at) s
unfolding num
num-drop w at k s = rw drop-drop refl

-- the byte at a place is its number
pub num_1 : (at : ℕ) (s : List ℕ) → get_or s at 0 ≡ num 1 at s
num_1 at s = omega (arith, num-suc 0 at s, num-zero (suc at) s)

-- a number depends on its own bytes only
pub num_ext : (w at : ℕ) (s t : List ℕ) → ((i : ℕ) → at ≤ i → i < at + w → get_or s i 0 ≡ get_or t i 0) → num w at s ≡ num w at t
num_ext zero at s t h = num-zero at s ∙ sym (num-zero at t)
num_ext (suc w) at s t h =
    rw (num-suc, h at (omega arith) (omega arith), num_ext w (suc at) s t (λ i p q. h i (omega arith) (omega arith)), ← num-suc) refl

pub num-take : (w at n : ℕ) (s : List ℕ) → at + w ≤ n → num w at (take n s) ≡ num w at s
num-take w at n s h = num_ext w at (take n s) s (λ i p q. get_or-take n s i 0 (omega arith))

-- the w bytes from `at` have the number that stands there
num-own : (w at : ℕ) (s : List ℕ) → num w at s ≡ num w 0 (take w (drop at s))
num-own w at s = sym (num-take w 0 w (drop at s) (omega arith) ∙ num-drop w 0 at s ∙ rw add-zero refl)

-- the widths in use, as the library sums them
pub num_2 : (at : ℕ) (s : List ℕ) → from_le_bytes w16 (take 2 (drop at s)) ≡ num 2 at s
num_2 at s =
    let t : List ℕ = take 2 (drop at s) in
    let e = num-step 1 0 0 t in
    omega (arith, num-own 2 at s, e, num-step 0 0 1 t, num-zero 2 t)

pub num_8 : (at : ℕ) (s : List ℕ) → from_le_bytes w64 (take 8 (drop at s)) ≡ num 8 at s
num_8 at s =
    let t : List ℕ = take 8 (drop at s) in
    omega (arith, num-own 8 at s, num-step 7 0 0 t, num-step 6 0 1 t, num-step 5 0 2 t, num-step 4 0 3 t, num-step 3 0 4 t, num-step 2 0 5 t, num-step 1 0 6 t, num-step 0 0 7 t, num-zero 8 t)

-- a number in bytes fits its width
pub num-room : (w at : ℕ) (s : List ℕ) → Bytes s → num w at s < room w
unfolding room
num-room zero at s b = omega (arith, num-zero at s)
num-room (suc w) at s b =
    let hb : get_or s at 0 < 256 = b at in
    let ih : num w (suc at) s < room w = num-room w (suc at) s b in
    omega (arith, num-suc w at s)
