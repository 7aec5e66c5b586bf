-- The laws of writing over a list. Assumes nothing.
use mathlib.Core.Path.{◌≡◌, refl}
use mathlib.Core.List.{List, [], ◌∷◌, ◌++◌, append_assoc, append-nil}
use Prim.Native.Nat.{ℕ, suc, ◌+◌, ◌-◌, ◌/◌, ◌%◌, ◌<◌, ◌≤◌}
use native.Mathlib.Omega.{arith}
use native.Mathlib.Numerals.{add-one}
use native.Mathlib.Nat.{add-zero, zero-add, add_assoc, sub-zero}
use lib.ListN.{length, get_or, take, drop, set, length-append, length-drop, length-take, take-append-drop, get_or-append, drop_of_length-le}
use lib.Seq.{drop-cons, drop-drop, take_at, drop_at, drop-set-lt, take-suc-set, get_or-take, get_or-drop, get_or-append-add}
use Rattle.endian.specs.Le.{le, num, enc, put, room}
use Rattle.endian.proofs.Numbers.{length-enc, le-enc, num_ext}

pub length-put : (vs : List ℕ) (at : ℕ) (d : List ℕ) → at + length vs ≤ length d → length (put vs at d) ≡ length d
unfolding put
length-put vs at d h = simp (length-append, length-take, length-drop) (omega arith)

-- two writes, the second right behind the first, are one
pub put-put : (xs ys : List ℕ) (at k : ℕ) (d : List ℕ) → length xs ≡ k → at + k + length ys ≤ length d → put ys (at + k) (put xs at d) ≡ put (xs ++ ys) at d
unfolding put
put-put xs ys at k d e h =
    let p : List ℕ = take at d ++ xs in
    let r : List ℕ = drop (at + length xs) d in
    let lp : length p ≡ at + k = simp (length-append, length-take) (omega arith) in
    let n : at + length xs + length ys ≡ at + (length xs + length ys) = omega arith in
    rw (take_at p r (at + k) lp, ← drop-drop (length ys) (at + k) (p ++ r), drop_at p r (at + k) lp, drop-drop, length-append, append_assoc (take at d) xs ys, n) refl

pub put_nil : (at : ℕ) (d : List ℕ) → put [] at d ≡ d
unfolding put
put_nil at d = rw (append-nil, add-zero, take-append-drop) refl

-- one store, then the rest
pub put_cons : (b : ℕ) (bs : List ℕ) (at : ℕ) (d : List ℕ) → at < length d → put (b ∷ bs) at d ≡ put bs (at + 1) (set d at b)
unfolding put
put_cons b bs at d h =
    let n : at + suc (length bs) ≡ at + 1 + length bs = omega arith in
    let lt : at < at + 1 + length bs = omega arith in
    rw (drop-set-lt (at + 1 + length bs) d at b lt, n, add-one, take-suc-set, append_assoc (take at d) (b ∷ []) bs) refl

-- a write over the whole
pub put_whole : (vs d : List ℕ) → length d ≤ length vs → put vs 0 d ≡ vs
unfolding put
put_whole vs d h = rw (zero-add, drop_of_length-le d, append-nil vs) refl

-- a part of a list that was written whole, between what stands before and behind it
pub put_part : (vs : List ℕ) (at k : ℕ) (d : List ℕ) → length vs ≡ k → take at d ++ (vs ++ drop k (drop at d)) ≡ put vs at d
unfolding put
put_part vs at k d h = rw (drop-drop, h, append_assoc (take at d) vs (drop (at + k) d)) refl

-- ---- a loop that writes a number: what is left of it, over what the turns stored

enc-suc : (w v : ℕ) → enc (suc w) v ≡ v % 256 ∷ enc w (v / 256)
unfolding enc
enc-suc w v = refl

-- from the first byte on, over a list of w bytes
pub enc_all : (w v : ℕ) (d : List ℕ) → length d ≡ w → put (enc (w - 0) v) 0 d ≡ enc w v
enc_all w v d h = rw sub-zero (put_whole (enc w v) d (omega (arith, length-enc w v)))

pub enc-turn : (w i v : ℕ) (d : List ℕ) → i < w → length d ≡ w → put (enc (w - (i + 1)) (v / 256)) (i + 1) (set d i (v % 256)) ≡ put (enc (w - i) v) i d
enc-turn w i v d h l =
    let e : w - i ≡ suc (w - (i + 1)) = omega arith in
    rw (e, enc-suc, put_cons (v % 256) (enc (w - (i + 1)) (v / 256)) i d (omega arith)) refl

pub enc-none : (w i v : ℕ) (d : List ℕ) → w ≤ i → d ≡ put (enc (w - i) v) i d
unfolding enc
enc-none w i v d h =
    let e : w - i ≡ 0 = omega arith in
    rw (e, put_nil) refl

-- ---- a loop that copies

pub copy_turn :
    (n i from at : ℕ) (s d : List ℕ)
    → i < n
    → from + i < length s
    → at + i < length d
    → put (take (n - (i + 1)) (drop (from + (i + 1)) s)) (at + (i + 1)) (set d (at + i) (get_or s (from + i) 0)) ≡ put (take (n - i) (drop (from + i) s)) (at + i) d
copy_turn n i from at s d h f l =
    let e : n - i ≡ suc (n - (i + 1)) = omega arith in
    rw (e, drop-cons s (from + i) 0 f, put_cons, add_assoc, ← add_assoc from i 1, add-one (from + i)) refl

pub take_none : (s : List ℕ) (at : ℕ) (d : List ℕ) (n : ℕ) → n ≡ 0 → d ≡ put (take n s) at d
take_none s at d n e = rw (e, put_nil) refl

-- ---- what is read after a write

pub get_d_put-before : (vs : List ℕ) (at : ℕ) (d : List ℕ) (i : ℕ) → at ≤ length d → i < at → get_or (put vs at d) i 0 ≡ get_or d i 0
unfolding put
get_d_put-before vs at d i h lt =
    let l : i < length (take at d) = simp length-take (omega arith) in
    rw (append_assoc, get_or-append, get_or-take) refl

pub get_d_put-after : (vs : List ℕ) (at : ℕ) (d : List ℕ) (i : ℕ) → at ≤ length d → at + length vs ≤ i → get_or (put vs at d) i 0 ≡ get_or d i 0
unfolding put
get_d_put-after vs at d i h le =
    let p : List ℕ = take at d ++ vs in
    let lp : length p ≡ at + length vs = simp (length-append, length-take) (omega arith) in
    let k : ℕ = i - (at + length vs) in
    let e : length p + k ≡ i = omega arith in
    let e' : at + length vs + k ≡ i = omega arith in
    rw (← e, get_or-append-add, get_or-drop, e, e') refl

-- the number that was written, and a number beside it
pub num-put-same : (w v at : ℕ) (d : List ℕ) → v < room w → at + w ≤ length d → num w at (put (enc w v) at d) ≡ v
unfolding num put
num-put-same w v at d hv h =
    let lt : length (take at d) ≡ at = simp length-take (omega arith) in
    rw (append_assoc, drop_at (take at d) (enc w v ++ drop (at + length (enc w v)) d) at lt, take_at (enc w v) (drop (at + length (enc w v)) d) w (length-enc w v)) (le-enc w v hv)

pub num-put-before : (w at : ℕ) (vs : List ℕ) (to : ℕ) (d : List ℕ) → to ≤ length d → at + w ≤ to → num w at (put vs to d) ≡ num w at d
num-put-before w at vs to d h le = num_ext w at (put vs to d) d (λ i p q. get_d_put-before vs to d i h (omega arith))

pub num-put-after : (w at : ℕ) (vs : List ℕ) (to : ℕ) (d : List ℕ) → to ≤ length d → to + length vs ≤ at → num w at (put vs to d) ≡ num w at d
num-put-after w at vs to d h le = num_ext w at (put vs to d) d (λ i p q. get_d_put-after vs to d i h (omega arith))
