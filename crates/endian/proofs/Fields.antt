-- Runs of fields: numbers of given widths, one behind the other. Assumes nothing.
use mathlib.Core.Path.{◌≡◌, refl, ap, ap₂, ◌∙◌}
use mathlib.Core.List.{List, [], ◌∷◌, ◌++◌, append_assoc}
use Prim.Native.Nat.{ℕ, zero, suc, ◌+◌, ◌<◌, ◌≤◌}
use native.Mathlib.Omega.{arith}
use native.Mathlib.Nat.{add-zero, zero-add, add_assoc}
use lib.ListN.{length, get_or, take, drop, set, length-drop}
use lib.Seq.{take-add, take_at, drop_at, length-take-le}
use Rattle.endian.specs.Le.{le, num, enc, put, room, Bytes}
use Rattle.endian.proofs.Numbers.{length-enc, enc-le, le-enc, num-drop, num-take}
use Rattle.endian.proofs.Puts.{num-put-same, num-put-before, num-put-after}

-- the numbers of the widths ws from `at` on, and their bytes
unfoldable pub dec : List ℕ → ℕ → List ℕ → List ℕ
dec [] at s = []
dec (w ∷ ws) at s = num w at s ∷ dec ws (at + w) s

unfoldable pub encs : List ℕ → List ℕ → List ℕ
encs [] vs = []
encs (w ∷ ws) [] = []
encs (w ∷ ws) (v ∷ vs) = enc w v ++ encs ws vs

unfoldable pub sum : List ℕ → ℕ
sum [] = 0
sum (w ∷ ws) = w + sum ws

-- the numbers fit the widths, one each
abbrev pub Fit : List ℕ → List ℕ → Type 0
Fit [] [] = Unit {0}
Fit [] (v ∷ vs) = ⊥
Fit (w ∷ ws) [] = ⊥
Fit (w ∷ ws) (v ∷ vs) = (v < room w) × Fit ws vs

pub dec_drop : (ws : List ℕ) (k at : ℕ) (s : List ℕ) → dec ws at (drop k s) ≡ dec ws (k + at) s
unfolding dec
dec_drop [] k at s = refl
dec_drop (w ∷ ws) k at s = rw (num-drop w at k s, dec_drop ws k (at + w) s, add_assoc k at w) refl

pub dec_take : (ws : List ℕ) (at n : ℕ) (s : List ℕ) → at + sum ws ≤ n → dec ws at (take n s) ≡ dec ws at s
unfolding dec sum
dec_take [] at n s h = refl
dec_take (w ∷ ws) at n s h = rw (num-take w at n s (omega arith), dec_take ws (at + w) n s (omega arith)) refl

dec_cons : (w : ℕ) (ws s : List ℕ) → dec (w ∷ ws) 0 s ≡ le (take w s) ∷ dec ws 0 (drop w s)
unfolding dec num
dec_cons w ws s = rw (dec_drop ws w 0 s, zero-add, add-zero) refl

-- written and then read
pub dec_encs : (ws vs t : List ℕ) → Fit ws vs → dec ws 0 (encs ws vs ++ t) ≡ vs
unfolding dec encs
dec_encs [] [] t h = refl
dec_encs [] (v ∷ vs) t h = absurd h
dec_encs (w ∷ ws) [] t h = absurd h
dec_encs (w ∷ ws) (v ∷ vs) t h =
    dec_cons w ws ((enc w v ++ encs ws vs) ++ t)
    ∙ rw (append_assoc, take_at (enc w v) (encs ws vs ++ t) w (length-enc w v), drop_at (enc w v) (encs ws vs ++ t) w (length-enc w v), le-enc w v h.0)
    (ap (λ (l : List ℕ). v ∷ l) (dec_encs ws vs t h.1))

pub bytes_take : (n : ℕ) (s : List ℕ) → Bytes s → Bytes (take n s)
bytes_take zero s h i = omega arith
bytes_take (suc n) [] h i = h i
bytes_take (suc n) (x ∷ s) h zero = h zero
bytes_take (suc n) (x ∷ s) h (suc i) = bytes_take n s (λ j. h (suc j)) i

pub bytes_drop : (n : ℕ) (s : List ℕ) → Bytes s → Bytes (drop n s)
bytes_drop zero s h i = h i
bytes_drop (suc n) [] h i = h i
bytes_drop (suc n) (x ∷ s) h i = bytes_drop n s (λ j. h (suc j)) i

encs_cons : (w v : ℕ) (ws vs : List ℕ) → encs (w ∷ ws) (v ∷ vs) ≡ enc w v ++ encs ws vs
unfolding encs
encs_cons w v ws vs = refl

-- read and then written
pub encs_dec : (ws s : List ℕ) → Bytes s → sum ws ≤ length s → encs ws (dec ws 0 s) ≡ take (sum ws) s
unfolding sum
encs_dec [] s b h = unfold dec encs in refl
encs_dec (w ∷ ws) s b h =
    let hw : w ≤ length s = omega arith in
    let hs : sum ws ≤ length (drop w s) = simp length-drop (omega arith) in
    let e : enc w (le (take w s)) ≡ take w s = rw (length-take-le w s hw) at (enc-le (take w s) (bytes_take w s b)) in
    rw (dec_cons, encs_cons, e, encs_dec ws (drop w s) (bytes_drop w s b) hs, take-add) refl

-- ---- one field written anew

-- where field j starts
unfoldable pub place : List ℕ → ℕ → ℕ → ℕ
place [] at j = at
place (w ∷ ws) at zero = at
place (w ∷ ws) at (suc j) = place ws (at + w) j

place_ge : (ws : List ℕ) (at j : ℕ) → at ≤ place ws at j
unfolding place
place_ge [] at j = omega arith
place_ge (w ∷ ws) at zero = omega arith
place_ge (w ∷ ws) at (suc j) = omega (arith, place_ge ws (at + w) j)

pub place_le : (ws : List ℕ) (at j : ℕ) → place ws at j + get_or ws j 0 ≤ at + sum ws
unfolding place sum
place_le [] at j = omega arith
place_le (w ∷ ws) at zero = omega arith
place_le (w ∷ ws) at (suc j) = omega (arith, place_le ws (at + w) j)

dec_put-after : (ws : List ℕ) (at : ℕ) (vs : List ℕ) (to : ℕ) (d : List ℕ) → to ≤ length d → to + length vs ≤ at → dec ws at (put vs to d) ≡ dec ws at d
unfolding dec
dec_put-after [] at vs to d h p = refl
dec_put-after (w ∷ ws) at vs to d h p = ap₂ (λ (x : ℕ) (xs : List ℕ). x ∷ xs) (num-put-after w at vs to d h p) (dec_put-after ws (at + w) vs to d h (omega arith))

-- of all fields that one is another number
pub dec-put :
    (ws : List ℕ) (at j v : ℕ) (d : List ℕ)
    → v < room (get_or ws j 0)
    → at + sum ws ≤ length d
    → j < length ws
    → dec ws at (put (enc (get_or ws j 0) v) (place ws at j) d) ≡ set (dec ws at d) j v
unfolding dec place sum
dec-put [] at j v d hv hd hj = absurd (omega arith)
dec-put (w ∷ ws) at zero v d hv hd hj =
    ap₂ (λ (x : ℕ) (xs : List ℕ). x ∷ xs) (num-put-same w v at d hv (omega arith))
    (dec_put-after ws (at + w) (enc w v) at d (omega arith) (simp length-enc (omega arith)))
dec-put (w ∷ ws) at (suc j) v d hv hd hj =
    ap₂ (λ (x : ℕ) (xs : List ℕ). x ∷ xs)
    (num-put-before w at (enc (get_or ws j 0) v) (place ws (at + w) j) d (omega (arith, place_le ws (at + w) j)) (omega (arith, place_ge ws (at + w) j)))
    (dec-put ws (at + w) j v d hv (omega arith) (omega arith))
