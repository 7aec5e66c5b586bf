-- What the writes of a line make, and a line that may be one. Assumes nothing.
use mathlib.Core.Path.{◌≡◌, ap, ◌∙◌}
use mathlib.Core.List.{List, [], ◌∷◌, ◌++◌, append_assoc}
use Prim.Native.Nat.{ℕ, ◌+◌, ◌*◌, ◌/◌, ◌≤◌, ◌<◌}
use native.Mathlib.Omega.{arith}
use native.Mathlib.Nat.{mul-one}
use lib.ListN.{length, get_or, length-append}
use Rattle.endian.specs.Le.{put}
use Rattle.endian.proofs.Numbers.{length-enc}
use Rattle.endian.proofs.Puts.{put-put}
use Rattle.item.specs.Items.{encode}
use Rattle.plan_lines.specs.Lines.{lay}
use Rattle.plan_lines.proofs.Laws.{laid_one, laid_full}
use Rattle.read_order.specs.Taking.{item_of}
use Rattle.read_item.specs.Raw.{eights, key_bytes, code_bytes}

-- a write right behind another
pub put_then :
    (xs ys : List ℕ) (at k : ℕ) (d d' d'' : List ℕ)
    → length xs ≡ k
    → at + k + length ys ≤ length d
    → d' ≡ put xs at d
    → d'' ≡ put ys (at + k) d'
    → d'' ≡ put (xs ++ ys) at d
put_then xs ys at k d d' d'' l h p q = q ∙ rw p (put-put xs ys at k d l h)

-- the groups of an item's bytes, one behind the other
pub record-put :
    (file : ℕ) (v : List ℕ) (at : ℕ) (d d1 d2 d3 d4 d5 : List ℕ)
    → at + 70 ≤ length d
    → d1 ≡ put (key_bytes file (get_or v 0 0)) at d
    → d2 ≡ put (eights (get_or v 6 0) (get_or v 7 0)) (at + 17) d1
    → d3 ≡ put (code_bytes (get_or v 8 0) (get_or v 9 0) (get_or v 10 0) (get_or v 1 0)) (at + 33) d2
    → d4 ≡ put (eights (get_or v 2 0) (get_or v 3 0)) (at + 38) d3
    → d5 ≡ put (eights (get_or v 4 0) (get_or v 5 0)) (at + 54) d4
    → d5 ≡ put (encode (item_of file v)) at d
unfolding encode
record-put file v at d d1 d2 d3 d4 d5 h e1 e2 e3 e4 e5 =
    let k : List ℕ = key_bytes file (get_or v 0 0) in
    let a : List ℕ = eights (get_or v 6 0) (get_or v 7 0) in
    let b : List ℕ = code_bytes (get_or v 8 0) (get_or v 9 0) (get_or v 10 0) (get_or v 1 0) in
    let s : List ℕ = eights (get_or v 2 0) (get_or v 3 0) in
    let t : List ℕ = eights (get_or v 4 0) (get_or v 5 0) in
    let p1 : d2 ≡ put (k ++ a) at d = put_then k a at 17 d d1 d2 (simp (length-append, length-enc)) (simp (length-append, length-enc) (omega arith)) e1 e2 in
    let p2 : d3 ≡ put (k ++ a ++ b) at d = put_then (k ++ a) b at 33 d d2 d3 (simp (length-append, length-enc)) (simp (length-append, length-enc) (omega arith)) p1 e3 in
    let p3 : d4 ≡ put (k ++ a ++ b ++ s) at d = put_then (k ++ a ++ b) s at 38 d d3 d4 (simp (length-append, length-enc)) (simp (length-append, length-enc) (omega arith)) p2 e4 in
    let p4 : d5 ≡ put (k ++ a ++ b ++ s ++ t) at d = put_then (k ++ a ++ b ++ s) t at 54 d d4 d5 (simp (length-append, length-enc)) (simp (length-append, length-enc) (omega arith)) p3 e5 in
    p4 ∙ ap (λ (x : List ℕ). put x at d) (simp append_assoc)

-- ---- one line, as line n

module _ {A : Type 0} (f : A → List ℕ) (w n : ℕ) (a : A) (out : List ℕ) where
  pub kept_full : length out / w ≤ n → out ≡ lay f w n (a ∷ []) out
  kept_full h = (laid_full f w n a out h).output

  pub kept-one : (out' : List ℕ) → n < length out / w → out' ≡ put (f a) (n * w) out → out' ≡ lay f w n (a ∷ []) out
  kept-one out' h p = (laid_one f w n a out out' h p).output

-- one number a line
pub one_place : (vs : List ℕ) (n : ℕ) (out out' : List ℕ) → out' ≡ put vs n out → out' ≡ put vs (n * 1) out
one_place vs n out out' e = rw mul-one e

-- what each write is proved by
pub ruleset puts = (put_then, length-enc, length-append, record-put, kept_full, kept-one, one_place)
