-- What was laid over a buffer, as parts of it. Assumes nothing.
use mathlib.Core.Path.{◌≡◌, refl, ap, ◌∙◌, sym}
use mathlib.Core.List.{List, ◌++◌, flat_map, append_assoc}
use Prim.Native.Nat.{ℕ, ◌+◌, ◌-◌, ◌*◌, ◌/◌, ◌<◌, ◌≤◌}
use native.Mathlib.Omega.{arith}
use native.Mathlib.Nat.{zero-mul, zero-add, add-mul}
use lib.ListN.{length, take, drop, length-append}
use lib.Seq.{take-append_seam, take-append-le, drop-append_seam}
use Rattle.records.proofs.Lists.{flat_append}
use Rattle.endian.specs.Le.{put}
use Rattle.plan_lines.specs.Lines.{lay}
use Rattle.plan_lines.proofs.Laws.{lay-put, length_flat}

module _ {A : Type 0} (f : A → List ℕ) (w : ℕ) (pos : 0 < w) (wide : (a : A) → length (f a) ≡ w) where
  whole : (l : List A) (out : List ℕ) → length l ≤ length out / w → lay f w 0 l out ≡ flat_map f l ++ drop (length (flat_map f l)) out
  unfolding put
  whole l out h = lay-put f w pos wide 0 l out (omega (arith, h)) ∙ rw (zero-mul, zero-add) refl

  pub all_laid : (l : List A) (out : List ℕ) (n : ℕ) → n ≡ length l → length l ≤ length out / w → take (n * w) (lay f w 0 l out) ≡ flat_map f l
  all_laid l out n e h =
      rw (whole l out h, e, sym (length_flat f w pos wide l)) (take-append_seam (flat_map f l) (drop (length (flat_map f l)) out))

  -- the first of two lists, and the second
  module _ (k l : List A) (out : List ℕ) (h : length (k ++ l) ≤ length out / w) where
    both : lay f w 0 (k ++ l) out ≡ flat_map f k ++ (flat_map f l ++ drop (length (flat_map f (k ++ l))) out)
    both = whole (k ++ l) out h ∙ ap (λ (x : List ℕ). x ++ drop (length (flat_map f (k ++ l))) out) (flat_append f k l) ∙ append_assoc (flat_map f k) (flat_map f l) (drop (length (flat_map f (k ++ l))) out)

    pub first-laid : (n : ℕ) → n ≡ length k → take (n * w) (lay f w 0 (k ++ l) out) ≡ flat_map f k
    first-laid n e =
        let x : List ℕ = drop (length (flat_map f (k ++ l))) out in
        rw (both, e, sym (length_flat f w pos wide k)) (take-append_seam (flat_map f k) (flat_map f l ++ x))

    pub second_laid : (n m : ℕ) → n ≡ length k → m ≡ length (k ++ l) → take (m * w - n * w) (drop (n * w) (lay f w 0 (k ++ l) out)) ≡ flat_map f l
    second_laid n m e g =
        let x : List ℕ = drop (length (flat_map f (k ++ l))) out in
        let t : m ≡ n + length l = omega (arith, e, g, length-append k l) in
        let s : m * w - n * w ≡ length (flat_map f l) = rw (t, add-mul n (length l) w) (omega (arith, length_flat f w pos wide l)) in
        rw (s, both, e, sym (length_flat f w pos wide k), drop-append_seam (flat_map f k) (flat_map f l ++ x)) (take-append_seam (flat_map f l) x)

-- lines of one number: some of them, and all
module _ {A : Type 0} (f : A → List ℕ) (wide : (a : A) → length (f a) ≡ 1) where
  pub some-laid : (l : List A) (out : List ℕ) (n : ℕ) → n ≤ length l → length l ≤ length out → take n (lay f 1 0 l out) ≡ take n (flat_map f l)
  some-laid l out n e h =
      rw (whole f 1 (omega arith) wide l out (omega (arith, h)))
      (take-append-le n (flat_map f l) (drop (length (flat_map f l)) out) (omega (arith, e, length_flat f 1 (omega arith) wide l)))
