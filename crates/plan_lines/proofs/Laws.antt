-- Laws of lines that are appended, and of loops that append them. Assumes nothing.
use mathlib.Core.Path.{◌≡◌, refl, ◌∙◌, sym}
use mathlib.Core.Bool.{Bool, true, false, cond}
use mathlib.Core.List.{List, [], ◌∷◌, ◌++◌, flat_map}
use Prim.Native.Nat.{ℕ, suc, ◌+◌, ◌*◌, ◌/◌, ◌<◌, ◌≤◌}
use native.Mathlib.Omega.{arith}
use native.Mathlib.Nat.{add-zero, add_assoc, add-mul, one-mul, zero-mul, suc-mul, le-div_iff_mul-le}
use lib.Dec.{ltb}
use lib.ListN.{length, set, length-append}
use borrow.Author.Tests.{lt-ltb, le-ltb, ltb-true}
use Rattle.endian.specs.Le.{put}
use Rattle.endian.proofs.Puts.{length-put, put-put, put_nil, put_cons}
use Rattle.plan_lines.specs.Lines.{lay, Laid}

-- one number
pub put_one : (b : ℕ) (at : ℕ) (d : List ℕ) → at < length d → set d at b ≡ put (b ∷ []) at d
put_one b at d h = sym (put_cons b [] at d h ∙ put_nil (at + 1) (set d at b))

module _ {A : Type 0} (f : A → List ℕ) (w : ℕ) where
  lay_cons : (n : ℕ) (a : A) (l : List A) (out : List ℕ) → lay f w n (a ∷ l) out ≡ lay f w (n + 1) l (cond (ltb n (length out / w)) (put (f a) (n * w) out) out)
  unfolding lay
  lay_cons n a l out = refl

  pub lay_nil : (n : ℕ) (out : List ℕ) → lay f w n [] out ≡ out
  unfolding lay
  lay_nil n out = refl

  -- lines and then more lines
  pub lay_append : (n : ℕ) (k l : List A) (out : List ℕ) → lay f w n (k ++ l) out ≡ lay f w (n + length k) l (lay f w n k out)
  unfolding lay
  lay_append n [] l out = rw add-zero refl
  lay_append n (a ∷ k) l out =
      let e : n + 1 + length k ≡ n + suc (length k) = omega arith in
      lay_append (n + 1) k l _ ∙ rw e refl

  -- ---- what a function that appends does, put together

  pub laid_none : (n : ℕ) (out : List ℕ) → Laid f w n [] out n out
  laid_none n out = record { lines = sym (add-zero n); output = sym (lay_nil n out) }

  pub laid_append : (n m o : ℕ) (k l : List A) (out out' out'' : List ℕ) → Laid f w n k out m out' → Laid f w m l out' o out'' → Laid f w n (k ++ l) out o out''
  laid_append n m o k l out out' out'' p q =
      record {
        lines = q.lines ∙ rw (p.lines, length-append, add_assoc) refl;
        output = q.output ∙ rw (p.lines, p.output) (sym (lay_append n k l out));
      }

  -- one line where there is room for it, and where there is none
  pub laid_one : (n : ℕ) (a : A) (out out' : List ℕ) → n < length out / w → out' ≡ put (f a) (n * w) out → Laid f w n (a ∷ []) out (n + 1) out'
  unfolding lay
  laid_one n a out out' h e = record { lines = refl; output = rw (lt-ltb _ _ h) e }

  pub laid_full : (n : ℕ) (a : A) (out : List ℕ) → length out / w ≤ n → Laid f w n (a ∷ []) out (n + 1) out
  unfolding lay
  laid_full n a out h = record { lines = refl; output = rw (le-ltb _ _ h) refl }

  -- ---- loops: what is left, appended to the present output, is the whole

  pub record Going (n₀ : ℕ) (all : List A) (out₀ : List ℕ) (n : ℕ) (left : List A) (out : List ℕ) : Type 0 where
    pub lines : n + length left ≡ n₀ + length all
    pub output : lay f w n left out ≡ lay f w n₀ all out₀

  pub going_first : (n : ℕ) (l : List A) (out : List ℕ) → Going n l out n l out
  going_first n l out = record { lines = refl; output = refl }

  -- a turn appends the first of what is left
  pub going-turn :
      (n₀ : ℕ) (all : List A) (out₀ : List ℕ) (n : ℕ) (k l : List A) (out : List ℕ) (m : ℕ) (out' : List ℕ)
      → Going n₀ all out₀ n (k ++ l) out
      → Laid f w n k out m out'
      → Going n₀ all out₀ m l out'
  going-turn n₀ all out₀ n k l out m out' g p =
      let e : length (k ++ l) ≡ length k + length l = length-append k l in
      record {
        lines = omega (arith, p.lines, g.lines, e);
        output = rw (p.lines, p.output) (sym (lay_append n k l out)) ∙ g.output;
      }

  pub going_done : (n₀ : ℕ) (all : List A) (out₀ : List ℕ) (n : ℕ) (out : List ℕ) → Going n₀ all out₀ n [] out → Laid f w n₀ all out₀ n out
  unfolding lay
  going_done n₀ all out₀ n out g = record { lines = sym (add-zero n) ∙ g.lines; output = g.output }

  -- ---- where there is room for all

  module _ (pos : 0 < w) (wide : (a : A) → length (f a) ≡ w) where
    fits : (n : ℕ) (out : List ℕ) → n < length out / w → n * w + w ≤ length out
    fits n out h = rw suc-mul at ((le-div_iff_mul-le {x = suc n} pos).0 h)

    pub length_flat : (l : List A) → length (flat_map f l) ≡ length l * w
    unfolding flat_map
    length_flat [] = sym (zero-mul w)
    length_flat (a ∷ l) =
        let m : suc (length l) * w ≡ length l * w + w = suc-mul (length l) w in
        length-append (f a) (flat_map f l) ∙ omega (arith, wide a, length_flat l, m)

    pub length-lay : (n : ℕ) (l : List A) (out : List ℕ) → length (lay f w n l out) ≡ length out
    unfolding lay
    length-lay n [] out = refl
    length-lay n (a ∷ l) out = length-lay (n + 1) l _ ∙ go (ltb n (length out / w)) refl
      where
        go : (b : Bool) → ltb n (length out / w) ≡ b → length (cond b (put (f a) (n * w) out) out) ≡ length out
        go true e = length-put (f a) (n * w) out (omega (arith, wide a, fits n out (ltb-true _ _ e)))
        go false e = refl

    pub lay-put : (n : ℕ) (l : List A) (out : List ℕ) → n + length l ≤ length out / w → lay f w n l out ≡ put (flat_map f l) (n * w) out
    unfolding lay flat_map
    lay-put n [] out h = sym (put_nil (n * w) out)
    lay-put n (a ∷ l) out h =
        let t : n < length out / w = omega arith in
        let one : length (put (f a) (n * w) out) ≡ length out = length-put (f a) (n * w) out (omega (arith, wide a, fits n out t)) in
        let m : (n + 1) * w ≡ n * w + w = rw (add-mul, one-mul) refl in
        let k : (n + suc (length l)) * w ≤ length out = (le-div_iff_mul-le pos).0 h in
        let k' : (n + suc (length l)) * w ≡ n * w + (length l * w + w) = rw (add-mul, suc-mul) refl in
        rw (lt-ltb _ _ t)
        (lay-put (n + 1) l (put (f a) (n * w) out) (rw one (omega arith))
        ∙ rw m (put-put (f a) (flat_map f l) (n * w) w out (wide a) (omega (arith, length_flat l))))
