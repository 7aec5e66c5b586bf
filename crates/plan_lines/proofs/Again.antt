-- Lines read again from an output that they were laid over. Assumes nothing.
use mathlib.Core.Path.{◌≡◌, refl, ap₂, ◌∙◌, sym}
use mathlib.Core.Bool.{Bool, true}
use mathlib.Core.List.{List, [], ◌∷◌, ◌++◌, flat_map}
use Prim.Native.Nat.{ℕ, ◌-◌, ◌*◌, ◌/◌, ◌<◌, ◌≤◌}
use native.Mathlib.Omega.{arith}
use native.Mathlib.Nat.{zero-mul, zero-add, mul_comm, mul-sub, mul-div_cancel}
use lib.ListN.{length, take, drop, length-drop}
use lib.Seq.{take-append_seam, drop-append_seam}
use Rattle.records.specs.Records.{chunks, records}
use Rattle.records.specs.Stages.{every}
use Rattle.records.proofs.Tests.{both_left, both_right}
use Rattle.records.proofs.Lists.{every_drop, flat_drop}
use Rattle.endian.specs.Le.{put}
use Rattle.plan_lines.specs.Lines.{lay}
use Rattle.plan_lines.proofs.Laws.{lay-put, length_flat}

-- d reads a line of w numbers that f gives, of what passes a test
module _ {A : Type 0} (f : A → List ℕ) (w : ℕ) (d : List ℕ → A) (pos : 0 < w) (wide : (a : A) → length (f a) ≡ w) (u : A → Bool) (reads : (a : A) → u a ≡ true → (s : List ℕ) → d (f a ++ s) ≡ a) where
  behind : (a : A) (s : List ℕ) → drop w (f a ++ s) ≡ s
  behind a s = rw (wide a) at (drop-append_seam (f a) s)

  chunks_read : (l : List A) → every u l ≡ true → chunks d w (length l) (flat_map f l) ≡ l
  unfolding chunks flat_map every
  chunks_read [] e = refl
  chunks_read (a ∷ l) e = ap₂ (λ (x : A) (m : List A). x ∷ m) (reads a (both_left (u a) (every u l) e) (flat_map f l)) (rw (behind a (flat_map f l)) (chunks_read l (both_right (u a) (every u l) e)))

  -- all lines
  pub lines_read : (l : List A) → every u l ≡ true → records d w (flat_map f l) ≡ l
  unfolding records
  lines_read l e =
      let z : length (flat_map f l) / w ≡ length l = rw (length_flat f w pos wide l) (mul-div_cancel (length l) pos) in
      rw z (chunks_read l e)

  pub lay_read : (l : List A) (out : List ℕ) (k : ℕ) → every u l ≡ true → length l ≤ length out / w → k ≤ length l → records d w (take (length l * w - k * w) (drop (k * w) (lay f w 0 l out))) ≡ drop k l
  unfolding put
  lay_read l out k t h m =
      let r : List ℕ = drop (length (flat_map f l)) out in
      let e : lay f w 0 l out ≡ flat_map f l ++ r = lay-put f w pos wide 0 l out (omega (arith, h)) ∙ rw (zero-mul, zero-add) refl in
      let n : length (drop k l) ≡ length l - k = length-drop k l in
      let s : length l * w - k * w ≡ length (flat_map f (drop k l)) = sym (length_flat f w pos wide (drop k l) ∙ rw n (times (length l))) in
      rw (e, flat_drop f w wide k l r m, s, take-append_seam (flat_map f (drop k l)) r) (lines_read (drop k l) (every_drop u k l t))
    where
      times : (n : ℕ) → (n - k) * w ≡ n * w - k * w
      times n = mul_comm (n - k) w ∙ mul-sub w n k ∙ ap₂ (λ (a b : ℕ). a - b) (mul_comm w n) (mul_comm w k)
