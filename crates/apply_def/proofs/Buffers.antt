-- Laws of buffers: the records of a list of numbers, read one by one and changed in place. Assumes nothing.
use mathlib.Core.Path.{◌≡◌, refl, ap, ap₂, ◌∙◌, sym}
use mathlib.Core.List.{List, [], ◌∷◌, ◌++◌, flat_map, append_assoc}
use Prim.Native.Nat.{ℕ, zero, suc, ◌+◌, ◌-◌, ◌*◌, ◌/◌, ◌<◌, ◌≤◌, min}
use native.Mathlib.Omega.{arith}
use native.Mathlib.Nat.{zero-add, zero-mul, mul-le-mul_right, mul-div_cancel, le-div_iff_mul-le, div-mul-le_self}
use native.Mathlib.Numerals.{add-one}
use lib.ListN.{length, get_or, take, drop, set, length-append, length-take, length-drop, length-set, take-append-drop}
use lib.Seq.{drop-cons, drop-drop, drop-append-add, drop-set-lt, take-add, take-suc-set, get_or-drop, get_or-set_same}
use Rattle.endian.specs.Le.{put}
use Rattle.endian.proofs.Puts.{length-put}
use Rattle.records.specs.Records.{chunks, records}
use Rattle.records.proofs.Loops.{records-length}
use Rattle.records.proofs.Lists.{flat_append, flat_drop}
use Rattle.records.proofs.Chunks.{chunks-cut, chunks-take}
use Rattle.plan_def.proofs.Leaving.{parts_length}
use Rattle.apply_def.specs.Buffers.{Same}

-- ---- the first records

module _ {A : Type 0} (d : List ℕ → A) (w : ℕ) where
  -- the first n of them: those of a list that is cut off behind them
  pub records-take : 0 < w → ((s : List ℕ) → d (take w s) ≡ d s) → (n : ℕ) (s : List ℕ) → n ≤ length s / w → records d w (take (n * w) s) ≡ take n (records d w s)
  unfolding records
  records-take pos own n s h =
      let l : n * w ≤ length s = (le-div_iff_mul-le {k = w} {x = n} {y = length s} pos).0 h in
      let q : length (take (n * w) s) / w ≡ n = ap (λ (m : ℕ). m / w) (length-take (n * w) s ∙ (let e : min (n * w) (length s) ≡ n * w = omega arith in e)) ∙ mul-div_cancel n pos in
      rw q (chunks-cut d w own n (n * w) s (omega arith) ∙ sym (chunks-take d w n (length s / w) s h))

-- ---- a buffer that is changed in whole records

drop_past : (vs : List ℕ) (at m : ℕ) (s : List ℕ) → at + length vs ≤ m → at ≤ length s → drop m (put vs at s) ≡ drop m s
unfolding put
drop_past vs at m s h l =
    let p : List ℕ = take at s ++ vs in
    let k : ℕ = m - (at + length vs) in
    let e : m ≡ length p + k = simp (length-append, length-take) (omega arith) in
    let e' : at + length vs + k ≡ m = omega arith in
    ap (λ (n : ℕ). drop n (p ++ drop (at + length vs) s)) e ∙ drop-append-add p (drop (at + length vs) s) k ∙ drop-drop k (at + length vs) s ∙ ap (λ (n : ℕ). drop n s) e'

module _ (w : ℕ) (pos : 0 < w) where
  pub same_self : (s : List ℕ) → Same w s s
  same_self s = record { long = refl; rest = refl }

  pub same-put : (before buf buf' vs : List ℕ) (k : ℕ) → Same w before buf → length vs ≡ w → k < length before / w → buf' ≡ put vs (k * w) buf → Same w before buf'
  same-put before buf buf' vs k s v h e =
      let m : suc k * w ≤ length before = (le-div_iff_mul-le {k = w} {x = suc k} {y = length before} pos).0 h in
      let t : suc k * w ≤ length before / w * w = mul-le-mul_right w h in
      let l = s.long in
      record {
        long = ap length e ∙ length-put vs (k * w) buf (omega arith) ∙ s.long;
        rest = ap (drop (length before / w * w)) e ∙ drop_past vs (k * w) (length before / w * w) buf (omega arith) (omega arith) ∙ s.rest;
      }

-- ---- records written again: f gives the w numbers of one, which d reads from numbers that are P

module _ {A : Type 0} (d : List ℕ → A) (f : A → List ℕ) (w : ℕ) (pos : 0 < w) (wide : (a : A) → length (f a) ≡ w)
    (P : List ℕ → Type 0) (later : (n : ℕ) (s : List ℕ) → P s → P (drop n s)) (again : (s : List ℕ) → P s → w ≤ length s → f (d s) ≡ take w s) where
  chunks-back : (n : ℕ) (s : List ℕ) → P s → n * w ≤ length s → flat_map f (chunks d w n s) ≡ take (n * w) s
  unfolding chunks flat_map
  chunks-back zero s p h = rw zero-mul refl
  chunks-back (suc n) s p h =
      let m : suc n * w ≡ w + n * w = omega arith in
      rw (again s p (omega arith), m, chunks-back n (drop w s) (later w s p) (simp length-drop (omega arith))) (sym (take-add w (n * w) s))

  records-back : (s : List ℕ) → P s → flat_map f (records d w s) ++ drop (length s / w * w) s ≡ s
  unfolding records
  records-back s p = ap (λ (l : List ℕ). l ++ drop (length s / w * w) s) (chunks-back (length s / w) s p (div-mul-le_self (length s) w)) ∙ take-append-drop (length s / w * w) s

  -- a buffer with other records in front is those records laid over what it was
  pub same-done : (before after : List ℕ) (xs : List A) → Same w before after → P before → P after → length xs ≤ length before / w → records d w after ≡ xs ++ drop (length xs) (records d w before) → after ≡ put (flat_map f xs) 0 before
  unfolding put
  same-done before after xs s p q h e =
      let n : ℕ = length before / w * w in
      let t : List ℕ = drop n before in
      let l : length (flat_map f xs) ≡ length xs * w = parts_length f w wide xs in
      let r : List A = drop (length xs) (records d w before) in
      sym (records-back after q)
      ∙ ap₂ (λ (a : List A) (b : List ℕ). flat_map f a ++ b) e (rw s.long s.rest)
      ∙ ap (λ (a : List ℕ). a ++ t) (flat_append f xs r)
      ∙ append_assoc (flat_map f xs) (flat_map f r) t
      ∙ ap (λ (a : List ℕ). flat_map f xs ++ a) (sym (rw (zero-add, l) (ap (drop (length xs * w)) (sym (records-back before p)) ∙ flat_drop f w wide (length xs) (records d w before) t (omega (arith, records-length d w before)))))

-- ---- elements moved to the front: those from n on are still as they were

module _ {A : Type 0} (xs ys : List A) (n : ℕ) (same : drop n xs ≡ drop n ys) where
  pub behind-at : (i : ℕ) (e : A) → n ≤ i → get_or xs i e ≡ get_or ys i e
  behind-at i e h =
      let m : n + (i - n) ≡ i = omega arith in
      rw m at (sym (get_or-drop n xs (i - n) e) ∙ ap (λ (l : List A). get_or l (i - n) e) same ∙ get_or-drop n ys (i - n) e)

  pub behind_more : (a : A) → drop (n + 1) (set xs n a) ≡ drop (n + 1) ys
  behind_more a = drop-set-lt (n + 1) xs n a (omega arith) ∙ sym (drop-drop 1 n xs) ∙ ap (drop 1) same ∙ drop-drop 1 n ys

pub front-more : {A : Type 0} (xs : List A) (n : ℕ) (a : A) → n < length xs → take (n + 1) (set xs n a) ≡ take n xs ++ a ∷ []
front-more xs n a h = rw add-one (take-suc-set xs n a h)

-- an element in its place, before those behind it
pub drop-set : {A : Type 0} (xs : List A) (n : ℕ) (a : A) → n < length xs → drop n (set xs n a) ≡ a ∷ drop (suc n) xs
drop-set xs n a h =
    let l : length (set xs n a) ≡ length xs = length-set xs n a in
    drop-cons (set xs n a) n a (omega arith) ∙ ap₂ (λ (x : _) (l : List _). x ∷ l) (get_or-set_same xs n a a h) (drop-set-lt (suc n) xs n a (omega arith))

pub same_then : (w : ℕ) (a b c : List ℕ) → Same w a b → Same w b c → Same w a c
same_then w a b c s t =
    let e = s.long in
    record { long = t.long ∙ s.long; rest = rw s.long at t.rest ∙ s.rest }
