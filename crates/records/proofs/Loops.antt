-- One law of loops over the records of a list. Assumes nothing.
use mathlib.Core.Path.{◌≡◌, refl, ap, ◌∙◌, sym}
use mathlib.Core.Bool.{Bool, true, false, cond}
use mathlib.Core.List.{List, [], ◌∷◌}
use Prim.Native.Nat.{ℕ, zero, suc, ◌+◌, ◌-◌, ◌*◌, ◌/◌, ◌<◌, ◌≤◌}
use native.Mathlib.Omega.{arith}
use native.Mathlib.Nat.{add-zero, add_comm, add_assoc, suc-mul, sub-zero, add-mul, one-mul, zero-mul, mul-one}
use native.Mathlib.Numerals.{add-one}
use lib.ListN.{length, get_or, drop, drop_of_length-le}
use lib.Seq.{drop-cons, drop-drop, get_or-drop}
use Rattle.records.specs.Records.{chunks, records}
use Rattle.records.specs.Select.{count}
use Rattle.records.specs.Stages.{first, stage}
use Rattle.records.specs.Raw.{sieve}
use Rattle.records.proofs.Tests.{first_stop, first_go}

module _ {A : Type 0} (d : List ℕ → A) (w : ℕ) where
  -- of n records those from i on
  unfoldable pub rest : List ℕ → ℕ → ℕ → List A
  rest s n i = chunks d w (n - i) (drop (i * w) s)

  pub rest_all : (s : List ℕ) → rest s (length s / w) 0 ≡ records d w s
  unfolding rest records
  rest_all s = rw (sub-zero, zero-mul) refl

  pub rest_cons : (s : List ℕ) (n i : ℕ) → i < n → rest s n i ≡ d (drop (i * w) s) ∷ rest s n (i + 1)
  unfolding rest chunks
  rest_cons s n i h =
      let e : n - i ≡ suc (n - (i + 1)) = omega arith in
      let m : (i + 1) * w ≡ i * w + w = rw (add-mul, one-mul) refl in
      rw (e, drop-drop w (i * w) s, m) refl

  pub rest_nil : (s : List ℕ) (n i : ℕ) → n ≤ i → rest s n i ≡ []
  unfolding rest chunks
  rest_nil s n i h =
      let e : n - i ≡ 0 = omega arith in
      rw e refl

  -- how many records there are, and which
  pub chunks-length : (n : ℕ) (s : List ℕ) → length (chunks d w n s) ≡ n
  unfolding chunks
  chunks-length zero s = refl
  chunks-length (suc n) s = ap suc (chunks-length n (drop w s))

  pub chunks-at : (n : ℕ) (s : List ℕ) (k : ℕ) (e : A) → k < n → get_or (chunks d w n s) k e ≡ d (drop (k * w) s)
  unfolding chunks
  chunks-at zero s k e h = absurd (omega arith)
  chunks-at (suc n) s zero e h = rw zero-mul refl
  chunks-at (suc n) s (suc k) e h =
      let m : w + k * w ≡ suc k * w = add_comm w (k * w) ∙ sym (suc-mul k w) in
      chunks-at n (drop w s) k e (omega arith) ∙ rw (drop-drop (k * w) w s, m) refl

  -- of all records: how many, which, and those from number i on
  pub records-length : (s : List ℕ) → length (records d w s) ≡ length s / w
  unfolding records
  records-length s = chunks-length (length s / w) s

  pub records-at : (s : List ℕ) (k : ℕ) (e : A) → k < length s / w → get_or (records d w s) k e ≡ d (drop (k * w) s)
  unfolding records
  records-at s k e h = chunks-at (length s / w) s k e h

  pub records_cons : (s : List ℕ) (i : ℕ) → i < length s / w → drop i (records d w s) ≡ d (drop (i * w) s) ∷ drop (i + 1) (records d w s)
  records_cons s i h =
      let l : i < length (records d w s) = omega (arith, records-length s) in
      rw (add-one, drop-cons (records d w s) i (d s) l, records-at s i (d s) h) refl

  pub records_nil : (s : List ℕ) (i : ℕ) → length s / w ≤ i → drop i (records d w s) ≡ []
  records_nil s i h = drop_of_length-le (records d w s) {i = i} (omega (arith, records-length s))

  -- a turn of a loop that stops at the first refusal, from what the turn's calls ensure, and its end
  module _ (f : A → ℕ) (s : List ℕ) (n i : ℕ) (r : A) (x : ℕ) (h : i < n) (e : r ≡ d (drop (i * w) s)) (p : x ≡ f r) where
    stage_cons : stage f (rest s n i) ≡ first x (stage f (rest s n (i + 1)))
    unfolding stage
    stage_cons = rw (rest_cons s n i h, ← e, ← p) refl

    pub stage-turn : x ≡ 0 → stage f (rest s n (i + 1)) ≡ stage f (rest s n i)
    stage-turn z = sym (stage_cons ∙ first_go x _ z)

    pub stage_stop : (x ≡ 0 → ⊥) → x ≡ stage f (rest s n i)
    stage_stop z = first_stop x _ z ∙ sym stage_cons

  pub stage-done : (f : A → ℕ) (s : List ℕ) (n i : ℕ) → n ≤ i → 0 ≡ stage f (rest s n i)
  unfolding stage
  stage-done f s n i h = rw (rest_nil s n i h) refl

  -- the same with a state; b is the state that the turn leaves
  module _ {S : Type 0} (f : S → A → ℕ) (g : S → A → S) (s : List ℕ) (n i : ℕ) (a : S) (r : A) (x : ℕ) (h : i < n) (e : r ≡ d (drop (i * w) s)) (p : x ≡ f a r) where
    sieve_cons : sieve f g a (rest s n i) ≡ first x (sieve f g (g a r) (rest s n (i + 1)))
    unfolding sieve
    sieve_cons = rw (rest_cons s n i h, ← e, ← p) refl

    pub sieve-turn : (b : S) → b ≡ g a r → x ≡ 0 → sieve f g b (rest s n (i + 1)) ≡ sieve f g a (rest s n i)
    sieve-turn b q z = rw q (sym (sieve_cons ∙ first_go x _ z))

    pub sieve_stop : (x ≡ 0 → ⊥) → x ≡ sieve f g a (rest s n i)
    sieve_stop z = first_stop x _ z ∙ sym sieve_cons

  pub sieve-done : {S : Type 0} (f : S → A → ℕ) (g : S → A → S) (s : List ℕ) (n i : ℕ) (a : S) → n ≤ i → 0 ≡ sieve f g a (rest s n i)
  unfolding sieve
  sieve-done f g s n i a h = rw (rest_nil s n i h) refl

  -- a turn of a loop that counts, and its end
  pub count_turn :
      (p : A → Bool) (s : List ℕ) (n i : ℕ) (r : A) (b : Bool) (k m : ℕ)
      → i < n
      → r ≡ d (drop (i * w) s)
      → b ≡ p r
      → m ≡ k + cond b 1 0
      → m + count p (rest s n (i + 1)) ≡ k + count p (rest s n i)
  unfolding count
  count_turn p s n i r b k m h e q z = rw (z, rest_cons s n i h, ← e, ← q) (add_assoc k _ _)

  pub count-done : (p : A → Bool) (s : List ℕ) (n i k : ℕ) → n ≤ i → k ≡ k + count p (rest s n i)
  unfolding count
  count-done p s n i k h = rw (rest_nil s n i h) (sym (add-zero k))

-- a count grows by one at most in a turn
pub one_more : (b : Bool) (n m j : ℕ) → m ≡ n + cond b 1 0 → n ≤ j → m ≤ j + 1
one_more true n m j e h = omega arith
one_more false n m j e h = omega arith

-- ---- a list of plain numbers: records of width 1

abbrev pub head : List ℕ → ℕ
head s = get_or s 0 0

chunks-ones : (s : List ℕ) → chunks head 1 (length s) s ≡ s
unfolding chunks
chunks-ones [] = refl
chunks-ones (x ∷ s) = ap (λ (t : List ℕ). x ∷ t) (chunks-ones s)

pub rest-ones : (s : List ℕ) → rest head 1 s (length s) 0 ≡ s
unfolding rest
rest-ones s = rw sub-zero (chunks-ones s)

pub head_at : (s : List ℕ) (i : ℕ) → get_or s i 0 ≡ head (drop (i * 1) s)
head_at s i = rw (mul-one, get_or-drop, add-zero) refl
