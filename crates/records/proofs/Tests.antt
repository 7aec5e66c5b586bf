-- The laws of tests and stages. Assumes nothing.
use mathlib.Core.Path.{◌≡◌, refl, ap, ◌∙◌, sym}
use mathlib.Core.Bool.{Bool, true, false, cond, ◌&&◌, ◌||◌, not, false≢true}
use mathlib.Core.List.{List, [], ◌∷◌, map}
use mathlib.Core.Logic.{◌⊎◌, inl, inr}
use Prim.Native.Nat.{ℕ, zero, suc, ◌+◌, ◌-◌, ◌<◌, ◌≤◌}
use native.Mathlib.Omega.{arith}
use lib.Dec.{leb, ltb}
use lib.ListN.{length, get_or}
use borrow.Author.Tests.{ltb-true, leb-true, leb-false, not-true, le-leb, lt-ltb, lt-leb}
use Rattle.records.specs.Select.{keep}
use Rattle.records.specs.Stages.{whenever, unless, first, first_of, stage, every, pairs}

-- ---- truth values

pub both : (a b : Bool) → a ≡ true → b ≡ true → (a && b) ≡ true
both a b p q = rw (p, q) refl

pub both_left : (a b : Bool) → (a && b) ≡ true → a ≡ true
both_left true b h = refl
both_left false b h = absurd (false≢true h)

pub both_right : (a b : Bool) → (a && b) ≡ true → b ≡ true
both_right true b h = h
both_right false b h = absurd (false≢true h)

pub either : (a b : Bool) → (a || b) ≡ true → (a ≡ true) ⊎ (b ≡ true)
either true b h = inl refl
either false b h = inr h

pub either_left : (a b : Bool) → a ≡ true → (a || b) ≡ true
either_left a b p = rw p refl

pub either_right : (a b : Bool) → b ≡ true → (a || b) ≡ true
either_right true b p = refl
either_right false b p = p

-- "unless m, t" as an implication
pub implied : (m t : Bool) → (not m || t) ≡ true → m ≡ true → t ≡ true
implied m t h e = rw e at h

pub imply : (m t : Bool) → (m ≡ true → t ≡ true) → (not m || t) ≡ true
imply true t f = f refl
imply false t f = refl

-- two tests that hold together are one
pub same : (a b : Bool) → (a ≡ true → b ≡ true) → (b ≡ true → a ≡ true) → a ≡ b
same true b f g = sym (f refl)
same false true f g = absurd (false≢true (g refl))
same false false f g = refl

-- what does not hold is false
pub never : (b : Bool) → (b ≡ true → ⊥) → b ≡ false
never true f = absurd (f refl)
never false f = refl

-- what a branch answers, where b is the test in code and p the one that is meant
module _ {A : Type 0} (b p : Bool) (x y : A) (e : b ≡ p) where
  pub cond_yes : b ≡ true → x ≡ cond p x y
  cond_yes h = rw (sym e ∙ h) refl

  pub cond_no : b ≡ false → y ≡ cond p x y
  cond_no h = rw (sym e ∙ h) refl

-- not at most is past
pub not-leb : (a b : ℕ) → not (leb a b) ≡ ltb b a
not-leb a b =
    same (not (leb a b)) (ltb b a) (λ h. lt-ltb b a (leb-false a b (not-true (leb a b) h))) (λ h. rw (lt-leb a b (ltb-true b a h)) refl)

-- a sum against a limit, without the sum
pub leb_sub : (a b m : ℕ) → a ≤ m → leb b (m - a) ≡ leb (a + b) m
leb_sub a b m h =
    same (leb b (m - a)) (leb (a + b) m)
    (λ e. let p = leb-true b (m - a) e in le-leb (a + b) m (omega arith))
    (λ e. let p = leb-true (a + b) m e in le-leb b (m - a) (omega arith))

-- "fits 64 bits" is "at most 2^64 - 1"
pub ltb-suc : (a m : ℕ) → ltb a (m + 1) ≡ leb a m
ltb-suc a m =
    same (ltb a (m + 1)) (leb a m)
    (λ e. let p = ltb-true a (m + 1) e in le-leb a m (omega arith))
    (λ e. let p = leb-true a m e in lt-ltb a (m + 1) (omega arith))

-- ---- stages

pub first_stop : (x y : ℕ) → (x ≡ 0 → ⊥) → x ≡ first x y
unfolding first
first_stop zero y h = absurd (h refl)
first_stop (suc x) y h = refl

pub first_go : (x y : ℕ) → x ≡ 0 → first x y ≡ y
unfolding first
first_go x y h = rw h refl

pub first_last : (x : ℕ) → first x 0 ≡ x
unfolding first
first_last zero = refl
first_last (suc x) = refl

pub first_assoc : (x y z : ℕ) → first (first x y) z ≡ first x (first y z)
unfolding first
first_assoc zero y z = refl
first_assoc (suc x) y z = refl

-- accepted: neither refuses
pub first-zero : (x y : ℕ) → first x y ≡ 0 → (x ≡ 0) × (y ≡ 0)
unfolding first
first-zero zero y h = (refl, h)
first-zero (suc x) y h = absurd (omega arith)

-- no stage refuses
abbrev pub Zeros : List ℕ → Type 0
Zeros [] = Unit {0}
Zeros (x ∷ xs) = (x ≡ 0) × Zeros xs

pub first_of_zero : (xs : List ℕ) → first_of xs ≡ 0 → Zeros xs
unfolding first_of
first_of_zero [] h = tt
first_of_zero (x ∷ xs) h = let p = first-zero x (first_of xs) h in (p.0, first_of_zero xs p.1)

pub whenever-zero : (b : Bool) (n : ℕ) → whenever b n ≡ 0 → (n ≡ 0 → ⊥) → b ≡ false
whenever-zero true n h p = absurd (p h)
whenever-zero false n h p = refl

pub unless-zero : (b : Bool) (n : ℕ) → unless b n ≡ 0 → (n ≡ 0 → ⊥) → b ≡ true
unless-zero true n h p = refl
unless-zero false n h p = absurd (p h)

-- two tests with one number
pub first-unless : (a b : Bool) (n : ℕ) → (n ≡ 0 → ⊥) → first (unless a n) (unless b n) ≡ unless (a && b) n
first-unless true b n h = first_go 0 _ refl
first-unless false b n h = sym (first_stop n _ h)

module _ {A : Type 0} where
  -- record by record with one number: whether every record passes
  pub stage-every : (p : A → Bool) (n : ℕ) → (n ≡ 0 → ⊥) → (rs : List A) → stage (λ (r : A). unless (p r) n) rs ≡ unless (every p rs) n
  unfolding stage every
  stage-every p n h [] = refl
  stage-every p n h (r ∷ rs) = ap (first (unless (p r) n)) (stage-every p n h rs) ∙ first-unless (p r) (every p rs) n h

  -- accepted: each record is
  pub stage-zero : (f : A → ℕ) (r : A) (rs : List A) → stage f (r ∷ rs) ≡ 0 → (f r ≡ 0) × (stage f rs ≡ 0)
  unfolding stage
  stage-zero f r rs h = first-zero (f r) (stage f rs) h

  pub every-at : (p : A → Bool) (rs : List A) → every p rs ≡ true → (i : ℕ) (e : A) → i < length rs → p (get_or rs i e) ≡ true
  unfolding every
  every-at p [] h i e l = absurd (omega arith)
  every-at p (r ∷ rs) h zero e l = both_left (p r) (every p rs) h
  every-at p (r ∷ rs) h (suc i) e l = every-at p rs (both_right (p r) (every p rs) h) i e (omega arith)

  pub pairs-at : (p : A → A → Bool) (rs : List A) → pairs p rs ≡ true → (i j : ℕ) (e : A) → i < j → j < length rs → p (get_or rs i e) (get_or rs j e) ≡ true
  unfolding pairs
  pairs-at p [] h i j e l m = absurd (omega arith)
  pairs-at p (r ∷ rs) h zero zero e l m = absurd (omega arith)
  pairs-at p (r ∷ rs) h (suc i) zero e l m = absurd (omega arith)
  pairs-at p (r ∷ rs) h zero (suc j) e l m = every-at (p r) rs (both_left (every (p r) rs) (pairs p rs) h) j e (omega arith)
  pairs-at p (r ∷ rs) h (suc i) (suc j) e l m = pairs-at p rs (both_right (every (p r) rs) (pairs p rs) h) i j e (omega arith) (omega arith)

  -- what implies a test for each record implies it for all
  pub every_map : (p q : A → Bool) → ((r : A) → p r ≡ true → q r ≡ true) → (rs : List A) → every p rs ≡ true → every q rs ≡ true
  unfolding every
  every_map p q f [] h = refl
  every_map p q f (r ∷ rs) h = both (q r) (every q rs) (f r (both_left (p r) (every p rs) h)) (every_map p q f rs (both_right (p r) (every p rs) h))

  -- every record passes both of two tests
  pub every_both : (p q : A → Bool) (rs : List A) → every p rs ≡ true → every q rs ≡ true → every (λ (r : A). p r && q r) rs ≡ true
  unfolding every
  every_both p q [] h k = refl
  every_both p q (r ∷ rs) h k =
      both (p r && q r) (every (λ (r : A). p r && q r) rs)
      (both (p r) (q r) (both_left (p r) (every p rs) h) (both_left (q r) (every q rs) k))
      (every_both p q rs (both_right (p r) (every p rs) h) (both_right (q r) (every q rs) k))

-- every two pass both of two tests
pub pairs_both : {A : Type 0} (p q : A → A → Bool) (l : List A) → pairs p l ≡ true → pairs q l ≡ true → pairs (λ (a c : A). p a c && q a c) l ≡ true
unfolding pairs
pairs_both p q [] h k = refl
pairs_both p q (a ∷ l) h k =
    both (every (λ c. p a c && q a c) l) (pairs (λ a c. p a c && q a c) l)
    (every_both (p a) (q a) l (both_left (every (p a) l) (pairs p l) h) (both_left (every (q a) l) (pairs q l) k))
    (pairs_both p q l (both_right (every (p a) l) (pairs p l) h) (both_right (every (q a) l) (pairs q l) k))

-- of what passes, what is picked passes
pub every-keep : {A : Type 0} (p pick : A → Bool) (l : List A) → every p l ≡ true → every p (keep pick l) ≡ true
unfolding every keep
every-keep p pick [] h = refl
every-keep p pick (a ∷ l) h = go (pick a) (every-keep p pick l (both_right (p a) (every p l) h))
  where
    go : (b : Bool) → every p (keep pick l) ≡ true → every p (cond b (a ∷ keep pick l) (keep pick l)) ≡ true
    go true ih = both (p a) (every p (keep pick l)) (both_left (p a) (every p l) h) ih
    go false ih = ih

-- and every two of it
pub pairs-keep : {A : Type 0} (p : A → A → Bool) (pick : A → Bool) (l : List A) → pairs p l ≡ true → pairs p (keep pick l) ≡ true
unfolding pairs keep
pairs-keep p pick [] h = refl
pairs-keep p pick (a ∷ l) h = go (pick a) (pairs-keep p pick l (both_right (every (p a) l) (pairs p l) h))
  where
    go : (b : Bool) → pairs p (keep pick l) ≡ true → pairs p (cond b (a ∷ keep pick l) (keep pick l)) ≡ true
    go true ih = both (every (p a) (keep pick l)) (pairs p (keep pick l)) (every-keep (p a) pick l (both_left (every (p a) l) (pairs p l) h)) ih
    go false ih = ih

-- ---- picked and changed

-- what is picked by a test and changed passes another, if it does so one by one
pub every_picked : {A B : Type 0} (u pick : A → Bool) (t : A → B) (q : B → Bool) → ((a : A) → u a ≡ true → pick a ≡ true → q (t a) ≡ true) → (l : List A) → every u l ≡ true → every q (map t (keep pick l)) ≡ true
unfolding every keep
every_picked u pick t q f [] h = refl
every_picked u pick t q f (a ∷ l) h = go (pick a) refl (every_picked u pick t q f l (both_right (u a) (every u l) h))
  where
    go : (b : Bool) → pick a ≡ b → every q (map t (keep pick l)) ≡ true → every q (map t (cond b (a ∷ keep pick l) (keep pick l))) ≡ true
    go true e ih = both (q (t a)) (every q (map t (keep pick l))) (f a (both_left (u a) (every u l) h) e) ih
    go false e ih = ih

-- and every two of them
pub pairs-picked :
    {A B : Type 0} (u pick : A → Bool) (r : A → A → Bool) (t : A → B) (q : B → B → Bool)
    → ((a c : A) → u a ≡ true → u c ≡ true → pick a ≡ true → pick c ≡ true → r a c ≡ true → q (t a) (t c) ≡ true)
    → (l : List A) → every u l ≡ true → pairs r l ≡ true → pairs q (map t (keep pick l)) ≡ true
unfolding every pairs keep
pairs-picked u pick r t q f [] h k = refl
pairs-picked u pick r t q f (a ∷ l) h k = go (pick a) refl (pairs-picked u pick r t q f l ul (both_right (every (r a) l) (pairs r l) k))
  where
    ua : u a ≡ true
    ua = both_left (u a) (every u l) h

    ul : every u l ≡ true
    ul = both_right (u a) (every u l) h

    go : (b : Bool) → pick a ≡ b → pairs q (map t (keep pick l)) ≡ true → pairs q (map t (cond b (a ∷ keep pick l) (keep pick l))) ≡ true
    go true e ih =
        both (every (q (t a)) (map t (keep pick l))) (pairs q (map t (keep pick l)))
        (every_picked (λ c. u c && r a c) pick t (q (t a)) (λ c v p. f a c ua (both_left (u c) (r a c) v) e p (both_right (u c) (r a c) v)) l (every_both u (r a) l ul (both_left (every (r a) l) (pairs r l) k)))
        ih
    go false e ih = ih
