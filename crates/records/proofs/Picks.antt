-- Laws of what is picked from lists. Assumes nothing.
use mathlib.Core.Path.{◌≡◌, refl, ap, ◌∙◌, sym}
use mathlib.Core.Bool.{Bool, true, false, cond, ◌&&◌, not, false≢true}
use mathlib.Core.List.{List, [], ◌∷◌, ◌++◌, map, flat_map}
use Prim.Native.Nat.{ℕ, suc, ◌+◌, ◌≤◌}
use native.Mathlib.Omega.{arith}
use lib.ListN.{length}
use Rattle.records.specs.Select.{only, keep}
use Rattle.records.specs.Stages.{first, stage, every}
use Rattle.records.proofs.Tests.{both, both_left, both_right, first_go}
use Rattle.records.proofs.Lists.{every_true}

module _ {A : Type 0} where
  -- where all pass all are kept, where none passes none is
  pub keep_all : (p : A → Bool) (l : List A) → every p l ≡ true → keep p l ≡ l
  unfolding every keep
  keep_all p [] h = refl
  keep_all p (a ∷ l) h = rw (both_left (p a) (every p l) h, keep_all p l (both_right (p a) (every p l) h)) refl

  pub keep-none : (p : A → Bool) (l : List A) → every (λ (a : A). not (p a)) l ≡ true → keep p l ≡ []
  unfolding every keep
  keep-none p [] h = refl
  keep-none p (a ∷ l) h = go (p a) h (keep-none p l)
    where
      go : (b : Bool) → (not b && every (λ a. not (p a)) l) ≡ true → (every (λ a. not (p a)) l ≡ true → keep p l ≡ []) → cond b (a ∷ keep p l) (keep p l) ≡ []
      go true h f = absurd (false≢true h)
      go false h f = f h

  pub keep_append : (p : A → Bool) (l m : List A) → keep p (l ++ m) ≡ keep p l ++ keep p m
  unfolding keep
  keep_append p [] m = refl
  keep_append p (a ∷ l) m = go (p a) (keep_append p l m)
    where
      go : (b : Bool) → keep p (l ++ m) ≡ keep p l ++ keep p m → cond b (a ∷ keep p (l ++ m)) (keep p (l ++ m)) ≡ cond b (a ∷ keep p l) (keep p l) ++ keep p m
      go true e = ap (λ (t : List A). a ∷ t) e
      go false e = e

  pub keep-mapped : {B : Type 0} (p : B → Bool) (t : A → B) (l : List A) → keep p (map t l) ≡ map t (keep (λ (a : A). p (t a)) l)
  unfolding keep
  keep-mapped p t [] = refl
  keep-mapped p t (a ∷ l) = go (p (t a)) (keep-mapped p t l)
    where
      go : (b : Bool) → keep p (map t l) ≡ map t (keep (λ a. p (t a)) l) → cond b (t a ∷ keep p (map t l)) (keep p (map t l)) ≡ map t (cond b (a ∷ keep (λ a. p (t a)) l) (keep (λ a. p (t a)) l))
      go true e = ap (λ (m : List _). t a ∷ m) e
      go false e = e

  -- two tests that are alike where a third holds pick alike
  pub keep_where : (u p q : A → Bool) → ((a : A) → u a ≡ true → p a ≡ q a) → (l : List A) → every u l ≡ true → keep p l ≡ keep q l
  unfolding keep every
  keep_where u p q f [] h = refl
  keep_where u p q f (a ∷ l) h = rw (f a (both_left (u a) (every u l) h), keep_where u p q f l (both_right (u a) (every u l) h)) refl

  pub keep_same : (p q : A → Bool) → ((a : A) → p a ≡ q a) → (l : List A) → keep p l ≡ keep q l
  keep_same p q h l = keep_where (λ a. true) p q (λ a e. h a) l (every_true l)

  -- picked twice
  pub keep-keep : (p q : A → Bool) (l : List A) → keep p (keep q l) ≡ keep (λ (a : A). q a && p a) l
  unfolding keep
  keep-keep p q [] = refl
  keep-keep p q (a ∷ l) = go (q a) (keep-keep p q l)
    where
      go : (b : Bool) → keep p (keep q l) ≡ keep (λ a. q a && p a) l → keep p (cond b (a ∷ keep q l) (keep q l)) ≡ cond (b && p a) (a ∷ keep (λ a. q a && p a) l) (keep (λ a. q a && p a) l)
      go true e = rw e refl
      go false e = e

  -- what is kept passes
  pub every-kept : (p : A → Bool) (l : List A) → every p (keep p l) ≡ true
  unfolding keep every
  every-kept p [] = refl
  every-kept p (a ∷ l) = go (p a) refl (every-kept p l)
    where
      go : (b : Bool) → p a ≡ b → every p (keep p l) ≡ true → every p (cond b (a ∷ keep p l) (keep p l)) ≡ true
      go true e ih = both (p a) (every p (keep p l)) e ih
      go false e ih = ih

  -- how many there are
  pub keep_two : (p : A → Bool) (l : List A) → length (keep p l) + length (keep (λ (a : A). not (p a)) l) ≡ length l
  unfolding keep
  keep_two p [] = refl
  keep_two p (a ∷ l) = go (p a) (keep_two p l)
    where
      go : (b : Bool) → length (keep p l) + length (keep (λ a. not (p a)) l) ≡ length l → length (cond b (a ∷ keep p l) (keep p l)) + length (cond (not b) (a ∷ keep (λ a. not (p a)) l) (keep (λ a. not (p a)) l)) ≡ suc (length l)
      go true e = omega arith
      go false e = omega arith

  pub only-few : (b : Bool) (a : A) → length (only b a) ≤ 1
  only-few true a = omega arith
  only-few false a = omega arith

pub length-only : {A B : Type 0} (b : Bool) (x : A) (y : B) → length (only b x) ≡ length (only b y)
length-only true x y = refl
length-only false x y = refl

-- a stage over what is kept and changed is a stage over all
pub stage-kept : {A B : Type 0} (p : A → Bool) (t : A → B) (f : B → ℕ) (l : List A) → stage f (map t (keep p l)) ≡ stage (λ (a : A). cond (p a) (f (t a)) 0) l
unfolding stage keep
stage-kept p t f [] = refl
stage-kept p t f (a ∷ l) = go (p a) (stage-kept p t f l)
  where
    s : ℕ
    s = stage (λ (a : _). cond (p a) (f (t a)) 0) l

    go : (b : Bool) → stage f (map t (keep p l)) ≡ s → stage f (map t (cond b (a ∷ keep p l) (keep p l))) ≡ first (cond b (f (t a)) 0) s
    go true e = ap (first (f (t a))) e
    go false e = e ∙ sym (first_go 0 s refl)

-- and what is kept, changed and kept is one or none for each
pub kept_flat : {A B : Type 0} (p : A → Bool) (t : A → B) (q : B → Bool) (l : List A) → keep q (map t (keep p l)) ≡ flat_map (λ (a : A). only (p a && q (t a)) (t a)) l
unfolding keep flat_map
kept_flat p t q [] = refl
kept_flat p t q (a ∷ l) = go (p a) (q (t a)) refl (kept_flat p t q l)
  where
    go : (b d : Bool) → q (t a) ≡ d → keep q (map t (keep p l)) ≡ flat_map (λ a. only (p a && q (t a)) (t a)) l → keep q (map t (cond b (a ∷ keep p l) (keep p l))) ≡ only (b && d) (t a) ++ flat_map (λ a. only (p a && q (t a)) (t a)) l
    go true true e ih = rw e (ap (λ (m : List _). t a ∷ m) ih)
    go true false e ih = rw e ih
    go false d e ih = ih
