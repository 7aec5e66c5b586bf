-- Laws of counting in lists. Assumes nothing.
use mathlib.Core.Path.{◌≡◌, refl, ap, sym}
use mathlib.Core.Bool.{Bool, true, false, cond, ◌&&◌, ◌||◌, not, false≢true}
use mathlib.Core.List.{List, [], ◌∷◌, ◌++◌, map, Memᴰ}
use Prim.Native.Nat.{ℕ, zero, suc, ◌+◌, ◌<◌, ◌≤◌}
use native.Mathlib.Omega.{arith}
use lib.ListN.{length, get_or}
use borrow.Author.Tests.{not-true}
use Rattle.records.specs.Stages.{every}
use Rattle.records.specs.Select.{keep, any, count}
use Rattle.records.proofs.Tests.{both_left, both_right}

module _ {A : Type 0} where
  -- of two lists
  pub count_append : (p : A → Bool) (l m : List A) → count p (l ++ m) ≡ count p l + count p m
  unfolding count
  count_append p [] m = omega arith
  count_append p (a ∷ l) m = omega (arith, count_append p l m)

  -- of a list changed one by one
  pub count_map : {B : Type 0} (p : A → Bool) (g : B → A) (l : List B) → count p (map g l) ≡ count (λ (b : B). p (g b)) l
  unfolding count
  count_map p g [] = refl
  count_map p g (b ∷ l) = ap (λ (n : ℕ). cond (p (g b)) 1 0 + n) (count_map p g l)

  -- those kept by q that pass p
  pub count-keep : (p q : A → Bool) (l : List A) → count p (keep q l) ≡ count (λ (a : A). q a && p a) l
  unfolding count keep
  count-keep p q [] = refl
  count-keep p q (a ∷ l) = go (q a) (count-keep p q l)
    where
      go : (b : Bool) → count p (keep q l) ≡ count (λ (a : A). q a && p a) l → count p (cond b (a ∷ keep q l) (keep q l)) ≡ cond (b && p a) 1 0 + count (λ (a : A). q a && p a) l
      go true h = omega arith
      go false h = omega arith

  -- at most all
  pub count-length : (p : A → Bool) (l : List A) → count p l ≤ length l
  unfolding count
  count-length p [] = omega arith
  count-length p (a ∷ l) = go (p a) (count-length p l)
    where
      go : (b : Bool) → count p l ≤ length l → cond b 1 0 + count p l ≤ length (a ∷ l)
      go true h = omega arith
      go false h = omega arith

  -- none passes
  pub count_none : (p : A → Bool) (l : List A) → every (λ (a : A). not (p a)) l ≡ true → count p l ≡ 0
  unfolding count every
  count_none p [] h = refl
  count_none p (a ∷ l) h =
      let e : p a ≡ false = not-true (p a) (both_left (not (p a)) (every (λ (a : A). not (p a)) l) h) in
      rw e (omega (arith, count_none p l (both_right (not (p a)) (every (λ (a : A). not (p a)) l) h)))

  -- two tests that are equal everywhere
  pub count_same : (p q : A → Bool) → ((a : A) → p a ≡ q a) → (l : List A) → count p l ≡ count q l
  unfolding count
  count_same p q h [] = refl
  count_same p q h (a ∷ l) = rw (h a) (ap (λ (n : ℕ). cond (q a) 1 0 + n) (count_same p q h l))

  -- two tests that are equal where another holds
  pub count_where : (u p q : A → Bool) → ((a : A) → u a ≡ true → p a ≡ q a) → (l : List A) → every u l ≡ true → count p l ≡ count q l
  unfolding count every
  count_where u p q f [] h = refl
  count_where u p q f (a ∷ l) h = rw (f a (both_left (u a) (every u l) h)) (ap (λ (n : ℕ). cond (q a) 1 0 + n) (count_where u p q f l (both_right (u a) (every u l) h)))

  -- two tests of which no more than one holds, and a third with either
  pub count-apart : (u p q r : A → Bool) → ((a : A) → u a ≡ true → cond (p a) 1 0 + cond (q a) 1 0 ≤ cond (r a) 1 0) → (l : List A) → every u l ≡ true → count p l + count q l ≤ count r l
  unfolding count every
  count-apart u p q r f [] h = omega arith
  count-apart u p q r f (a ∷ l) h =
      let x = f a (both_left (u a) (every u l) h) in
      let y = count-apart u p q r f l (both_right (u a) (every u l) h) in
      omega arith

  -- some pass: one does
  pub count-any : (p : A → Bool) (l : List A) → 0 < count p l → any p l ≡ true
  unfolding count any
  count-any p [] h = absurd (omega arith)
  count-any p (a ∷ l) h = go (p a) (count-any p l) h
    where
      go : (b : Bool) → (0 < count p l → any p l ≡ true) → 0 < cond b 1 0 + count p l → (b || any p l) ≡ true
      go true f h = refl
      go false f h = f (omega arith)

  -- one passes: some do
  pub any-count : (p : A → Bool) (l : List A) → any p l ≡ true → 0 < count p l
  unfolding count any
  any-count p [] h = absurd (false≢true h)
  any-count p (a ∷ l) h = go (p a) (any-count p l) h
    where
      go : (b : Bool) → (any p l ≡ true → 0 < count p l) → (b || any p l) ≡ true → 0 < cond b 1 0 + count p l
      go true f h = omega arith
      go false f h = omega (arith, f h)

  -- what implies a test: at most as many pass
  pub count_most : (p q : A → Bool) → ((a : A) → p a ≡ true → q a ≡ true) → (l : List A) → count p l ≤ count q l
  unfolding count
  count_most p q h [] = omega arith
  count_most p q h (a ∷ l) = go (p a) refl (count_most p q h l)
    where
      go : (b : Bool) → p a ≡ b → count p l ≤ count q l → cond b 1 0 + count p l ≤ cond (q a) 1 0 + count q l
      go true e k = rw (h a e) (omega arith)
      go false e k = omega arith

  -- some pass: one of the list does
  pub count-some : (p : A → Bool) (l : List A) → 0 < count p l → (a : A) × Memᴰ a l × (p a ≡ true)
  unfolding count
  count-some p [] h = absurd (omega arith)
  count-some p (a ∷ l) h = go (p a) refl (count-some p l) h
    where
      go : (b : Bool) → p a ≡ b → (0 < count p l → (x : A) × Memᴰ x l × (p x ≡ true)) → 0 < cond b 1 0 + count p l → (x : A) × Memᴰ x (a ∷ l) × (p x ≡ true)
      go true e f h = (a, Memᴰ.head refl, e)
      go false e f h = let s = f (omega arith) in (s.0, Memᴰ.tail s.1, s.2)

  -- what is in a list has a number there
  pub mem_at : {a : A} {l : List A} → Memᴰ a l → (e : A) → (i : ℕ) × (i < length l) × (get_or l i e ≡ a)
  mem_at (Memᴰ.head h) e = (0, omega arith, sym h)
  mem_at (Memᴰ.tail m) e = let s = mem_at m e in (suc s.0, omega (arith, s.1), s.2)

  -- one that passes is counted
  pub at_count : (p : A → Bool) (l : List A) (i : ℕ) (e : A) → i < length l → p (get_or l i e) ≡ true → 0 < count p l
  unfolding count
  at_count p [] i e l h = absurd (omega arith)
  at_count p (a ∷ m) zero e l h = rw h (omega arith)
  at_count p (a ∷ m) (suc i) e l h = omega (arith, at_count p m i e (omega arith) h)

  -- none counted: none passes
  pub any_none : (p : A → Bool) (l : List A) → count p l ≡ 0 → any p l ≡ false
  any_none p l h = go (any p l) refl
    where
      go : (b : Bool) → any p l ≡ b → b ≡ false
      go true e = absurd (omega (arith, any-count p l e))
      go false e = refl

  -- as many as are kept
  pub keep-length : (p : A → Bool) (l : List A) → length (keep p l) ≡ count p l
  unfolding keep count
  keep-length p [] = refl
  keep-length p (a ∷ l) = go (p a) (keep-length p l)
    where
      go : (b : Bool) → length (keep p l) ≡ count p l → length (cond b (a ∷ keep p l) (keep p l)) ≡ cond b 1 0 + count p l
      go true h = omega arith
      go false h = omega arith

  -- two tests that are not passed together
  pub count_either : (p q t : A → Bool) → ((a : A) → p a ≡ true → q a ≡ false) → (l : List A)
      → count (λ (a : A). (p a || q a) && t a) l ≡ count (λ (a : A). p a && t a) l + count (λ (a : A). q a && t a) l
  unfolding count
  count_either p q t h [] = refl
  count_either p q t h (a ∷ l) = go (p a) refl (count_either p q t h l)
    where
      go : (b : Bool) → p a ≡ b → count (λ (a : A). (p a || q a) && t a) l ≡ count (λ (a : A). p a && t a) l + count (λ (a : A). q a && t a) l
          → cond ((b || q a) && t a) 1 0 + count (λ (a : A). (p a || q a) && t a) l ≡ (cond (b && t a) 1 0 + count (λ (a : A). p a && t a) l) + (cond (q a && t a) 1 0 + count (λ (a : A). q a && t a) l)
      go true e k = rw (h a e) (omega arith)
      go false e k = omega arith

  -- a test that all pass adds nothing
  pub count-given : (p t : A → Bool) (l : List A) → every p l ≡ true → count (λ (a : A). p a && t a) l ≡ count t l
  unfolding count every
  count-given p t [] h = refl
  count-given p t (a ∷ l) h = rw (both_left (p a) (every p l) h, count-given p t l (both_right (p a) (every p l) h)) refl

  -- a test that nothing passes
  pub count_never : (p : A → Bool) → ((a : A) → p a ≡ false) → (l : List A) → count p l ≡ 0
  unfolding count
  count_never p h [] = refl
  count_never p h (a ∷ l) = rw (h a) (omega (arith, count_never p h l))

  -- none fails: all pass
  pub none_fails : (p : A → Bool) (l : List A) → count (λ (a : A). not (p a)) l ≡ 0 → every p l ≡ true
  unfolding count every
  none_fails p [] h = refl
  none_fails p (a ∷ l) h = go (p a) (none_fails p l) h
    where
      go : (b : Bool) → (count (λ (a : A). not (p a)) l ≡ 0 → every p l ≡ true) → cond (not b) 1 0 + count (λ (a : A). not (p a)) l ≡ 0 → (b && every p l) ≡ true
      go true f h = f (omega arith)
      go false f h = absurd (omega arith)

  -- those that pass, with another test or without
  pub count-split : (b p : A → Bool) (l : List A) → count (λ (a : A). b a && p a) l + count (λ (a : A). not (b a) && p a) l ≡ count p l
  unfolding count
  count-split b p [] = refl
  count-split b p (a ∷ l) = go (b a) (count-split b p l)
    where
      go : (t : Bool) → count (λ a. b a && p a) l + count (λ a. not (b a) && p a) l ≡ count p l
          → (cond (t && p a) 1 0 + count (λ a. b a && p a) l) + (cond (not t && p a) 1 0 + count (λ a. not (b a) && p a) l) ≡ cond (p a) 1 0 + count p l
      go true h = omega arith
      go false h = omega arith

  -- one passes: that one of the list
  pub any-one : (p : A → Bool) (l : List A) → any p l ≡ true → (a : A) × Memᴰ a l × (p a ≡ true)
  any-one p l h = count-some p l (any-count p l h)
