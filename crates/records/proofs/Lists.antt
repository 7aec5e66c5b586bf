-- Laws of tests over lists: of all, of one, and of every two. Assumes nothing.
use mathlib.Core.Path.{◌≡◌, refl, ap, ◌∙◌, sym}
use mathlib.Core.Bool.{Bool, true, false, cond, ◌&&◌, ◌||◌, not, or-false, false≢true}
use mathlib.Core.List.{List, [], ◌∷◌, ◌++◌, map, flat_map, Memᴰ, append_assoc}
use mathlib.Core.Logic.{◌⊎◌, inl, inr}
use Prim.Native.Nat.{ℕ, zero, suc, ◌+◌, ◌*◌, ◌<◌, ◌≤◌}
use native.Mathlib.Omega.{arith}
use native.Mathlib.Nat.{zero-mul, suc-mul}
use lib.Dec.{eqb}
use lib.ListN.{length, get_or, take, drop, replicate, length-replicate}
use lib.Seq.{drop-append-add}
use borrow.Author.Tests.{eq-eqb}
use Rattle.records.specs.Stages.{first, stage, every, pairs}
use Rattle.records.specs.Select.{keep, any}
use Rattle.records.proofs.Tests.{both, both_left, both_right, either_left, either_right, stage-zero, first_go, first_assoc, every_map, every_both}

module _ {A : Type 0} where
  -- a test of all, of one of them
  pub every_mem : (p : A → Bool) {a : A} {l : List A} → Memᴰ a l → every p l ≡ true → p a ≡ true
  unfolding every
  every_mem p (Memᴰ.head {x = b} {xs = l} e) h = rw e (both_left (p b) (every p l) h)
  every_mem p (Memᴰ.tail {x = b} {xs = l} m) h = every_mem p m (both_right (p b) (every p l) h)

  -- one of them passes
  pub any_mem : (p : A → Bool) {a : A} {l : List A} → Memᴰ a l → p a ≡ true → any p l ≡ true
  unfolding any
  any_mem p (Memᴰ.head {x = b} {xs = l} e) h = either_left (p b) (any p l) (rw e at h)
  any_mem p (Memᴰ.tail {x = b} {xs = l} m) h = either_right (p b) (any p l) (any_mem p m h)

  -- where one passes, that one
  pub any_some : (p u : A → Bool) (l : List A) → any p l ≡ true → every u l ≡ true → (a : A) × (p a ≡ true) × (u a ≡ true)
  unfolding any every
  any_some p u [] h k = absurd (false≢true h)
  any_some p u (a ∷ l) h k = go (p a) refl h (λ j. any_some p u l j (both_right (u a) (every u l) k))
    where
      go : (b : Bool) → p a ≡ b → (b || any p l) ≡ true → (any p l ≡ true → (c : A) × (p c ≡ true) × (u c ≡ true)) → (c : A) × (p c ≡ true) × (u c ≡ true)
      go true e h f = (a, e, both_left (u a) (every u l) k)
      go false e h f = f h

  -- and another test, where it follows
  pub any_where : (u p q : A → Bool) → ((a : A) → u a ≡ true → p a ≡ true → q a ≡ true) → (l : List A) → every u l ≡ true → any p l ≡ true → any q l ≡ true
  unfolding any every
  any_where u p q f [] k h = h
  any_where u p q f (a ∷ l) k h = go (p a) refl h (any_where u p q f l (both_right (u a) (every u l) k))
    where
      go : (b : Bool) → p a ≡ b → (b || any p l) ≡ true → (any p l ≡ true → any q l ≡ true) → (q a || any q l) ≡ true
      go true e h s = either_left (q a) (any q l) (f a (both_left (u a) (every u l) k) e)
      go false e h s = either_right (q a) (any q l) (s h)

  -- two lists one behind the other
  pub every_append : (p : A → Bool) (l m : List A) → every p l ≡ true → every p m ≡ true → every p (l ++ m) ≡ true
  unfolding every
  every_append p [] m h k = k
  every_append p (a ∷ l) m h k = both (p a) (every p (l ++ m)) (both_left (p a) (every p l) h) (every_append p l m (both_right (p a) (every p l) h) k)

  pub any_appended : (p : A → Bool) (l m : List A) → any p (l ++ m) ≡ (any p l || any p m)
  unfolding any
  any_appended p [] m = refl
  any_appended p (a ∷ l) m = go (p a) (any_appended p l m)
    where
      go : (b : Bool) → any p (l ++ m) ≡ (any p l || any p m) → (b || any p (l ++ m)) ≡ ((b || any p l) || any p m)
      go true e = refl
      go false e = e

  pub any_append : (p : A → Bool) (l m : List A) → (any p l || any p m) ≡ true → any p (l ++ m) ≡ true
  any_append p l m h = any_appended p l m ∙ h

  -- a list of one
  pub every_one : (p : A → Bool) (a : A) → p a ≡ true → every p (a ∷ []) ≡ true
  unfolding every
  every_one p a h = rw h refl

  pub one-every : (p : A → Bool) (a : A) → every p (a ∷ []) ≡ true → p a ≡ true
  unfolding every
  one-every p a h = both_left (p a) true h

  -- and back: a test of a list, of its two parts
  pub every_parts : (p : A → Bool) (l m : List A) → every p (l ++ m) ≡ true → (every p l ≡ true) × (every p m ≡ true)
  unfolding every
  every_parts p [] m h = (refl, h)
  every_parts p (a ∷ l) m h =
      let r = every_parts p l m (both_right (p a) (every p (l ++ m)) h) in
      (both (p a) (every p l) (both_left (p a) (every p (l ++ m)) h) r.0, r.1)

  pub pairs_parts : (p : A → A → Bool) (l m : List A) → pairs p (l ++ m) ≡ true → (pairs p l ≡ true) × (pairs p m ≡ true) × (every (λ (a : A). every (p a) m) l ≡ true)
  unfolding pairs every
  pairs_parts p [] m h = (refl, h, refl)
  pairs_parts p (a ∷ l) m h =
      let e = every_parts (p a) l m (both_left (every (p a) (l ++ m)) (pairs p (l ++ m)) h) in
      let r = pairs_parts p l m (both_right (every (p a) (l ++ m)) (pairs p (l ++ m)) h) in
      (both (every (p a) l) (pairs p l) e.0 r.0, r.1, both (every (p a) m) (every (λ (c : A). every (p c) m) l) e.1 r.2)

  -- one of two
  pub any_of_two : (p : A → Bool) (a b : A) → (p a || p b) ≡ any p (a ∷ b ∷ [])
  unfolding any
  any_of_two p a b = rw or-false refl

  pub pairs_append : (p : A → A → Bool) (l m : List A) → pairs p l ≡ true → pairs p m ≡ true → every (λ (a : A). every (p a) m) l ≡ true → pairs p (l ++ m) ≡ true
  unfolding every pairs
  pairs_append p [] m h k x = k
  pairs_append p (a ∷ l) m h k x =
      let t : A → Bool = λ c. every (p c) m in
      both (every (p a) (l ++ m)) (pairs p (l ++ m))
      (every_append (p a) l m (both_left (every (p a) l) (pairs p l) h) (both_left (t a) (every t l) x))
      (pairs_append p l m (both_right (every (p a) l) (pairs p l) h) k (both_right (t a) (every t l) x))

  -- each passes, by number
  pub at_every : (p : A → Bool) (e : A) (l : List A) → ((i : ℕ) → i < length l → p (get_or l i e) ≡ true) → every p l ≡ true
  unfolding every
  at_every p e [] f = refl
  at_every p e (a ∷ l) f = both (p a) (every p l) (f 0 (omega arith)) (at_every p e l (λ i h. f (suc i) (omega arith)))

  -- the first ones, and those behind them
  pub every_take : (p : A → Bool) (n : ℕ) (l : List A) → every p l ≡ true → every p (take n l) ≡ true
  unfolding every
  every_take p zero l h = refl
  every_take p (suc n) [] h = refl
  every_take p (suc n) (a ∷ l) h = both (p a) (every p (take n l)) (both_left (p a) (every p l) h) (every_take p n l (both_right (p a) (every p l) h))

  pub every_drop : (p : A → Bool) (n : ℕ) (l : List A) → every p l ≡ true → every p (drop n l) ≡ true
  unfolding every
  every_drop p zero l h = h
  every_drop p (suc n) [] h = refl
  every_drop p (suc n) (a ∷ l) h = every_drop p n l (both_right (p a) (every p l) h)

  pub pairs-drop : (p : A → A → Bool) (n : ℕ) (l : List A) → pairs p l ≡ true → pairs p (drop n l) ≡ true
  unfolding pairs
  pairs-drop p zero l h = h
  pairs-drop p (suc n) [] h = refl
  pairs-drop p (suc n) (a ∷ l) h = pairs-drop p n l (both_right (every (p a) l) (pairs p l) h)

  pub pairs-take : (p : A → A → Bool) (n : ℕ) (l : List A) → pairs p l ≡ true → pairs p (take n l) ≡ true
  unfolding pairs
  pairs-take p zero l h = refl
  pairs-take p (suc n) [] h = refl
  pairs-take p (suc n) (a ∷ l) h = both (every (p a) (take n l)) (pairs p (take n l)) (every_take (p a) n l (both_left (every (p a) l) (pairs p l) h)) (pairs-take p n l (both_right (every (p a) l) (pairs p l) h))

  -- changed one by one
  pub every-mapped : {B : Type 0} (q : B → Bool) (t : A → B) (l : List A) → every q (map t l) ≡ every (λ (a : A). q (t a)) l
  unfolding every
  every-mapped q t [] = refl
  every-mapped q t (a ∷ l) = ap (λ (b : Bool). q (t a) && b) (every-mapped q t l)

  pub any-mapped : {B : Type 0} (q : B → Bool) (t : A → B) (l : List A) → any q (map t l) ≡ any (λ (a : A). q (t a)) l
  unfolding any
  any-mapped q t [] = refl
  any-mapped q t (a ∷ l) = ap (λ (b : Bool). q (t a) || b) (any-mapped q t l)

  pub pairs-mapped : {B : Type 0} (q : B → B → Bool) (t : A → B) (l : List A) → pairs q (map t l) ≡ pairs (λ (a c : A). q (t a) (t c)) l
  unfolding pairs
  pairs-mapped q t [] = refl
  pairs-mapped q t (a ∷ l) = rw (every-mapped (q (t a)) t l, pairs-mapped q t l) refl

  -- each one's number is in the list of numbers
  pub every-listed : (k : A → ℕ) (l : List A) → every (λ (a : A). any (λ (c : A). eqb (k a) (k c)) l) l ≡ true
  unfolding every any
  every-listed k [] = refl
  every-listed k (a ∷ l) =
      let t : A → Bool = λ b. any (λ (c : A). eqb (k b) (k c)) (a ∷ l) in
      both (t a) (every t l) (either_left (eqb (k a) (k a)) (any (λ (c : A). eqb (k a) (k c)) l) (eq-eqb (k a) (k a) refl))
      (every_map (λ (b : A). any (λ (c : A). eqb (k b) (k c)) l) t (λ b h. either_right (eqb (k b) (k a)) (any (λ (c : A). eqb (k b) (k c)) l) h) l (every-listed k l))

  -- what each one passes, all do
  pub every_all : (p : A → Bool) (l : List A) → ((a : A) → Memᴰ a l → p a ≡ true) → every p l ≡ true
  unfolding every
  every_all p [] h = refl
  every_all p (a ∷ l) h = both (p a) (every p l) (h a (Memᴰ.head refl)) (every_all p l (λ b m. h b (Memᴰ.tail m)))

  -- a test of nothing
  pub every_true : (l : List A) → every (λ (a : A). true) l ≡ true
  unfolding every
  every_true [] = refl
  every_true (a ∷ l) = every_true l

  -- where none passes, each fails
  pub none-every : (p : A → Bool) (l : List A) → any p l ≡ false → every (λ (a : A). not (p a)) l ≡ true
  unfolding any every
  none-every p [] h = refl
  none-every p (a ∷ l) h = go (p a) h (none-every p l)
    where
      go : (b : Bool) → (b || any p l) ≡ false → (any p l ≡ false → every (λ a. not (p a)) l ≡ true) → (not b && every (λ a. not (p a)) l) ≡ true
      go true h s = absurd (false≢true (sym h))
      go false h s = s h

  -- one passes, and another test or not
  pub any-split : (p q : A → Bool) (l : List A) → any p l ≡ true → (any (λ (a : A). p a && q a) l ≡ true) ⊎ (any (λ (a : A). p a && not (q a)) l ≡ true)
  unfolding any
  any-split p q [] h = absurd (false≢true h)
  any-split p q (a ∷ l) h = go (p a) (q a) h (any-split p q l)
    where
      go : (b d : Bool) → (b || any p l) ≡ true → (any p l ≡ true → (any (λ a. p a && q a) l ≡ true) ⊎ (any (λ a. p a && not (q a)) l ≡ true))
          → (((b && d) || any (λ a. p a && q a) l) ≡ true) ⊎ (((b && not d) || any (λ a. p a && not (q a)) l) ≡ true)
      go true true h s = inl refl
      go true false h s = inr refl
      go false d h s = s h

  -- one that passes is kept
  pub any-keep : (p q : A → Bool) (l : List A) → any (λ (a : A). p a && q a) l ≡ true → any p (keep q l) ≡ true
  unfolding any keep
  any-keep p q [] h = h
  any-keep p q (a ∷ l) h = go (p a) refl (q a) h (any-keep p q l)
    where
      go : (b : Bool) → p a ≡ b → (d : Bool) → ((b && d) || any (λ a. p a && q a) l) ≡ true → (any (λ a. p a && q a) l ≡ true → any p (keep q l) ≡ true) → any p (cond d (a ∷ keep q l) (keep q l)) ≡ true
      go true e true h s = either_left (p a) (any p (keep q l)) e
      go true e false h s = s h
      go false e true h s = either_right (p a) (any p (keep q l)) (s h)
      go false e false h s = s h

  -- a stage over two lists, one behind the other
  pub stage_append : (f : A → ℕ) (l m : List A) → stage f (l ++ m) ≡ first (stage f l) (stage f m)
  unfolding stage
  stage_append f [] m = sym (first_go 0 (stage f m) refl)
  stage_append f (a ∷ l) m = ap (first (f a)) (stage_append f l m) ∙ sym (first_assoc (f a) (stage f l) (stage f m))

  -- a stage that refuses nothing refuses no one
  pub stage-none : (f : A → ℕ) (l : List A) → stage f l ≡ 0 → every (λ (a : A). eqb (f a) 0) l ≡ true
  unfolding every
  stage-none f [] h = refl
  stage-none f (a ∷ l) h = let z = stage-zero f a l h in both (eqb (f a) 0) (every (λ a. eqb (f a) 0) l) (eq-eqb (f a) 0 z.0) (stage-none f l z.1)

-- several for each
module _ {A B : Type 0} where
  pub every_flat : (u : A → Bool) (f : A → List B) (q : B → Bool) → ((a : A) → u a ≡ true → every q (f a) ≡ true) → (l : List A) → every u l ≡ true → every q (flat_map f l) ≡ true
  unfolding every flat_map
  every_flat u f q k [] h = refl
  every_flat u f q k (a ∷ l) h = every_append q (f a) (flat_map f l) (k a (both_left (u a) (every u l) h)) (every_flat u f q k l (both_right (u a) (every u l) h))

  pub pairs-flat :
      (u : A → Bool) (r : A → A → Bool) (f : A → List B) (q : B → B → Bool)
      → ((a : A) → u a ≡ true → pairs q (f a) ≡ true)
      → ((a c : A) → u a ≡ true → u c ≡ true → r a c ≡ true → every (λ (x : B). every (q x) (f c)) (f a) ≡ true)
      → (l : List A) → every u l ≡ true → pairs r l ≡ true → pairs q (flat_map f l) ≡ true
  unfolding every pairs flat_map
  pairs-flat u r f q own two [] h k = refl
  pairs-flat u r f q own two (a ∷ l) h k =
      let ua = both_left (u a) (every u l) h in
      let ul = both_right (u a) (every u l) h in
      pairs_append q (f a) (flat_map f l) (own a ua) (pairs-flat u r f q own two l ul (both_right (every (r a) l) (pairs r l) k))
      (spread (λ (x y : B). q x y) (f a) l (every_map (λ (c : A). u c && r a c) (λ (c : A). every (λ (x : B). every (q x) (f c)) (f a)) (λ c e. two a c ua (both_left (u c) (r a c) e) (both_right (u c) (r a c) e)) l (every_both u (r a) l ul (both_left (every (r a) l) (pairs r l) k))))
    where
      none : (q : B → B → Bool) (xs : List B) → every (λ (x : B). every (q x) []) xs ≡ true
      none q [] = refl
      none q (x ∷ xs) = none q xs

      spread : (q : B → B → Bool) (xs : List B) (l : List A) → every (λ (c : A). every (λ (x : B). every (q x) (f c)) xs) l ≡ true → every (λ (x : B). every (q x) (flat_map f l)) xs ≡ true
      spread q xs [] h = none q xs
      spread q xs (c ∷ l) h =
          let t : A → Bool = λ c. every (λ (x : B). every (q x) (f c)) xs in
          every_map (λ (x : B). every (q x) (f c) && every (q x) (flat_map f l)) (λ (x : B). every (q x) (f c ++ flat_map f l))
          (λ x e. every_append (q x) (f c) (flat_map f l) (both_left (every (q x) (f c)) (every (q x) (flat_map f l)) e) (both_right (every (q x) (f c)) (every (q x) (flat_map f l)) e))
          xs (every_both (λ (x : B). every (q x) (f c)) (λ (x : B). every (q x) (flat_map f l)) xs (both_left (t c) (every t l) h) (spread q xs l (both_right (t c) (every t l) h)))

  pub any_flat : (p u : A → Bool) (f : A → List B) (q : B → Bool) → ((a : A) → p a ≡ true → u a ≡ true → any q (f a) ≡ true) → (l : List A) → any p l ≡ true → every u l ≡ true → any q (flat_map f l) ≡ true
  unfolding every any flat_map
  any_flat p u f q k [] h e = absurd (false≢true h)
  any_flat p u f q k (a ∷ l) h e = go (p a) refl h (λ j. any_flat p u f q k l j (both_right (u a) (every u l) e))
    where
      go : (b : Bool) → p a ≡ b → (b || any p l) ≡ true → (any p l ≡ true → any q (flat_map f l) ≡ true) → any q (f a ++ flat_map f l) ≡ true
      go true t h g = any_append q (f a) (flat_map f l) (either_left (any q (f a)) (any q (flat_map f l)) (k a t (both_left (u a) (every u l) e)))
      go false t h g = any_append q (f a) (flat_map f l) (either_right (any q (f a)) (any q (flat_map f l)) (g h))

pub flat_append : {A B : Type 0} (f : A → List B) (l m : List A) → flat_map f (l ++ m) ≡ flat_map f l ++ flat_map f m
unfolding flat_map
flat_append f [] m = refl
flat_append {A} {B} f (a ∷ l) m = ap (λ (k : List B). f a ++ k) (flat_append f l m) ∙ sym (append_assoc (f a) (flat_map f l) (flat_map f m))

-- of parts of one width, those from number k on
pub flat_drop : {A B : Type 0} (f : A → List B) (w : ℕ) → ((a : A) → length (f a) ≡ w) → (k : ℕ) (l : List A) (s : List B) → k ≤ length l → drop (k * w) (flat_map f l ++ s) ≡ flat_map f (drop k l) ++ s
flat_drop f w wide zero l s h = rw zero-mul refl
flat_drop f w wide (suc k) [] s h = absurd (omega arith)
flat_drop f w wide (suc k) (a ∷ l) s h =
    let m : suc k * w ≡ length (f a) + k * w = omega (arith, suc-mul k w, wide a) in
    let e : flat_map f (a ∷ l) ++ s ≡ f a ++ (flat_map f l ++ s) = unfold flat_map in append_assoc (f a) (flat_map f l) s in
    rw (m, e) (drop-append-add (f a) (flat_map f l ++ s) (k * w) ∙ flat_drop f w wide k l s (omega arith))

-- ---- arrays of zeros

pub array_room : (n k : ℕ) → k ≤ n → k ≤ length {A = ℕ} (replicate n 0)
array_room n k h = rw (length-replicate {A = ℕ} n 0) h

pub array_same : (n : ℕ) → length {A = ℕ} (replicate n 0) ≤ length {A = ℕ} (replicate n 0)
array_same n = omega arith
