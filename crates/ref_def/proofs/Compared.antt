-- Lines compared before and after: how often each is left. Assumes nothing.
use mathlib.Core.Path.{◌≡◌, refl, ap, ◌∙◌, sym}
use mathlib.Core.Bool.{Bool, true, false, cond, ◌&&◌, ◌||◌, not, and-false, false≢true}
use mathlib.Core.List.{List, [], ◌∷◌, map}
use Prim.Native.Nat.{ℕ, ◌+◌, ◌≤◌}
use native.Mathlib.Omega.{arith}
use lib.Dec.{eqb}
use lib.ListN.{length}
use borrow.Author.Tests.{eqb-true, eq-eqb}
use Rattle.records.specs.Select.{keep, any, count}
use Rattle.records.specs.Stages.{every}
use Rattle.records.proofs.Tests.{both, both_left, both_right, same}
use Rattle.records.proofs.Counts.{count_map, count-keep, count_same, count_never, none_fails, count-length}
use Rattle.item.specs.Items.{Fields, reference}
use Rattle.cut_def.specs.Mappings.{named}
use Rattle.cut_def.specs.Refs.{Ref, ref_of, same_ref, ref_passes}
use Rattle.ref_def.specs.Compared.{among, ref_before, insert_ref, sorted, without, minus, refs_among, compared_shares, compared_unrefs}

-- equal either way round
pub eqb_swap : (a b : ℕ) → eqb a b ≡ eqb b a
eqb_swap a b = same (eqb a b) (eqb b a) (turned a b) (turned b a)
  where
    turned : (a b : ℕ) → eqb a b ≡ true → eqb b a ≡ true
    turned a b h = eq-eqb b a (sym (eqb-true a b h))

-- ---- lines in order

-- one more line
pub insert-count : (p : Ref → Bool) (r : Ref) (rs : List Ref) → count p (insert_ref r rs) ≡ cond (p r) 1 0 + count p rs
unfolding count insert_ref
insert-count p r [] = refl
insert-count p r (q ∷ qs) = go (ref_before q r) (insert-count p r qs)
  where
    go : (b : Bool) → count p (insert_ref r qs) ≡ cond (p r) 1 0 + count p qs → count p (cond b (q ∷ insert_ref r qs) (r ∷ q ∷ qs)) ≡ cond (p r) 1 0 + count p (q ∷ qs)
    go true h = omega arith
    go false h = refl

-- order changes no number
pub sorted-count : (p : Ref → Bool) (rs : List Ref) → count p (sorted rs) ≡ count p rs
unfolding count sorted
sorted-count p [] = refl
sorted-count p (r ∷ rs) = insert-count p r (sorted rs) ∙ ap (λ (n : ℕ). cond (p r) 1 0 + n) (sorted-count p rs)

-- ---- one list of lines less another

-- lines that are the same are equal
pub same-ref : (q r : Ref) → same_ref q r ≡ true → q ≡ r
same-ref q r h =
    let s : q.start ≡ r.start = eqb-true q.start r.start (both_left (eqb q.start r.start) (eqb q.offset r.offset) h) in
    let o : q.offset ≡ r.offset = eqb-true q.offset r.offset (both_right (eqb q.start r.start) (eqb q.offset r.offset) h) in
    λ i. record { start = s i; offset = o i }

-- an item's, from its two numbers
pub ref_of_lem : (f : Fields) (s o : ℕ) → s ≡ f.extent_start → o ≡ reference f → ◌≡◌ {A = Ref} (record { start = s; offset = o }) (ref_of f)
ref_of_lem f s o p q = λ i. record { start = p i; offset = q i }

same-sym : (q r : Ref) → same_ref q r ≡ same_ref r q
same-sym q r = rw (eqb_swap q.start r.start, eqb_swap q.offset r.offset) refl

-- a line that is there is taken once
without-count : (p : Ref → Bool) (r : Ref) (rs : List Ref) → count p (without r rs) + cond (any (same_ref r) rs && p r) 1 0 ≡ count p rs
unfolding count without any
without-count p r [] = refl
without-count p r (q ∷ qs) = rw (same-sym q r) (go (same_ref r q) refl (without-count p r qs))
  where
    go : (b : Bool) → same_ref r q ≡ b → count p (without r qs) + cond (any (same_ref r) qs && p r) 1 0 ≡ count p qs
        → count p (cond b qs (q ∷ without r qs)) + cond ((b || any (same_ref r) qs) && p r) 1 0 ≡ cond (p q) 1 0 + count p qs
    go true e h = rw (same-ref r q e) (omega arith)
    go false e h = omega arith

-- and one that is not there is not
without-none : (r : Ref) (rs : List Ref) → any (same_ref r) rs ≡ false → without r rs ≡ rs
unfolding without any
without-none r [] h = refl
without-none r (q ∷ qs) h = rw (same-sym q r) (go (same_ref r q) h (without-none r qs))
  where
    go : (b : Bool) → (b || any (same_ref r) qs) ≡ false → (any (same_ref r) qs ≡ false → without r qs ≡ qs) → cond b qs (q ∷ without r qs) ≡ q ∷ qs
    go true h f = absurd (false≢true (sym h))
    go false h f = ap (λ (l : List Ref). q ∷ l) (f h)

pub minus_nil : (rs : List Ref) → minus [] rs ≡ []
unfolding minus without
minus_nil [] = refl
minus_nil (r ∷ rs) = minus_nil rs

-- the first line is left unless the other list has it
minus_cons : (y : Ref) (ys xs : List Ref) → minus (y ∷ ys) xs ≡ cond (any (same_ref y) xs) (minus ys (without y xs)) (y ∷ minus ys xs)
unfolding minus without any
minus_cons y ys [] = refl
minus_cons y ys (x ∷ xs) = rw (same-sym x y) (go (same_ref y x) (minus_cons y (without x ys) xs))
  where
    go : (b : Bool) → minus (y ∷ without x ys) xs ≡ cond (any (same_ref y) xs) (minus (without x ys) (without y xs)) (y ∷ minus (without x ys) xs)
        → minus (cond b ys (y ∷ without x ys)) xs ≡ cond (b || any (same_ref y) xs) (minus ys (cond b xs (x ∷ without y xs))) (y ∷ minus (without x ys) xs)
    go true h = refl
    go false h = h

-- what each has more than the other makes up the difference
pub minus_balance : (p : Ref → Bool) (xs ys : List Ref) → count p (minus xs ys) + count p ys ≡ count p xs + count p (minus ys xs)
unfolding count minus
minus_balance p xs [] = rw (minus_nil xs) refl
minus_balance p xs (y ∷ ys) = rw (minus_cons y ys xs) (go (any (same_ref y) xs) refl (minus_balance p (without y xs) ys) (without-count p y xs))
  where
    go : (b : Bool) → any (same_ref y) xs ≡ b
        → count p (minus (without y xs) ys) + count p ys ≡ count p (without y xs) + count p (minus ys (without y xs))
        → count p (without y xs) + cond (any (same_ref y) xs && p y) 1 0 ≡ count p xs
        → count p (minus (without y xs) ys) + (cond (p y) 1 0 + count p ys) ≡ count p xs + count p (cond b (minus ys (without y xs)) (y ∷ minus ys xs))
    go true e h k = let k2 = rw e at k in omega arith
    go false e h k = let h2 = rw (without-none y xs e) at h in rw (without-none y xs e) (omega arith)

-- no more than were there
pub minus-most : (p : Ref → Bool) (xs ys : List Ref) → count p (minus xs ys) ≤ count p xs
unfolding minus
minus-most p xs [] = omega arith
minus-most p xs (y ∷ ys) = omega (arith, minus-most p (without y xs) ys, without-count p y xs)

-- ---- items of some extents

-- an item is among the extents if it names an extent and that is one of them
pub among-listed : (extents : List ℕ) (f : Fields) → among extents f ≡ (named f && any (eqb f.extent_start) extents)
unfolding any
among-listed [] f = sym (and-false (named f))
among-listed (s ∷ extents) f = rw (among-listed extents f) (go (named f))
  where
    go : (b : Bool) → ((b && eqb f.extent_start s) || (b && any (eqb f.extent_start) extents)) ≡ (b && any (eqb f.extent_start) (s ∷ extents))
    go true = refl
    go false = refl

module _ (extents : List ℕ) (f : Fields) where
  pub among-named : among extents f ≡ true → named f ≡ true
  among-named h = both_left (named f) (any (eqb f.extent_start) extents) (rw (among-listed extents f) at h)

  pub among-start : among extents f ≡ true → any (eqb f.extent_start) extents ≡ true
  among-start h = both_right (named f) (any (eqb f.extent_start) extents) (rw (among-listed extents f) at h)

  pub listed-among : named f ≡ true → any (eqb f.extent_start) extents ≡ true → among extents f ≡ true
  listed-among n h = rw (among-listed extents f) (both (named f) (any (eqb f.extent_start) extents) n h)

-- the references of the extents, by any test
pub refs-count : (p : Ref → Bool) (extents : List ℕ) (fs : List Fields) → count p (refs_among extents fs) ≡ count (λ (f : Fields). among extents f && ref_passes p f) fs
refs-count p extents fs =
    sorted-count p (map ref_of (keep (among extents) fs))
    ∙ count_map p ref_of (keep (among extents) fs)
    ∙ count-keep (λ (f : Fields). p (ref_of f)) (among extents) fs
    ∙ count_same (λ (f : Fields). among extents f && p (ref_of f)) (λ (f : Fields). among extents f && ref_passes p f) passes fs
  where
    passes : (f : Fields) → (among extents f && p (ref_of f)) ≡ (among extents f && ref_passes p f)
    passes f = go (among extents f) refl
      where
        go : (b : Bool) → among extents f ≡ b → (b && p (ref_of f)) ≡ (b && ref_passes p f)
        go true e = rw (among-named extents f e) refl
        go false e = refl

-- a test that no item of the extents passes, no line does
never_left : (p : Ref → Bool) (extents : List ℕ) → ((f : Fields) → among extents f ≡ true → p (ref_of f) ≡ false)
    → (fs : List Fields) (rs : List Ref) → count p (minus (refs_among extents fs) rs) ≡ 0
never_left p extents h fs rs =
    omega (arith, minus-most p (refs_among extents fs) rs, refs-count p extents fs, count_never (λ (f : Fields). among extents f && ref_passes p f) never fs)
  where
    never : (f : Fields) → (among extents f && ref_passes p f) ≡ false
    never f = go (among extents f) refl
      where
        go : (b : Bool) → among extents f ≡ b → (b && ref_passes p f) ≡ false
        go true e = rw (among-named extents f e, h f e) refl
        go false e = refl

-- each line is of one of the extents
left-listed : (extents : List ℕ) (fs : List Fields) (rs : List Ref) → every (λ (r : Ref). any (eqb r.start) extents) (minus (refs_among extents fs) rs) ≡ true
left-listed extents fs rs =
    none_fails (λ (r : Ref). any (eqb r.start) extents) (minus (refs_among extents fs) rs)
    (never_left (λ (r : Ref). not (any (eqb r.start) extents)) extents (λ f e. rw (among-start extents f e) refl) fs rs)

-- so none is of another
left_other : (extents : List ℕ) (fs : List Fields) (rs : List Ref) (s : ℕ) → any (eqb s) extents ≡ false → count (λ (q : Ref). eqb q.start s) (minus (refs_among extents fs) rs) ≡ 0
left_other extents fs rs s h = never_left (λ (q : Ref). eqb q.start s) extents (λ f e. go f e (eqb f.extent_start s) refl) fs rs
  where
    go : (f : Fields) → among extents f ≡ true → (b : Bool) → eqb f.extent_start s ≡ b → b ≡ false
    go f e true t =
        let l : any (eqb f.extent_start) extents ≡ true = among-start extents f e in
        absurd (false≢true (sym h ∙ (rw (eqb-true f.extent_start s t) at l)))
    go f e false t = refl

module _ (extents : List ℕ) (before after : List Fields) where
  -- references before and shares are references after and unrefs
  pub compared_balance : (p : Ref → Bool)
      → count (λ (f : Fields). among extents f && ref_passes p f) before + count p (compared_shares extents before after)
      ≡ count (λ (f : Fields). among extents f && ref_passes p f) after + count p (compared_unrefs extents before after)
  compared_balance p = omega (arith, minus_balance p (refs_among extents after) (refs_among extents before), refs-count p extents before, refs-count p extents after)

  -- every line's extent is one of those compared
  pub shares-listed : every (λ (r : Ref). any (eqb r.start) extents) (compared_shares extents before after) ≡ true
  shares-listed = left-listed extents after (refs_among extents before)

  pub unrefs-listed : every (λ (r : Ref). any (eqb r.start) extents) (compared_unrefs extents before after) ≡ true
  unrefs-listed = left-listed extents before (refs_among extents after)

  -- no line is of another extent
  pub shares-other : (s : ℕ) → any (eqb s) extents ≡ false → count (λ (q : Ref). eqb q.start s) (compared_shares extents before after) ≡ 0
  shares-other = left_other extents after (refs_among extents before)

  pub unrefs-other : (s : ℕ) → any (eqb s) extents ≡ false → count (λ (q : Ref). eqb q.start s) (compared_unrefs extents before after) ≡ 0
  unrefs-other = left_other extents before (refs_among extents after)

-- ---- how many: what is compared is no more than the items

count_all : {A : Type 0} (l : List A) → count (λ (a : A). true) l ≡ length l
unfolding count
count_all [] = refl
count_all (a ∷ l) = omega (arith, count_all l)

pub compared_most : (extents : List ℕ) (fs gs : List Fields) → length (minus (refs_among extents fs) (refs_among extents gs)) ≤ length fs
compared_most extents fs gs =
    let rs : List Ref = refs_among extents fs in
    omega (
      arith,
      count_all (minus rs (refs_among extents gs)),
      minus-most (λ q. true) rs (refs_among extents gs),
      refs-count (λ q. true) extents fs,
      count-length (λ (f : Fields). among extents f && ref_passes (λ q. true) f) fs,
    )
