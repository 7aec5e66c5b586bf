-- One list of references less another, both in order, taken from the front. Assumes nothing.
use mathlib.Core.Path.{◌≡◌, refl, ap, ◌∙◌, sym}
use mathlib.Core.Bool.{Bool, true, false, cond, not, false≢true}
use mathlib.Core.List.{List, [], ◌∷◌, ◌++◌}
use lib.ListN.{drop}
use Rattle.records.specs.Stages.{every, pairs}
use Rattle.records.specs.Select.{only}
use Rattle.records.proofs.Tests.{both, both_left, both_right, every_map}
use Rattle.cut_def.specs.Refs.{Ref, same_ref}
use Rattle.ref_def.specs.Compared.{ref_before, without, minus}
use Rattle.ref_sort.specs.Order.{upward, ordered}
use Rattle.ref_sort.proofs.Order.{Order, rises, level, falls, compare, before_up, before-upward, same_self}
use Rattle.ref_minus.specs.Walk.{starts_with, past}

-- the first of a list is before r
abbrev pub starts_before : Ref → List Ref → Bool
starts_before r [] = false
starts_before r (q ∷ qs) = ref_before q r

-- ---- skipping

-- what comes before all is not there
without-before : (y : Ref) (l : List Ref) → every (ref_before y) l ≡ true → without y l ≡ l
unfolding without every
without-before y [] h = refl
without-before y (x ∷ l) h =
    rw (before_up y x (both_left (ref_before y x) (every (ref_before y) l) h)).apart'
    (ap (λ (k : List Ref). x ∷ k) (without-before y l (both_right (ref_before y x) (every (ref_before y) l) h)))

before_all : (y x : Ref) (l : List Ref) → ref_before y x ≡ true → ordered (x ∷ l) ≡ true → every (ref_before y) (x ∷ l) ≡ true
unfolding pairs every
before_all y x l h o =
    both (ref_before y x) (every (ref_before y) l) h
    (every_map (upward x) (ref_before y) (λ q u. before-upward y x q h u) l (both_left (every (upward x) l) (ordered l) o))

minus-past : (x : Ref) (xs ys : List Ref) → ordered (x ∷ xs) ≡ true → minus (x ∷ xs) ys ≡ minus (x ∷ xs) (past x ys)
unfolding minus past
minus-past x xs [] o = refl
minus-past x xs (y ∷ ys) o = go (ref_before y x) refl (minus-past x xs ys o)
  where
    go : (b : Bool) → ref_before y x ≡ b → minus (x ∷ xs) ys ≡ minus (x ∷ xs) (past x ys) → minus (without y (x ∷ xs)) ys ≡ minus (x ∷ xs) (cond b (past x ys) (y ∷ ys))
    go true e ih = ap (λ (l : List Ref). minus l ys) (without-before y (x ∷ xs) (before_all y x xs e o)) ∙ ih
    go false e ih = refl

-- ---- the first, where the other list starts with it, or with a later one

minus-apart : (x : Ref) (xs ys : List Ref) → every (ref_before x) ys ≡ true → minus (x ∷ xs) ys ≡ x ∷ minus xs ys
unfolding minus without every
minus-apart x xs [] h = refl
minus-apart x xs (y ∷ ys) h =
    rw (before_up x y (both_left (ref_before x y) (every (ref_before x) ys) h)).apart
    (minus-apart x (without y xs) ys (both_right (ref_before x y) (every (ref_before x) ys) h))

minus-met : (x : Ref) (xs ys : List Ref) → minus (x ∷ xs) (x ∷ ys) ≡ minus xs ys
unfolding minus without
minus-met x xs ys = rw (same_self x) refl

-- nothing of what is past x is before x
pub past-ordered : (x : Ref) (ys : List Ref) → ordered ys ≡ true → ordered (past x ys) ≡ true
unfolding past pairs
past-ordered x [] o = refl
past-ordered x (y ∷ ys) o = go (ref_before y x) (past-ordered x ys (both_right (every (upward y) ys) (ordered ys) o))
  where
    go : (b : Bool) → ordered (past x ys) ≡ true → ordered (cond b (past x ys) (y ∷ ys)) ≡ true
    go true ih = ih
    go false ih = o

past_first : (x : Ref) (ys : List Ref) → starts_before x (past x ys) ≡ false
unfolding past
past_first x [] = refl
past_first x (y ∷ ys) = go (ref_before y x) refl (past_first x ys)
  where
    go : (b : Bool) → ref_before y x ≡ b → starts_before x (past x ys) ≡ false → starts_before x (cond b (past x ys) (y ∷ ys)) ≡ false
    go true e ih = ih
    go false e ih = e

first-turn : (x : Ref) (xs zs : List Ref) → ordered zs ≡ true → starts_before x zs ≡ false
    → minus (x ∷ xs) zs ≡ only (not (starts_with x zs)) x ++ minus xs (drop (cond (starts_with x zs) 1 0) zs)
first-turn x xs [] o f = unfold minus in refl
first-turn x xs (z ∷ zs) o f = go (compare x z)
  where
    goal : Bool → Type 0
    goal b = minus (x ∷ xs) (z ∷ zs) ≡ only (not b) x ++ minus xs (drop (cond b 1 0) (z ∷ zs))

    go : Order x z → goal (same_ref z x)
    go (rises u) = rw u.apart' (minus-apart x xs (z ∷ zs) (before_all x z zs u.before o))
    go (level e) = rw (← e, same_self x) (minus-met x xs zs)
    go (falls u) = absurd (false≢true (sym f ∙ u.before))

-- a turn of the walk
pub minus-turn : (x : Ref) (xs ys zs : List Ref) (b : Bool) → ordered (x ∷ xs) ≡ true → ordered ys ≡ true → zs ≡ past x ys → b ≡ starts_with x zs
    → minus (x ∷ xs) ys ≡ only (not b) x ++ minus xs (drop (cond b 1 0) zs)
minus-turn x xs ys zs b o p e f =
    minus-past x xs ys o ∙ ap (minus (x ∷ xs)) (sym e) ∙ rw f (first-turn x xs zs (rw e (past-ordered x ys p)) (rw e (past_first x ys)))
