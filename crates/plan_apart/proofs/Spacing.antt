-- Every two extents of a sorted list share no byte exactly if each ends at most where the next starts. Assumes nothing.
use mathlib.Core.Path.{◌≡◌, refl, ◌∙◌, sym}
use mathlib.Core.Bool.{Bool, true, false, ◌||◌, false≢true}
use mathlib.Core.List.{List, [], ◌∷◌}
use mathlib.Core.Logic.{◌⊎◌, inl, inr}
use Prim.Native.Nat.{ℕ, ◌+◌, ◌≤◌}
use native.Mathlib.Omega.{arith}
use native.Mathlib.Decide.{dec_lt}
use lib.Dec.{leb}
use borrow.Author.Tests.{leb-true, le-leb, not-true}
use Rattle.records.specs.Stages.{every, pairs, neighbours}
use Rattle.records.proofs.Tests.{same, both, both_left, both_right, either_left, every_map}
use Rattle.cut_def.specs.Refs.{Ref}
use Rattle.ref_def.specs.Compared.{ref_before, sorted}
use Rattle.plan_def.proofs.Places.{clear_says}
use Rattle.ref_sort.specs.Order.{upward, ordered}
use Rattle.ref_sort.proofs.Order.{Lt, lt_before, sorted-ordered}
use Rattle.plan_apart.specs.Spacing.{apart, ends_by}
use Rattle.plan_apart.proofs.Orders.{sorted-pairs}

-- either way round
apart_symmetric : (r q : Ref) → apart r q ≡ apart q r
apart_symmetric r q = turned (ends_by r q) (ends_by q r)
  where
    turned : (a b : Bool) → (a || b) ≡ (b || a)
    turned true true = refl
    turned true false = refl
    turned false true = refl
    turned false false = refl

-- ---- neighbours decide: extents that follow each other

-- all that follow start at or past e
behind : (e : ℕ) (s : Ref) (rs : List Ref) → e ≤ s.start → neighbours ends_by (s ∷ rs) ≡ true → every (λ (q : Ref). leb e q.start) (s ∷ rs) ≡ true
unfolding every neighbours
behind e s [] h n = both (leb e s.start) true (le-leb e s.start h) refl
behind e s (q ∷ rs) h n =
    let l : s.start + s.offset ≤ q.start = leb-true (s.start + s.offset) q.start (both_left (ends_by s q) (neighbours ends_by (q ∷ rs)) n) in
    both (leb e s.start) (every (λ (q : Ref). leb e q.start) (q ∷ rs)) (le-leb e s.start h) (behind e q rs (omega arith) (both_right (ends_by s q) (neighbours ends_by (q ∷ rs)) n))

-- so whatever the order, every two are apart
pub spaced-apart : (rs : List Ref) → neighbours ends_by rs ≡ true → pairs apart rs ≡ true
unfolding every pairs neighbours
spaced-apart [] n = refl
spaced-apart (r ∷ []) n = refl
spaced-apart (r ∷ (s ∷ rs)) n =
    let l : r.start + r.offset ≤ s.start = leb-true (r.start + r.offset) s.start (both_left (ends_by r s) (neighbours ends_by (s ∷ rs)) n) in
    let t : neighbours ends_by (s ∷ rs) ≡ true = both_right (ends_by r s) (neighbours ends_by (s ∷ rs)) n in
    both (every (apart r) (s ∷ rs)) (pairs apart (s ∷ rs))
    (every_map (λ (q : Ref). leb (r.start + r.offset) q.start) (apart r) (λ q e. either_left (ends_by r q) (ends_by q r) e) (s ∷ rs) (behind (r.start + r.offset) s rs l t))
    (spaced-apart (s ∷ rs) t)

-- ---- sorted extents that are apart follow each other

-- of two in order that are apart the first ends at most where the second starts, empty ones too
apart-ends : (r q : Ref) → upward r q ≡ true → apart r q ≡ true → ends_by r q ≡ true
apart-ends r q u h = le-leb (r.start + r.offset) q.start (go (clear_says r.start r.offset q.start q.offset h))
  where
    later : Lt q r → ⊥
    later l = false≢true (sym (not-true (ref_before q r) u) ∙ lt_before q r l)

    go : (r.start + r.offset ≤ q.start) ⊎ (q.start + q.offset ≤ r.start) → r.start + r.offset ≤ q.start
    go (inl l) = l
    go (inr l) =
        elim (dec_lt q.start r.start) [
          | yes x ↦ absurd (later (inl x))
          | no x ↦ elim (dec_lt q.offset r.offset) [ yes y ↦ absurd (later (inr (omega arith, y))) | no y ↦ omega arith ]
        ]

apart-spaced : (rs : List Ref) → ordered rs ≡ true → pairs apart rs ≡ true → neighbours ends_by rs ≡ true
unfolding every pairs neighbours
apart-spaced [] o h = refl
apart-spaced (r ∷ []) o h = refl
apart-spaced (r ∷ (s ∷ rs)) o h =
    both (ends_by r s) (neighbours ends_by (s ∷ rs))
    (apart-ends r s
    (both_left (upward r s) (every (upward r) rs) (both_left (every (upward r) (s ∷ rs)) (ordered (s ∷ rs)) o))
    (both_left (apart r s) (every (apart r) rs) (both_left (every (apart r) (s ∷ rs)) (pairs apart (s ∷ rs)) h)))
    (apart-spaced (s ∷ rs) (both_right (every (upward r) (s ∷ rs)) (ordered (s ∷ rs)) o) (both_right (every (apart r) (s ∷ rs)) (pairs apart (s ∷ rs)) h))

-- ---- so, sorted, neighbours decide
pub sorted_apart : (rs : List Ref) → neighbours ends_by (sorted rs) ≡ pairs apart rs
sorted_apart rs =
    same (neighbours ends_by (sorted rs)) (pairs apart (sorted rs)) (spaced-apart (sorted rs)) (apart-spaced (sorted rs) (sorted-ordered rs)) ∙ sorted-pairs apart apart_symmetric rs
