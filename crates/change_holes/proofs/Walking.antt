-- A walk along the extents wanted: what is left of it. Assumes nothing.
use mathlib.Core.Path.{◌≡◌, refl, ap, ◌∙◌, sym}
use mathlib.Core.Bool.{Bool, true, false, not}
use mathlib.Core.List.{List, [], ◌∷◌, flat_map}
use Prim.Native.Nat.{ℕ, suc, ◌+◌, ◌-◌, ◌*◌, ◌/◌, ◌≤◌, ◌<◌, min}
use native.Mathlib.Omega.{arith}
use native.Mathlib.Numerals.{add-one}
use lib.Dec.{leb}
use lib.ListN.{length, drop, get_or, drop_of_length-le}
use lib.Seq.{drop-cons}
use denote.Param.Members.{Mut}
use denote.Ref.{Bor}
use borrow.Author.Tests.{leb-true, leb-false, not-true, not-false}
use Rattle.std.specs.Prelude.{Option, Some, None}
use Rattle.std.specs.Fn.{CalledAt}
use Rattle.std.specs.Iterator.{YieldsFirstBy, Yields, FindsItem}
use Rattle.std.specs.List.{FoldsTo}
use Rattle.change_def.specs.Preallocs.{Stretch, piece_limit, prealloc_pieces}
use Rattle.change_def.specs.Sweep.{up_to}
use Rattle.change_holes.specs.declared.Bounds.{Bounds}
use Rattle.change_holes.specs.declared.Wishes.{Wishes}
use Rattle.change_holes.specs.declared.Stretches.{Stretches}
use Rattle.change_holes.specs.declared.Walker.{Walker}
use Rattle.change_holes.specs.Walk.{stretch_of, holes_of, stretches_of, stretches_left, left}
use Rattle.change_holes.proofs.Gaps.{sweep-count}
use Rattle.change_holes.proofs.Pieces.{pieces_none, pieces_cons}

pub stretches-length : (w : Wishes) → length (stretches_of w) ≡ (length w.list.now / 70 + 1) * 2 + 2
stretches-length w = omega (arith, sweep-count w.extents.lo w.extents.hi w.extents.from w.extents.to w.list.now)

-- stretch n from number 2 on is one of the holes'
pub at_swept : (w : Wishes) (n : ℕ) (s : Stretch) → (n ≡ 0 → ⊥) → (n ≡ 1 → ⊥) → s ≡ get_or (holes_of w) (n - 2) (up_to 0 0) → s ≡ get_or (stretches_of w) n (up_to 0 0)
at_swept w n s h k q =
    let m : suc (suc (n - 2)) ≡ n = omega arith in
    q ∙ ap (λ (i : ℕ). get_or (stretches_of w) i (up_to 0 0)) m

-- ---- the stretches

pub stretches_none : (s : Stretches) → (length s.wishes.list.now / 70 + 1) * 2 + 2 ≤ s.number → stretches_left s ≡ []
stretches_none s h = drop_of_length-le (stretches_of s.wishes) (omega (arith, h, stretches-length s.wishes))

pub stretches_more : (s : Stretches) (b : Bounds) → s.number < (length s.wishes.list.now / 70 + 1) * 2 + 2 → stretch_of b ≡ get_or (stretches_of s.wishes) s.number (up_to 0 0)
    → stretches_left s ≡ stretch_of b ∷ drop (s.number + 1) (stretches_of s.wishes)
stretches_more s b h e = rw (add-one, e) (drop-cons (stretches_of s.wishes) s.number (up_to 0 0) (omega (arith, h, stretches-length s.wishes)))

-- ---- the pieces

empty : (s : Bounds) → leb s.stop s.start ≡ true → prealloc_pieces piece_limit (stretch_of s) ≡ []
empty s h = pieces_none (stretch_of s) (omega (arith, leb-true s.stop s.start h))

-- the first piece of what is left, m long, and what is left behind it
pub left_cons : (p : Walker) (m : ℕ) → p.rest.start < p.rest.stop → m ≡ min (stretch_of p.rest).length piece_limit
    → left p ≡ record { start = p.rest.start; length = m } ∷ left (record { rest = record { start = p.rest.start + m; stop = p.rest.stop }; stretches = p.stretches })
left_cons p m l e =
    let b : Stretch = stretch_of p.rest in
    let k : min piece_limit b.length ≡ m = omega arith in
    let q : b.length - m ≡ p.rest.stop - (p.rest.start + m) = omega arith in
    rw (pieces_cons piece_limit (omega arith) b (omega arith), k, q) refl

-- ---- the next stretch that is not empty, as `find` finds it

abbrev pieces_in : List Stretch → List Stretch
pieces_in ss = flat_map (prealloc_pieces piece_limit) ss

module _ {F : Type 0} (g : Mut F (Bor Bounds × Unit {0}) Bool) (f : F) (k : (x : Bounds) (b : Bool) (q : F) → CalledAt g f x b q → (q ≡ f) × (b ≡ not (leb x.stop x.start))) where
  abbrev steps : Stretches → Option Bounds → Stretches → Type 0
  steps = YieldsFirstBy stretch_of stretches_left

  -- those before it have no pieces
  skipped : (xs : List Bounds) (s t : Stretches) (h : F) → Yields steps s xs t → FoldsTo (λ p x q. CalledAt g p x false q) f xs h → (pieces_in (stretches_left s) ≡ pieces_in (stretches_left t)) × (h ≡ f)
  unfolding flat_map
  skipped [] s t h y d = (ap (λ (s : Stretches). pieces_in (stretches_left s)) y, sym d)
  skipped (x ∷ xs) s t h y d =
      let m = k x false d.0 d.1 in
      let n = skipped xs y.0 t h y.2 (rw m.0 at d.2) in
      (rw (y.1, empty x (not-false (leb x.stop x.start) (sym m.1))) n.0, n.1)

  -- none, or one in place of an empty rest
  module _ (rest : Bounds) (z : leb rest.stop rest.start ≡ true) (s u : Stretches) where
    pub found-none : FindsItem steps g s f None u → (left (record { rest = rest; stretches = s }) ≡ []) × (left (record { rest = rest; stretches = u }) ≡ [])
    unfolding flat_map
    found-none (xs, h, y, d, p) = rw (empty rest z) ((skipped xs s y.0 h y.1 d).0 ∙ ap pieces_in y.2.0, ap pieces_in y.2.1)

    pub found-some : (x : Bounds) → FindsItem steps g s f (Some x) u → (left (record { rest = rest; stretches = s }) ≡ left (record { rest = x; stretches = u })) × (x.start < x.stop)
    unfolding flat_map
    found-some x (xs, h, y, d, p) =
        let n = skipped xs s y.0 h y.1 d in
        let m = k x true p.0 (rw n.1 at p.1) in
        (rw (empty rest z) (n.0 ∙ ap pieces_in y.2), leb-false x.stop x.start (not-true (leb x.stop x.start) (sym m.1)))
