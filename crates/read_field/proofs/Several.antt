-- The loop that reads one field after another. Assumes nothing.
use mathlib.Core.Path.{◌≡◌, refl, sym, ◌∙◌, ap}
use mathlib.Core.List.{List, ◌∷◌, append-nil}
use mathlib.Core.Option.{Option, none}
use Prim.Native.Nat.{ℕ, ◌+◌, ◌-◌, ◌<◌, ◌≤◌}
use native.Mathlib.Numerals.{add-one}
use native.Mathlib.Nat.{add-zero}
use native.Mathlib.Omega.{arith}
use lib.ListN.{length, take, drop, get_or, replicate, length-drop, drop_of_length-le}
use lib.Seq.{drop-cons, drop-drop, length-take-le}
use borrow.Rule.Slice.PartMut.{put_mid}
use Rattle.std.proofs.lemmas.Slice.{take-put_mid, drop-put_mid}
use Rattle.read_field.specs.declared.Field.{Field}
use Rattle.read_field.specs.Parts.{Part, give, more, into}
use Rattle.read_field.specs.Raw.{field_by, total, fields_by}
use Rattle.read_field.proofs.Steps.{more-nil, more-more}

-- what is the same from a place on is the same from a later one on
same_later : (a b : List ℕ) (k n : ℕ) → k ≤ n → drop k a ≡ drop k b → drop n a ≡ drop n b
same_later a b k n l e =
    let m : n ≡ k + (n - k) = omega arith in
    rw (m, ← drop-drop (n - k) k a, ← drop-drop (n - k) k b, e) refl

-- i fields were read into the first k of the values, and s is left
module _ (fs : List Field) (i k : ℕ) (values initial s : List ℕ) (all : Option Part)
    (h : more (take k values) (fields_by (drop i fs) s) ≡ all)
    (t : k + total (drop i fs) ≡ total fs)
    (same : drop k values ≡ drop k initial)
    (long : length values ≡ length initial)
    (room : total fs ≤ length initial) where
  module _ (d : Field) (l : i < length fs) where
    -- the next one
    abbrev f : Field
    f = get_or fs i d

    rest_fields : drop i fs ≡ f ∷ drop (i + 1) fs
    rest_fields = drop-cons fs i d l ∙ ap (λ (n : ℕ). f ∷ drop n fs) (sym (add-one i))

    few : k + (f.1 + total (drop (i + 1) fs)) ≡ total fs
    few = rw rest_fields at t

    pub fits : k + f.1 ≤ length values
    fits = omega (arith, few)

    part_length : length (take (k + f.1 - k) (drop k values)) ≡ f.1
    part_length = let n : k + f.1 - k ≡ f.1 = omega arith in rw n (length-take-le f.1 (drop k values) (rw (length-drop k values) (omega (arith, fits))))

    module _ (new : List ℕ) (e : length new ≡ length (take (k + f.1 - k) (drop k values))) where
      abbrev n : ℕ
      n = length (take (k + f.1 - k) (drop k values))

      abbrev after : List ℕ
      after = put_mid k (k + f.1 - k) values new

      -- what stands behind all fields is as it was
      pub kept : (m : ℕ) → k + f.1 ≤ m → drop m after ≡ drop m initial
      kept m q = drop-put_mid k (k + f.1 - k) values new m (omega arith) (omega (arith, fits)) (omega (arith, e, part_length)) ∙ same_later values initial k m (omega arith) same

      pub kept_all : drop (total fs) after ≡ drop (total fs) initial
      kept_all = kept (total fs) (omega (arith, few))

      pub unread : none ≡ field_by f.0.now (replicate n f.2) (replicate n 0) s → none ≡ all
      unfolding more into
      unread q = rw (rest_fields, ← part_length, ← q) at h

      pub turn : (u : List ℕ) → give new u ≡ field_by f.0.now (replicate n f.2) (replicate n 0) s
          → (more (take (k + f.1) after) (fields_by (drop (i + 1) fs) u) ≡ all) × (k + f.1 + total (drop (i + 1) fs) ≡ total fs) × (drop (k + f.1) after ≡ drop (k + f.1) initial)
      unfolding into
      turn u q = (
        rw (take-put_mid k (k + f.1 - k) values new (k + f.1) (omega (arith, e, part_length)) (omega (arith, fits)), ← more-more (take k values) new) (rw (rest_fields, ← part_length, ← q) at h),
        omega (arith, few),
        kept (k + f.1) (omega arith),
      )

  pub done : length fs ≤ i → give (take (total fs) values) s ≡ all
  unfolding more
  done l = let m : k ≡ total fs = rw (drop_of_length-le fs l, add-zero) at t in rw (← m) (rw (drop_of_length-le fs l, append-nil) at h)

pub ruleset several_laws = (more-nil, kept_all, unread, done)
