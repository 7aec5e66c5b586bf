-- What places hold while numbers are read over them. Assumes nothing.
use mathlib.Core.Path.{◌≡◌, refl, sym}
use mathlib.Core.Bool.{Bool, true, false, cond}
use mathlib.Core.List.{List, [], ◌∷◌, ◌++◌, append_assoc, append-nil}
use mathlib.Core.Option.{none}
use Prim.Native.Nat.{ℕ, ◌+◌, ◌<◌, ◌≤◌}
use native.Mathlib.Numerals.{add-one}
use native.Mathlib.Omega.{arith}
use lib.ListN.{length, take, drop, get_or, replicate, set, take-append-drop, drop_of_length-le}
use lib.Seq.{drop-cons, drop-set-lt, set-get_or}
use Rattle.std.proofs.lemmas.List.{take_more_set, take_all}
use Rattle.read_field.specs.Words.{bytes, starts}
use Rattle.read_field.specs.Parts.{give, more, into, next, word, number}
use Rattle.read_field.specs.Raw.{or_kept, read_over, field_over}
use Rattle.read_field.proofs.Steps.{some_none, rest-same}

-- i places hold their numbers, and s is left
module _ (places : List ℕ) (i limit : ℕ) (s all : List ℕ) (n : ℕ) (m : n ≡ length places)
    (h : take i places ++ read_over limit (drop i places) s ≡ all) where
  module _ (k : i < n) where
    ahead : drop i places ≡ get_or places i 0 ∷ drop (i + 1) places
    ahead = rw (add-one i) (drop-cons places i 0 (omega arith))

    -- the place at hand is given back as it was
    stopped : next (word (bytes " ")) (number limit) s ≡ none → set places i (get_or places i 0) ≡ all
    unfolding read_over or_kept
    stopped e = rw (set-get_or places i 0) (rw (ahead, e, ← ahead, take-append-drop i places) at h)

    pub over-no_space : none ≡ word (bytes " ") s → set places i (get_or places i 0) ≡ all
    unfolding into
    over-no_space e = stopped (rw (← e) refl)

    pub over-no_number : (t : List ℕ) → give [] t ≡ word (bytes " ") s → none ≡ number limit t → set places i (get_or places i 0) ≡ all
    unfolding into more
    over-no_number t e f = stopped (rw (← e, ← f) refl)

    pub over-turn : (t : List ℕ) (v : ℕ) (u : List ℕ) → give [] t ≡ word (bytes " ") s → give (v ∷ []) u ≡ number limit t
        → take (i + 1) (set places i v) ++ read_over limit (drop (i + 1) (set places i v)) u ≡ all
    unfolding into more read_over or_kept
    over-turn t v u e f =
        rw (take_more_set places i v (omega arith), drop-set-lt (i + 1) places i v (omega arith), append_assoc (take i places) (v ∷ []))
        (rw (ahead, ← e, ← f) at h)

  pub over-done : n ≤ i → places ≡ all
  unfolding read_over
  over-done k = let l : length places ≤ i = omega arith in rw (drop_of_length-le places l, take_all i places l, append-nil) at h

-- a field
module _ (w : List ℕ) (limit : ℕ) (old s : List ℕ) where
  pub over-missing : none ≡ word w s → old ≡ field_over w limit old s
  over-missing e = go (starts w s) e
    where
      go : (t : Bool) → none ≡ cond t (give [] (drop (length w) s)) none → old ≡ cond t (read_over limit (replicate (length old) 0) (drop (length w) s)) old
      go true e = absurd (some_none e)
      go false e = refl

  pub over-there : (t : List ℕ) → give [] t ≡ word w s → (new : List ℕ) → new ≡ read_over limit (replicate (length old) 0) t → new ≡ field_over w limit old s
  over-there t e new f = go (starts w s) e
    where
      go : (b : Bool) → give [] t ≡ cond b (give [] (drop (length w) s)) none → new ≡ cond b (read_over limit (replicate (length old) 0) (drop (length w) s)) old
      go true e = rw (← rest-same t (drop (length w) s) e) f
      go false e = absurd (some_none (sym e))

pub ruleset field_over_laws = (over-missing, over-there)
