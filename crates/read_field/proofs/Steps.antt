-- What each step of the code reads. Assumes nothing.
use mathlib.Core.Path.{◌≡◌, refl, ap, sym}
use mathlib.Core.Bool.{Bool, true, false, cond}
use mathlib.Core.List.{List, [], ◌∷◌, ◌++◌, append_assoc, append-nil}
use mathlib.Core.Option.{Option, none, some}
use Prim.Native.Nat.{ℕ, suc, ◌+◌, ◌-◌, ◌<◌, ◌≤◌}
use native.Mathlib.Omega.{arith}
use lib.Dec.{eqb}
use lib.ListN.{length, take, drop, replicate, set}
use denote.Ref.{Bor}
use Rattle.std.specs.Option.{MatchOption}
use Rattle.std.specs.Prelude.{Option as Maybe, Some, None}
use Rattle.std.specs.Cmp.Lexicographic.{pointwise}
use Rattle.std.proofs.lemmas.List.{take_more_set, take_all}
use Rattle.read_field.specs.Words.{bytes, starts}
use Rattle.read_field.specs.Parts.{Part, give, more, into, next, word, number, numbers}
use Rattle.read_field.specs.Raw.{part, field_by}
use Rattle.read_field.proofs.Starts.{starts-pointwise}

pub word_is : (w s : List ℕ) (r : Maybe (Bor (List ℕ))) → MatchOption r (pointwise eqb (take (length w) s) w ≡ false) (λ x. (pointwise eqb (take (length w) s) w ≡ true) × (x.now ≡ drop (length w) s) × (length x.now + length w ≡ length s)) → part [] r ≡ word w s
word_is w s None h = rw (starts-pointwise w s, h) refl
word_is w s (Some x) h = rw (starts-pointwise w s, h.0, h.1) refl

pub some_none : {p : Part} → none ≡ some p → ⊥
some_none e = cc

abbrev rest_of : Option Part → List ℕ
rest_of none = []
rest_of (some p) = p.rest

pub rest-same : (t u : List ℕ) → give [] t ≡ give [] u → t ≡ u
rest-same t u e = ap rest_of e

-- parts read one behind another
pub more-nil : (o : Option Part) → more [] o ≡ o
unfolding more
more-nil none = refl
more-nil (some p) = refl

pub more-more : (vs ws : List ℕ) (o : Option Part) → more vs (more ws o) ≡ more (vs ++ ws) o
unfolding more
more-more vs ws none = refl
more-more vs ws (some p) = rw (append_assoc vs ws p.numbers) refl

part-more : (vs : List ℕ) (r : Maybe (Bor (List ℕ))) → part vs r ≡ more vs (part [] r)
unfolding more
part-more vs None = refl
part-more vs (Some x) = rw append-nil refl

-- a number behind one space, and numbers behind it
module _ (l : ℕ) (ls s : List ℕ) where
  pub numbers-no_space : none ≡ word (bytes " ") s → numbers (l ∷ ls) s ≡ none
  unfolding numbers into
  numbers-no_space e = rw (← e) refl

  module _ (t : List ℕ) (e : give [] t ≡ word (bytes " ") s) where
    pub numbers-no_number : none ≡ number l t → numbers (l ∷ ls) s ≡ none
    unfolding numbers into more
    numbers-no_number f = rw (← e, ← f) refl

    pub numbers-next : (v : ℕ) (u : List ℕ) → give (v ∷ []) u ≡ number l t → numbers (l ∷ ls) s ≡ more (v ∷ []) (numbers ls u)
    unfolding numbers into
    numbers-next v u f = rw (← e, ← f) (more-nil (more (v ∷ []) (numbers ls u)))

-- before the first place
pub places-all : (n limit : ℕ) (s : List ℕ) → more [] (numbers (replicate (n - 0) limit) s) ≡ numbers (replicate n limit) s
places-all n limit s = let e : n - 0 ≡ n = omega arith in rw (e, more-nil) refl

-- the loop over places: i of them are filled, and s is left
module _ (places : List ℕ) (i limit : ℕ) (s : List ℕ) (all : Option Part) (n : ℕ) (m : n ≡ length places)
    (h : more (take i places) (numbers (replicate (n - i) limit) s) ≡ all) where
  module _ (k : i < n) where
    ahead : replicate (n - i) limit ≡ limit ∷ replicate (n - (i + 1)) limit
    ahead = let e : n - i ≡ suc (n - (i + 1)) = omega arith in rw e refl

    stopped : numbers (limit ∷ replicate (n - (i + 1)) limit) s ≡ none → none ≡ all
    unfolding more
    stopped e = rw (ahead, e) at h

    pub places-no_space : none ≡ word (bytes " ") s → none ≡ all
    places-no_space e = stopped (numbers-no_space limit (replicate (n - (i + 1)) limit) s e)

    pub places-no_number : (t : List ℕ) → give [] t ≡ word (bytes " ") s → none ≡ number limit t → none ≡ all
    places-no_number t e f = stopped (numbers-no_number limit (replicate (n - (i + 1)) limit) s t e f)

    pub places-turn : (t : List ℕ) (v : ℕ) (u : List ℕ) → give [] t ≡ word (bytes " ") s → give (v ∷ []) u ≡ number limit t
        → more (take (i + 1) (set places i v)) (numbers (replicate (n - (i + 1)) limit) u) ≡ all
    places-turn t v u e f = rw (take_more_set places i v (omega arith), ← more-more) (rw (ahead, numbers-next limit (replicate (n - (i + 1)) limit) s t e v u f) at h)

  pub places-done : n ≤ i → give places s ≡ all
  unfolding numbers more
  places-done k = let e : n - i ≡ 0 = omega arith in rw (e, take_all i places (omega arith), append-nil) at h

-- ---- a field

module _ (w limits missing s : List ℕ) where
  pub field-missing : none ≡ word w s → give missing s ≡ field_by w limits missing s
  field-missing e = go (starts w s) e
    where
      go : (t : Bool) → none ≡ cond t (give [] (drop (length w) s)) none → give missing s ≡ cond t (next (numbers limits) (word (bytes ")")) (drop (length w) s)) (give missing s)
      go true e = absurd (some_none e)
      go false e = refl

  pub field-there : (t : List ℕ) → give [] t ≡ word w s → next (numbers limits) (word (bytes ")")) t ≡ field_by w limits missing s
  field-there t e = go (starts w s) e
    where
      go : (b : Bool) → give [] t ≡ cond b (give [] (drop (length w) s)) none → next (numbers limits) (word (bytes ")")) t ≡ cond b (next (numbers limits) (word (bytes ")")) (drop (length w) s)) (give missing s)
      go true e = rw (rest-same t (drop (length w) s) e) refl
      go false e = absurd (some_none (sym e))

  module _ (t : List ℕ) (e : give [] t ≡ word w s) where
    pub field-no_numbers : none ≡ numbers limits t → none ≡ field_by w limits missing s
    unfolding into
    field-no_numbers f = rw (← field-there t e, ← f) refl

    pub field-closed : (vs u : List ℕ) (r : Maybe (Bor (List ℕ))) → give vs u ≡ numbers limits t → part [] r ≡ word (bytes ")") u → part vs r ≡ field_by w limits missing s
    unfolding into
    field-closed vs u r f g = rw (← field-there t e, ← f, ← g) (part-more vs r)

pub ruleset places_laws = (places-all, places-no_space, places-no_number, places-turn, places-done)

pub ruleset field_laws = (field-missing, field-no_numbers, field-closed)
