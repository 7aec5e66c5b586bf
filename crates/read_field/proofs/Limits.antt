-- What a reader gives: numbers within their limits, of a text that is long enough. Assumes nothing.
use mathlib.Core.Path.{◌≡◌, refl, ap}
use mathlib.Core.Bool.{Bool, true, false, cond, false≢true}
use mathlib.Core.List.{List, [], ◌∷◌, ◌++◌, append-nil}
use mathlib.Core.Option.{Option, none, some}
use Prim.Native.Nat.{ℕ, zero, suc, ◌+◌, ◌≤◌}
use native.Mathlib.Omega.{arith}
use lib.Dec.{eqb, leb}
use lib.ListN.{length, drop, get_or, replicate, length-drop}
use borrow.Author.Tests.{leb-true}
use Rattle.records.proofs.Tests.{both_left, both_right}
use Rattle.read_field.specs.Decimal.{is_digit, digits, value, plain, sound}
use Rattle.read_field.specs.Words.{bytes, starts}
use Rattle.read_field.proofs.Starts.{starts-room}
use Rattle.read_field.specs.Parts.{Part, Parser, give, more, into, next, word, number, numbers, end}
use Rattle.read_field.specs.Fields.{Field, field_opening, field, fields}

-- numbers, each within its limit
abbrev pub Within : List ℕ → List ℕ → Type 0
Within [] [] = Unit {0}
Within [] (l ∷ ls) = ⊥
Within (v ∷ vs) [] = ⊥
Within (v ∷ vs) (l ∷ ls) = (v ≤ l) × Within vs ls

within_append : (vs ls ws ms : List ℕ) → Within vs ls → Within ws ms → Within (vs ++ ws) (ls ++ ms)
within_append [] [] ws ms h k = k
within_append [] (l ∷ ls) ws ms h k = absurd h
within_append (v ∷ vs) [] ws ms h k = absurd h
within_append (v ∷ vs) (l ∷ ls) ws ms h k = (h.0, within_append vs ls ws ms h.1 k)

pub within-length : (vs ls : List ℕ) → Within vs ls → length vs ≡ length ls
within-length [] [] h = refl
within-length [] (l ∷ ls) h = absurd h
within-length (v ∷ vs) [] h = absurd h
within-length (v ∷ vs) (l ∷ ls) h = ap suc (within-length vs ls h.1)

-- with zeros behind both, by number
pub within-at : (n : ℕ) (vs ls : List ℕ) → Within vs ls → (i : ℕ) → get_or (vs ++ replicate n 0) i 0 ≤ get_or (ls ++ replicate n 0) i 0
within-at n [] [] h i = omega arith
within-at n [] (l ∷ ls) h i = absurd h
within-at n (v ∷ vs) [] h i = absurd h
within-at n (v ∷ vs) (l ∷ ls) h zero = h.0
within-at n (v ∷ vs) (l ∷ ls) h (suc i) = within-at n vs ls h.1 i

-- q reads numbers within these limits, and at least n bytes
abbrev pub Gives : List ℕ → ℕ → List ℕ → Option Part → Type 0
Gives ls n s none = Unit {0}
Gives ls n s (some p) = Within p.numbers ls × (n + length p.rest ≤ length s)

abbrev pub Reads : List ℕ → ℕ → Parser → Type 0
Reads ls n q = (s : List ℕ) → Gives ls n s (q s)

gives_more : (ls ms : List ℕ) (n m : ℕ) (s : List ℕ) (p : Part) (o : Option Part) → Gives ls n s (some p) → Gives ms m p.rest o → Gives (ls ++ ms) (n + m) s (more p.numbers o)
unfolding more
gives_more ls ms n m s p none a b = tt
gives_more ls ms n m s p (some r) a b = (within_append p.numbers ls r.numbers ms a.0 b.0, omega (arith, a.1, b.1))

pub reads_next : (ls ms : List ℕ) (n m : ℕ) (q r : Parser) → Reads ls n q → Reads ms m r → Reads (ls ++ ms) (n + m) (next q r)
unfolding into
reads_next ls ms n m q r f g s = go (q s) (f s)
  where
    go : (o : Option Part) → Gives ls n s o → Gives (ls ++ ms) (n + m) s (into o r)
    go none a = tt
    go (some p) a = gives_more ls ms n m s p (r p.rest) a (g p.rest)

pub reads_word : (w : List ℕ) → Reads [] (length w) (word w)
reads_word w s = go (starts w s) refl
  where
    go : (t : Bool) → starts w s ≡ t → Gives [] (length w) s (cond t (give [] (drop (length w) s)) none)
    go true e = (tt, omega (arith, starts-room w s e, length-drop (length w) s))
    go false e = tt

digits_short : (s : List ℕ) → length (digits s) ≤ length s
unfolding digits
digits_short [] = omega arith
digits_short (b ∷ s) = go (is_digit b) (digits_short s)
  where
    go : (t : Bool) → length (digits s) ≤ length s → length (cond t (b ∷ digits s) []) ≤ suc (length s)
    go true h = omega arith
    go false h = omega arith

plain-some : (ds : List ℕ) → plain ds ≡ true → 1 ≤ length ds
unfolding plain
plain-some [] h = absurd (false≢true h)
plain-some (d ∷ ds) h = omega arith

reads_number : (l : ℕ) → Reads (l ∷ []) 1 (number l)
reads_number l s = go (sound l (digits s)) refl
  where
    go : (t : Bool) → sound l (digits s) ≡ t → Gives (l ∷ []) 1 s (cond t (give (value 0 (digits s) ∷ []) (drop (length (digits s)) s)) none)
    go true e = (
      (leb-true (value 0 (digits s)) l (both_right (plain (digits s)) (leb (value 0 (digits s)) l) e), tt),
      omega (arith, plain-some (digits s) (both_left (plain (digits s)) (leb (value 0 (digits s)) l) e), digits_short s, length-drop (length (digits s)) s),
    )
    go false e = tt

-- a space and a digit at least for each number
abbrev pub span : List ℕ → ℕ
span [] = 0
span (l ∷ ls) = 1 + (1 + span ls)

pub reads_numbers : (ls : List ℕ) → Reads ls (span ls) (numbers ls)
unfolding numbers
reads_numbers [] = λ s. (tt, omega arith)
reads_numbers (l ∷ ls) = reads_next [] (l ∷ ls) 1 (1 + span ls) _ _ (reads_word (bytes " ")) (reads_next (l ∷ []) ls 1 (span ls) _ _ (reads_number l) (reads_numbers ls))

-- what is missing keeps to the limits too
reads_field : (f : Field) → Within f.missing f.limits → Reads f.limits 0 (field f)
reads_field f h s = go (starts w s) refl
  where
    w : List ℕ
    w = field_opening f.name

    less : (t : List ℕ) → length t ≤ length s → (o : Option Part) → Gives (f.limits ++ []) (span f.limits + 1) t o → Gives f.limits 0 s o
    less t k none a = tt
    less t k (some p) a = (rw (append-nil f.limits) at a.0, omega (arith, a.1))

    go : (t : Bool) → starts w s ≡ t → Gives f.limits 0 s (cond t (next (numbers f.limits) (word (bytes ")")) (drop (length w) s)) (give f.missing s))
    go true e = less (drop (length w) s) (omega (arith, length-drop (length w) s)) (next (numbers f.limits) (word (bytes ")")) (drop (length w) s)) (reads_next f.limits [] (span f.limits) 1 (numbers f.limits) (word (bytes ")")) (reads_numbers f.limits) (reads_word (bytes ")")) (drop (length w) s))
    go false e = (h, omega arith)

abbrev pub AllMissing : List Field → Type 0
AllMissing [] = Unit {0}
AllMissing (f ∷ fs) = Within f.missing f.limits × AllMissing fs

-- the limits of fields, one behind the other
abbrev pub limits_of : List Field → List ℕ
limits_of [] = []
limits_of (f ∷ fs) = f.limits ++ limits_of fs

pub reads_fields : (fs : List Field) → AllMissing fs → Reads (limits_of fs) 0 (fields fs)
unfolding fields
reads_fields [] h = λ s. (tt, omega arith)
reads_fields (f ∷ fs) h = reads_next f.limits (limits_of fs) 0 0 (field f) (fields fs) (reads_field f h.0) (reads_fields fs h.1)

-- nothing is left behind the end
pub reads_end : Reads [] 0 end
reads_end s = go (eqb (length s) 0)
  where
    go : (t : Bool) → Gives [] 0 s (cond t (give [] s) none)
    go true = (tt, omega arith)
    go false = tt
