-- What every line that was read is like, for those who go on with it. Assumes nothing.
use mathlib.Core.Path.{◌≡◌, refl, ◌∙◌}
use mathlib.Core.Bool.{Bool, true, false, cond}
use mathlib.Core.List.{List, [], ◌∷◌, ◌++◌, append-nil}
use mathlib.Core.Option.{Option, none, some}
use Prim.Native.Nat.{ℕ, zero, suc, ◌+◌, ◌-◌, ◌≤◌}
use native.Mathlib.Omega.{arith}
use lib.Dec.{leb}
use lib.ListN.{length, drop, get_or, replicate, length-append, length-replicate, length-drop}
use borrow.Author.Tests.{leb-true}
use Rattle.records.specs.Stages.{every}
use Rattle.records.proofs.Tests.{both_left, both_right}
use Rattle.read_field.specs.Words.{bytes, starts}
use Rattle.read_field.proofs.Starts.{starts-room}
use Rattle.read_field.specs.Parts.{Part, word, numbers, end, filled}
use Rattle.read_field.specs.Fields.{fields}
use Rattle.read_field.proofs.Limits.{Within, within-length, within-at, Gives, AllMissing, limits_of, span, reads_next, reads_word, reads_numbers, reads_fields, reads_end}
use Rattle.read_line.specs.Forms.{Shape, shapes, most, opening, whole_line, Line, line_of, unreadable, read_by, read_line}
use Rattle.read_line.specs.Raw.{shape_at}

-- the limits of a shape's numbers, and the fewest bytes of such a line
abbrev pub limits : Shape → List ℕ
limits h = h.limits ++ limits_of h.fields

abbrev pub shortest : Shape → ℕ
shortest h = length (opening h.name) + (span h.limits + 1)

-- the same by kind: the greatest values, filled up with zeros, and the fewest bytes. Kind 0 has none.
abbrev pub greatest : ℕ → List ℕ
greatest zero = filled []
greatest (suc n) = filled (limits (shape_at n))

abbrev pub least : ℕ → ℕ
least zero = 0
least (suc n) = shortest (shape_at n)

pub record Sound (s : List ℕ) (l : Line) : Type 0 where
  pub known : l.kind ≤ 8
  pub twelve : length l.values ≡ 12
  pub within : (i : ℕ) → get_or l.values i 0 ≤ get_or (greatest l.kind) i 0
  pub fits : (i : ℕ) → get_or l.values i 0 ≤ most
  pub long : least l.kind ≤ length s

filled_twelve : (vs : List ℕ) → length vs ≤ 12 → length (filled vs) ≡ 12
filled_twelve vs h = length-append vs (replicate (12 - length vs) 0) ∙ rw (length-replicate {A = ℕ} (12 - length vs) 0) (omega arith)

zeros_fit : (n i : ℕ) → get_or (replicate n 0) i 0 ≤ most
zeros_fit zero i = omega arith
zeros_fit (suc n) zero = omega arith
zeros_fit (suc n) (suc i) = zeros_fit n i

every_fits : (ls : List ℕ) → every (λ (l : ℕ). leb l most) ls ≡ true → (i : ℕ) → get_or ls i 0 ≤ most
unfolding every
every_fits [] h i = omega arith
every_fits (l ∷ ls) h zero = leb-true l most (both_left (leb l most) (every (λ (k : ℕ). leb k most) ls) h)
every_fits (l ∷ ls) h (suc i) = every_fits ls (both_right (leb l most) (every (λ (k : ℕ). leb k most) ls) h) i

none-sound : (s : List ℕ) → Sound s unreadable
none-sound s = record { known = omega arith; twelve = refl; within = λ i. omega arith; fits = λ i. zeros_fit 12 i; long = omega arith }

-- a row of the table: what is missing keeps to its limits, there are at most twelve numbers of 64 bits, and its kind says
-- where it stands
pub record Row (h : Shape) : Type 0 where
  pub missing : AllMissing h.fields
  pub few : length (limits h) ≤ 12
  pub small : every (λ (l : ℕ). leb l most) (filled (limits h)) ≡ true
  pub known : h.kind ≤ 8
  pub kind_limits : greatest h.kind ≡ filled (limits h)
  pub kind_length : least h.kind ≡ shortest h

row_sound_lem : (s : List ℕ) (h : Shape) → Row h → starts (opening h.name) s ≡ true → Sound s (line_of h.kind (whole_line h (drop (length (opening h.name)) s)))
row_sound_lem s h r e = go (whole_line h t) (all t)
  where
    t : List ℕ
    t = drop (length (opening h.name)) s

    all : (u : List ℕ) → Gives (limits h ++ []) (span h.limits + 0 + (1 + 0)) u (whole_line h u)
    all =
        reads_next (limits h) [] (span h.limits + 0) (1 + 0) _ _
        (reads_next h.limits (limits_of h.fields) (span h.limits) 0 (numbers h.limits) (fields h.fields) (reads_numbers h.limits) (reads_fields h.fields r.missing))
        (reads_next [] [] 1 0 (word (bytes ")")) end (reads_word (bytes ")")) reads_end)

    go : (o : Option Part) → Gives (limits h ++ []) (span h.limits + 0 + (1 + 0)) t o → Sound s (line_of h.kind o)
    go none g = none-sound s
    go (some p) g =
        let w : Within p.numbers (limits h) = rw (append-nil (limits h)) at g.0 in
        let n = within-length p.numbers (limits h) w in
        let near : (i : ℕ) → get_or (filled p.numbers) i 0 ≤ get_or (filled (limits h)) i 0 = λ i. rw (← n) (within-at (12 - length p.numbers) p.numbers (limits h) w i) in
        record {
          known = r.known;
          twelve = filled_twelve p.numbers (omega (arith, r.few));
          within = λ i. rw r.kind_limits (near i);
          fits = λ i. omega (arith, near i, every_fits (filled (limits h)) r.small i);
          long = rw r.kind_length (omega (arith, g.1, starts-room (opening h.name) s e, length-drop (length (opening h.name)) s));
        }

abbrev Rows : List Shape → Type 0
Rows [] = Unit {0}
Rows (h ∷ hs) = Row h × Rows hs

rows-sound : (s : List ℕ) (hs : List Shape) → Rows hs → Sound s (read_by hs s)
unfolding read_by
rows-sound s [] r = none-sound s
rows-sound s (h ∷ hs) r = go (starts (opening h.name) s) refl (rows-sound s hs r.1)
  where
    go : (t : Bool) → starts (opening h.name) s ≡ t → Sound s (read_by hs s) → Sound s (cond t (line_of h.kind (whole_line h (drop (length (opening h.name)) s))) (read_by hs s))
    go true e k = row_sound_lem s h r.0 e
    go false e k = k

all_rows : Rows shapes
unfolding every
all_rows = (record { missing = ((omega arith, tt), ((omega arith, tt), ((omega arith, tt), ((omega arith, tt), tt)))); few = omega arith; small = refl; known = omega arith; kind_limits = refl; kind_length = refl }, (record { missing = ((omega arith, tt), ((omega arith, tt), ((omega arith, tt), tt))); few = omega arith; small = refl; known = omega arith; kind_limits = refl; kind_length = refl }, (record { missing = ((omega arith, tt), ((omega arith, tt), ((omega arith, (omega arith, tt)), ((omega arith, (omega arith, tt)), ((omega arith, tt), ((omega arith, tt), ((omega arith, tt), ((omega arith, tt), ((omega arith, tt), ((omega arith, tt), tt)))))))))); few = omega arith; small = refl; known = omega arith; kind_limits = refl; kind_length = refl }, (record { missing = ((omega arith, tt), ((omega arith, tt), ((omega arith, tt), ((omega arith, tt), ((omega arith, tt), tt))))); few = omega arith; small = refl; known = omega arith; kind_limits = refl; kind_length = refl }, (record { missing = tt; few = omega arith; small = refl; known = omega arith; kind_limits = refl; kind_length = refl }, (record { missing = ((omega arith, tt), ((omega arith, tt), tt)); few = omega arith; small = refl; known = omega arith; kind_limits = refl; kind_length = refl }, (record { missing = ((omega arith, tt), ((omega arith, tt), ((omega arith, tt), tt))); few = omega arith; small = refl; known = omega arith; kind_limits = refl; kind_length = refl }, (record { missing = ((omega arith, tt), ((omega arith, tt), ((omega arith, tt), tt))); few = omega arith; small = refl; known = omega arith; kind_limits = refl; kind_length = refl }, tt))))))))

pub read_sound : (s : List ℕ) → Sound s (read_line s)
unfolding read_line
read_sound s = rows-sound s shapes all_rows

-- by kind: a value against its limit, and a line against the shortest of its kind
pub value-within : (s : List ℕ) (k i : ℕ) → (read_line s).kind ≡ k → get_or (read_line s).values i 0 ≤ get_or (greatest k) i 0
value-within s k i e = rw (← e) ((read_sound s).within i)

pub line-long : (s : List ℕ) (k : ℕ) → (read_line s).kind ≡ k → least k ≤ length s
line-long s k e = rw (← e) (read_sound s).long

-- what these say of an item, of the flags of a file and a fallocate, and of the length of lines that come often
pub record ItemSmall (vs : List ℕ) : Type 0 where
  pub kind : get_or vs 1 0 ≤ 255
  pub compression : get_or vs 8 0 ≤ 255
  pub encryption : get_or vs 9 0 ≤ 255
  pub other : get_or vs 10 0 ≤ 65535
  pub shared : get_or vs 11 0 ≤ 255

module _ (s : List ℕ) where
  pub item-small : (read_line s).kind ≡ 3 → ItemSmall (read_line s).values
  item-small e =
      record {
        kind = value-within s 3 1 e;
        compression = value-within s 3 8 e;
        encryption = value-within s 3 9 e;
        other = value-within s 3 10 e;
        shared = value-within s 3 11 e;
      }

  pub cow_small : (read_line s).kind ≡ 2 → get_or (read_line s).values 2 0 ≤ 1
  cow_small = value-within s 2 2

  pub keep-small : (read_line s).kind ≡ 7 → get_or (read_line s).values 2 0 ≤ 1
  keep-small = value-within s 7 2

  pub item-long : (read_line s).kind ≡ 3 → 6 ≤ length s
  item-long = line-long s 3

  pub extent-long : (read_line s).kind ≡ 4 → 8 ≤ length s
  extent-long = line-long s 4

  pub place_long : (read_line s).kind ≡ 5 → 9 ≤ length s
  place_long = line-long s 5
