-- How much an input of so many bytes can say. Assumes nothing.
use mathlib.Core.Path.{◌≡◌, refl, ap, ap₂, ◌∙◌, sym}
use mathlib.Core.Bool.{Bool, true, false, cond, ◌&&◌, not}
use mathlib.Core.List.{List, [], ◌∷◌, ◌++◌, flat_map}
use Prim.Native.Nat.{ℕ, suc, ◌+◌, ◌*◌, ◌≤◌}
use native.Mathlib.Omega.{arith}
use native.Mathlib.Nat.{mul-add, mul-zero, mul-one, mod-eq_of_lt}
use lib.Dec.{eqb}
use lib.ListN.{length, take, drop, length-append, take-append-drop}
use lib.Seq.{length-take-le}
use borrow.Author.Tests.{eqb-true}
use Rattle.endian.specs.Le.{enc}
use Rattle.records.specs.Select.{only}
use Rattle.records.proofs.Lists.{flat_append}
use Rattle.item.specs.Items.{Fields}
use Rattle.plan_bounds.specs.Ample.{most_records, most_places}
use Rattle.request.specs.declared.Volume.{Volume}
use Rattle.request.specs.declared.File.{File}
use Rattle.read_line.specs.Forms.{most}
use Rattle.read_line.proofs.Sound.{least, value-within, line-long, read_sound}
use Rattle.read_item.specs.Raw.{byte}
use Rattle.read_order.specs.Order.{next}
use Rattle.read_order.specs.Taking.{Numbers, comes, shared_of, volume_of, file_of, begin, taken, taken_to, items_in, shared_in, rows_in, places_in}
use Rattle.read_order.specs.Run.{Reading, after, along, reading_of}
use Rattle.read_store.proofs.Runs.{stored_more, shared-more, rows_more, places-more}
use Rattle.read_input.specs.Split.{onto, lines}
use Rattle.read_input.specs.Input.{kind_of, values_of, read_input}
use Rattle.extplan_reply.specs.Raw.{most_rows}

-- ---- bytes of lines

-- the bytes of lines, with a line's end for each
unfoldable sizes : List (List ℕ) → ℕ
sizes [] = 0
sizes (l ∷ ls) = (length l + 1) + sizes ls

onto-size : (b n : ℕ) (ls : List (List ℕ)) → sizes ls ≤ n + 1 → sizes (onto b ls) ≤ n + 2
unfolding sizes onto
onto-size b n [] h = omega arith
onto-size b n (l ∷ ls) h = omega arith

-- the last line may lack its end
lines-size : (s : List ℕ) → sizes (lines s) ≤ length s + 1
unfolding lines sizes
lines-size [] = omega arith
lines-size (b ∷ s) = go (eqb b 10) (lines-size s)
  where
    go : (e : Bool) → sizes (lines s) ≤ length s + 1 → sizes (cond e ([] ∷ lines s) (onto b (lines s))) ≤ suc (length s) + 1
    go true h = omega arith
    go false h = omega (arith, onto-size b (length s) (lines s) h)

-- ---- what lines add

module _ {A : Type 0} (g : Numbers → ℕ → List ℕ → List A) where
  -- each line that adds one has at least w bytes
  along-few : (w : ℕ) → ((r : Numbers) (l : List ℕ) → w * length (g r (kind_of l) (values_of l)) ≤ length l + 1) → (r : Numbers) (ls : List (List ℕ)) → w * length (along kind_of values_of g r ls) ≤ sizes ls
  unfolding along sizes
  along-few w h r [] = omega (arith, mul-zero w)
  along-few w h r (l ∷ ls) =
      let a : List A = g r (kind_of l) (values_of l) in
      let b : List A = along kind_of values_of g (taken r (kind_of l) (values_of l)) ls in
      rw (length-append a b, mul-add w (length a) (length b)) (omega (arith, h r l, along-few w h (taken r (kind_of l) (values_of l)) ls))

  -- a count that each of them moves by one
  along-count : (count : Numbers → ℕ) → ((r : Numbers) (k : ℕ) (v : List ℕ) → count (taken r k v) ≡ count r + length (g r k v)) → (r : Numbers) (ls : List (List ℕ)) → count (after kind_of values_of r ls) ≡ count r + length (along kind_of values_of g r ls)
  unfolding along after
  along-count count more r [] = omega arith
  along-count count more r (l ∷ ls) =
      let a : List A = g r (kind_of l) (values_of l) in
      let r' : Numbers = taken r (kind_of l) (values_of l) in
      omega (arith, along-count count more r' ls, more r (kind_of l) (values_of l), length-append a (along kind_of values_of g r' ls))

-- the file's items are among those that were stored
third : (m n p : ℕ) (x y : Bool) → eqb p 3 ≡ x → eqb p 0 ≡ y → m ≤ n → m + cond x 1 0 ≤ n + cond (not y) 1 0
third m n p false y e f h = omega arith
third m n p true false e f h = omega arith
third m n p true true e f h = absurd (omega (arith, eqb-true p 3 e, eqb-true p 0 f))

one-step : (m n p : ℕ) (b : Bool) → m ≤ n → m + cond (b && eqb p 3) 1 0 ≤ n + cond (b && not (eqb p 0)) 1 0
one-step m n p true h = third m n p (eqb p 3) (eqb p 0) refl refl h
one-step m n p false h = omega arith

items-step : (r : Numbers) (k : ℕ) (v : List ℕ) → r.items ≤ r.stored → (taken r k v).items ≤ (taken r k v).stored
unfolding taken taken_to
items-step r k v h = one-step r.items r.stored (next r.phase k) (eqb k 3) h

items-few : (r : Numbers) (ls : List (List ℕ)) → r.items ≤ r.stored → (after kind_of values_of r ls).items ≤ (after kind_of values_of r ls).stored
unfolding after
items-few r [] h = h
items-few r (l ∷ ls) h = items-few (taken r (kind_of l) (values_of l)) ls (items-step r (kind_of l) (values_of l) h)

-- ---- how long lines are that add something

-- a line of kind k, which has w - 1 bytes at least
only-long : {A : Type 0} (w k : ℕ) (p : ℕ) (l : List ℕ) (a : A) → w ≤ suc (least k) → w * length (only (comes k p (kind_of l)) a) ≤ length l + 1
only-long w k p l a h = go (eqb (kind_of l) k) (not (eqb p 0)) refl
  where
    go : (b c : Bool) → eqb (kind_of l) k ≡ b → w * length (only (b && c) a) ≤ length l + 1
    go true true e = omega (arith, line-long l k (eqb-true (kind_of l) k e), mul-one w)
    go true false e = omega (arith, mul-zero w)
    go false c e = omega (arith, mul-zero w)

item-long : (r : Numbers) (l : List ℕ) → 7 * length (items_in r (kind_of l) (values_of l)) ≤ length l + 1
unfolding items_in
item-long r l = only-long 7 3 (next r.phase (kind_of l)) l _ (omega arith)

row_long : (r : Numbers) (l : List ℕ) → 9 * length (rows_in r (kind_of l) (values_of l)) ≤ length l + 1
unfolding rows_in
row_long r l = only-long 9 4 (next r.phase (kind_of l)) l _ (omega arith)

place_long : (r : Numbers) (l : List ℕ) → 10 * length (places_in r (kind_of l) (values_of l)) ≤ length l + 1
unfolding places_in
place_long r l = only-long 10 5 (next r.phase (kind_of l)) l _ (omega arith)

-- ---- shared numbers are bytes

byte-same : (v : ℕ) → v ≤ 255 → byte v ≡ v ∷ []
unfolding enc
byte-same v h = ap (λ (x : ℕ). x ∷ []) (mod-eq_of_lt (omega arith))

line-shared : (r : Numbers) (l : List ℕ) → flat_map byte (shared_in r (kind_of l) (values_of l)) ≡ shared_in r (kind_of l) (values_of l)
unfolding shared_in flat_map
line-shared r l = go (eqb (kind_of l) 3) (not (eqb (next r.phase (kind_of l)) 0)) refl
  where
    go : (b c : Bool) → eqb (kind_of l) 3 ≡ b → flat_map byte (only (b && c) (shared_of (values_of l))) ≡ only (b && c) (shared_of (values_of l))
    go true true e = rw (byte-same (shared_of (values_of l)) (value-within l 3 11 (eqb-true (kind_of l) 3 e))) refl
    go true false e = refl
    go false c e = refl

along-shared : (r : Numbers) (ls : List (List ℕ)) → flat_map byte (along kind_of values_of shared_in r ls) ≡ along kind_of values_of shared_in r ls
unfolding along
along-shared r [] = unfold flat_map in refl
along-shared r (l ∷ ls) =
    let a : List ℕ = shared_in r (kind_of l) (values_of l) in
    let b : List ℕ = along kind_of values_of shared_in (taken r (kind_of l) (values_of l)) ls in
    flat_append byte a b ∙ ap₂ (λ (x y : List ℕ). x ++ y) (line-shared r l) (along-shared (taken r (kind_of l) (values_of l)) ls)

-- ---- of a whole input

-- what the counts of a reading are, and how far they go
pub record Known (x : Reading) : Type 0 where
  pub items : x.numbers.items ≡ length x.items
  pub stored : x.numbers.stored ≡ length (x.items ++ x.source)
  pub shared : x.numbers.stored ≡ length x.shared
  pub bytes : flat_map byte x.shared ≡ x.shared
  pub rows : x.numbers.rows ≡ length x.rows
  pub places : x.numbers.places ≡ length x.places
  pub few_items : length (x.items ++ x.source) ≤ most_records
  pub few_rows : length x.rows ≤ most_rows
  pub few_places : length x.places ≤ most_places

pub known : (s : List ℕ) → length s ≤ 65536 → Known (read_input s)
unfolding read_input reading_of begin
known s h =
    let ls : List (List ℕ) = lines s in
    let all : List Fields = along kind_of values_of items_in begin ls in
    let n : ℕ = (after kind_of values_of begin ls).items in
    let size = lines-size s in
    let stored = along-count items_in (λ (x : Numbers). x.stored) stored_more begin ls in
    let few = items-few begin ls (omega arith) in
    let whole : take n all ++ drop n all ≡ all = take-append-drop n all in
    record {
      items = sym (length-take-le n all (omega (arith, stored, few)));
      stored = rw whole (omega (arith, stored));
      shared = omega (arith, along-count shared_in (λ (x : Numbers). x.stored) shared-more begin ls);
      bytes = along-shared begin ls;
      rows = omega (arith, along-count rows_in (λ (x : Numbers). x.rows) rows_more begin ls);
      places = omega (arith, along-count places_in (λ (x : Numbers). x.places) places-more begin ls);
      few_items = rw whole (omega (arith, along-few items_in 7 item-long begin ls, size, h));
      few_rows = omega (arith, along-few rows_in 9 row_long begin ls, size, h);
      few_places = omega (arith, along-few places_in 10 place_long begin ls, size, h);
    }

-- ---- the number of the next line

lines_rise : (r : Numbers) (ls : List (List ℕ)) → r.line ≤ (after kind_of values_of r ls).line
unfolding after taken taken_to
lines_rise r [] = omega arith
lines_rise r (l ∷ ls) = omega (arith, lines_rise (taken r (kind_of l) (values_of l)) ls)

-- the first line is line 1
pub line_some : (s : List ℕ) → (read_input s).numbers.line ≡ 0 → ⊥
unfolding read_input reading_of begin
line_some s e = omega (arith, lines_rise begin (lines s))

-- ---- numbers of 64 bits

generation_fits : (b : Bool) (v w : Volume) → v.generation ≤ most → w.generation ≤ most → (cond b v w).generation ≤ most
generation_fits true v w h k = h
generation_fits false v w h k = k

number_fits : (b : Bool) (f g : File) → f.number ≤ most → g.number ≤ most → (cond b f g).number ≤ most
number_fits true f g h k = h
number_fits false f g h k = k

pub record Narrow (r : Numbers) : Type 0 where
  pub generation : r.volume.generation ≤ most
  pub number : r.file.number ≤ most

narrow_after : (r : Numbers) (ls : List (List ℕ)) → Narrow r → Narrow (after kind_of values_of r ls)
unfolding after taken taken_to
narrow_after r [] n = n
narrow_after r (l ∷ ls) n =
    narrow_after (taken r (kind_of l) (values_of l)) ls
    (record {
      generation = generation_fits (eqb (next r.phase (kind_of l)) 2) (volume_of (values_of l)) r.volume ((read_sound l).fits 2) n.generation;
      number = number_fits (eqb (kind_of l) 2 && eqb (next r.phase (kind_of l)) 3) (file_of (values_of l)) r.file ((read_sound l).fits 0) n.number;
    })

pub narrow : (s : List ℕ) → Narrow (read_input s).numbers
unfolding read_input reading_of begin
narrow s = narrow_after begin (lines s) (record { generation = omega arith; number = omega arith })
