-- The laws of drops: what they are refused with, and how many lines they give. Assumes nothing.
use mathlib.Core.Path.{◌≡◌, refl, ap, ◌∙◌, sym}
use mathlib.Core.Bool.{Bool, true, false, cond, ◌&&◌, ◌||◌, not}
use mathlib.Core.List.{List, [], ◌∷◌, map, flat_map}
use Prim.Native.Nat.{ℕ, suc, ◌+◌, ◌<◌, ◌≤◌}
use native.Mathlib.Omega.{arith}
use lib.Dec.{eqb, ltb}
use lib.ListN.{length}
use borrow.Author.Tests.{eqb-true, eqb-false, eq-eqb, ne_eqb, ltb-true, ltb-false, lt-ltb, le-ltb}
use Rattle.std.specs.Prelude.{Some, None}
use Rattle.records.specs.Select.{any, count}
use Rattle.records.specs.Stages.{unless, every}
use Rattle.records.proofs.Tests.{both, both_left, both_right, either_right, implied, imply, every_map, every-keep, unless-zero}
use Rattle.records.proofs.Counts.{count_append, count_map, count-keep, count_same, keep-length, count_either, count-given, count_never}
use Rattle.item.specs.Items.{Fields}
use Rattle.table.specs.declared.Row.{Row}
use Rattle.table.specs.Rows.{Found, table_kept, find_from, find, with_row}
use Rattle.table.proofs.Laws.{kept-tail, kept_rising, none-missing, found_start}
use Rattle.cut_def.specs.Refs.{Ref, ref_of}
use Rattle.ref_def.specs.Drops.{InLeaf, in_leaves, drop_refusal, Due, earlier, due_of, drops_refusal, drops_of, lines, released, releases, unrefs}
use Rattle.table.specs.Windows.{window_sound}
use Rattle.ref_def.proofs.Compared.{eqb_swap}

-- ---- items with their bytes

-- a list's items, where each has a byte
pub leaves-items : (fs : List Fields) (bs : List ℕ) → length bs ≡ length fs → map (λ (h : InLeaf). h.item) (in_leaves fs bs) ≡ fs
unfolding in_leaves
leaves-items [] bs h = refl
leaves-items (f ∷ fs) [] h = absurd (omega arith)
leaves-items (f ∷ fs) (b ∷ bs) h = ap (λ (l : List Fields). f ∷ l) (leaves-items fs bs (omega arith))

-- as many items pass as before
pub leaves-count : (p : Fields → Bool) (fs : List Fields) (bs : List ℕ) → length bs ≡ length fs → count (λ (h : InLeaf). p h.item) (in_leaves fs bs) ≡ count p fs
leaves-count p fs bs h = sym (count_map p (λ (h : InLeaf). h.item) (in_leaves fs bs)) ∙ ap (count p) (leaves-items fs bs h)

-- no byte is 1: no leaf is shared
pub leaves-unshared : (fs : List Fields) (bs : List ℕ) → every (λ (b : ℕ). eqb b 0) bs ≡ true → every (λ (h : InLeaf). eqb h.shared 0) (in_leaves fs bs) ≡ true
unfolding in_leaves every
leaves-unshared [] bs h = refl
leaves-unshared (f ∷ fs) [] h = refl
leaves-unshared (f ∷ fs) (b ∷ bs) h = both (eqb b 0) (every (λ (h : InLeaf). eqb h.shared 0) (in_leaves fs bs)) (both_left (eqb b 0) (every (λ (b : ℕ). eqb b 0) bs) h) (leaves-unshared fs bs (both_right (eqb b 0) (every (λ (b : ℕ). eqb b 0) bs) h))

pub leaves-length : (fs : List Fields) (bs : List ℕ) → length bs ≡ length fs → length (in_leaves fs bs) ≡ length fs
unfolding in_leaves
leaves-length [] bs h = refl
leaves-length (f ∷ fs) [] h = absurd (omega arith)
leaves-length (f ∷ fs) (b ∷ bs) h = ap suc (leaves-length fs bs (omega arith))

-- ---- refusals

module _ (rows : List Row) (f : Fields) where
  -- a drop is accepted if it has a row and lies inside it
  pub drop_row : drop_refusal rows f ≡ 0 → (k : ℕ) × (row : Row) × (find f.extent_start rows ≡ Some (k, row)) × (window_sound f row ≡ true)
  drop_row h = go (find f.extent_start rows) refl h
    where
      go : (o : Found) → find f.extent_start rows ≡ o → with_row o (λ (row : Row). unless (window_sound f row) 17) ≡ 0
          → (k : ℕ) × (row : Row) × (find f.extent_start rows ≡ Some (k, row)) × (window_sound f row ≡ true)
      go (Some (k, row)) e h = (k, row, e, unless-zero (window_sound f row) 17 h (λ z. omega arith))
      go None e h = absurd (omega arith)

  pub row_drop : (k : ℕ) (row : Row) → find f.extent_start rows ≡ Some (k, row) → window_sound f row ≡ true → drop_refusal rows f ≡ 0
  row_drop k row e h = rw e (rw h refl)

earlier-zero : (d e : Due) → eqb (earlier d e).number 0 ≡ (eqb d.number 0 && eqb e.number 0)
earlier-zero d e = go (eqb d.number 0) (eqb e.number 0) (ltb e.start d.start) refl refl
  where
    go : (a b c : Bool) → eqb d.number 0 ≡ a → eqb e.number 0 ≡ b → eqb (cond a e (cond (not b && c) e d)).number 0 ≡ (a && b)
    go true b c p q = q
    go false true c p q = p
    go false false true p q = q
    go false false false p q = p

-- drops are accepted if each is
drops_each : (rows : List Row) (ds : List InLeaf) → eqb (drops_refusal rows ds) 0 ≡ every (λ (d : InLeaf). eqb (drop_refusal rows d.item) 0) ds
unfolding due_of every
drops_each rows [] = refl
drops_each rows (d ∷ ds) =
    earlier-zero (record { start = d.item.extent_start; number = drop_refusal rows d.item }) (due_of rows ds)
    ∙ ap (λ (b : Bool). eqb (drop_refusal rows d.item) 0 && b) (drops_each rows ds)

module _ (rows : List Row) (ds : List InLeaf) where
  pub drops_accepted : drops_refusal rows ds ≡ 0 → every (λ (d : InLeaf). eqb (drop_refusal rows d.item) 0) ds ≡ true
  drops_accepted h = sym (drops_each rows ds) ∙ eq-eqb (drops_refusal rows ds) 0 h

  pub accepted_drops : every (λ (d : InLeaf). eqb (drop_refusal rows d.item) 0) ds ≡ true → drops_refusal rows ds ≡ 0
  accepted_drops h = eqb-true (drops_refusal rows ds) 0 (drops_each rows ds ∙ h)

-- a drop is refused so
abbrev pub refused_so : List Row → Due → InLeaf → Bool
refused_so rows due d = eqb d.item.extent_start due.start && eqb (drop_refusal rows d.item) due.number

-- a drop below a start is accepted
abbrev pub accepted_below : List Row → ℕ → InLeaf → Bool
accepted_below rows start d = not (ltb d.item.extent_start start) || eqb (drop_refusal rows d.item) 0

-- one is refused so, and every drop with a lower start is accepted
pub record Lowest (rows : List Row) (ds : List InLeaf) (due : Due) : Type 0 where
  pub refused : any (refused_so rows due) ds ≡ true
  pub below : every (accepted_below rows due.start) ds ≡ true

module _ (rows : List Row) (d : InLeaf) (ds : List InLeaf) where
  abbrev due_here : Due
  due_here = record { start = d.item.extent_start; number = drop_refusal rows d.item }

  lowest_here : every (accepted_below rows d.item.extent_start) ds ≡ true → Lowest rows (d ∷ ds) due_here
  unfolding any every
  lowest_here h =
      record {
        refused = rw (eq-eqb d.item.extent_start d.item.extent_start refl, eq-eqb (drop_refusal rows d.item) (drop_refusal rows d.item) refl) refl;
        below = rw (le-ltb d.item.extent_start d.item.extent_start (omega arith)) h;
      }

  lowest_next : (due : Due) → accepted_below rows due.start d ≡ true → Lowest rows ds due → Lowest rows (d ∷ ds) due
  unfolding any every
  lowest_next due h l =
      record {
        refused = either_right (refused_so rows due d) (any (refused_so rows due) ds) l.refused;
        below = both (accepted_below rows due.start d) (every (accepted_below rows due.start) ds) h l.below;
      }

  -- one more drop
  lowest_cons : (e : Due) → (e.number ≡ 0 → every (λ (d : InLeaf). eqb (drop_refusal rows d.item) 0) ds ≡ true) → ((e.number ≡ 0 → ⊥) → Lowest rows ds e)
      → ((earlier due_here e).number ≡ 0 → ⊥) → Lowest rows (d ∷ ds) (earlier due_here e)
  lowest_cons e none some = go (eqb (drop_refusal rows d.item) 0) (eqb e.number 0) (ltb e.start d.item.extent_start) refl refl refl
    where
      go : (a b c : Bool) → eqb (drop_refusal rows d.item) 0 ≡ a → eqb e.number 0 ≡ b → ltb e.start d.item.extent_start ≡ c
          → ((cond a e (cond (not b && c) e due_here)).number ≡ 0 → ⊥) → Lowest rows (d ∷ ds) (cond a e (cond (not b && c) e due_here))
      go true b c p q r h = lowest_next e (either_right (not (ltb d.item.extent_start e.start)) (eqb (drop_refusal rows d.item) 0) p) (some h)
      go false true c p q r h =
          lowest_here (every_map (λ (x : InLeaf). eqb (drop_refusal rows x.item) 0) (accepted_below rows d.item.extent_start) (λ x. either_right (not (ltb x.item.extent_start d.item.extent_start)) (eqb (drop_refusal rows x.item) 0)) ds (none (eqb-true e.number 0 q)))
      go false false true p q r h =
          let l : e.start < d.item.extent_start = ltb-true e.start d.item.extent_start r in
          lowest_next e (rw (le-ltb d.item.extent_start e.start (omega arith)) refl) (some h)
      go false false false p q r h =
          let l : d.item.extent_start ≤ e.start = ltb-false e.start d.item.extent_start r in
          lowest_here
          (every_map (accepted_below rows e.start) (accepted_below rows d.item.extent_start)
          (λ x k.
          imply (ltb x.item.extent_start d.item.extent_start) (eqb (drop_refusal rows x.item) 0)
          (λ t.
          let m : x.item.extent_start < d.item.extent_start = ltb-true x.item.extent_start d.item.extent_start t in
          implied (ltb x.item.extent_start e.start) (eqb (drop_refusal rows x.item) 0) k (lt-ltb x.item.extent_start e.start (omega arith))))
          ds (some (eqb-false e.number 0 q)).below)

-- of drops that are refused, one with the lowest start counts
pub due_lowest : (rows : List Row) (ds : List InLeaf) → (drops_refusal rows ds ≡ 0 → ⊥) → Lowest rows ds (due_of rows ds)
unfolding due_of
due_lowest rows [] h = absurd (h refl)
due_lowest rows (d ∷ ds) h = lowest_cons rows d ds (due_of rows ds) (drops_accepted rows ds) (due_lowest rows ds) h

-- ---- lines

-- the drops of an extent, counted
pub drops-number : (s : ℕ) (ds : List InLeaf) → length (drops_of s ds) ≡ count (λ (d : InLeaf). eqb d.item.extent_start s) ds
drops-number s ds = keep-length (λ (d : InLeaf). eqb d.item.extent_start s) ds

-- the lines of an extent, by any test
lines-count : (p : Ref → Bool) (s : ℕ) (ds : List InLeaf) → count p (lines s ds) ≡ count (λ (d : InLeaf). eqb d.item.extent_start s && p (ref_of d.item)) ds
lines-count p s ds =
    count_map p (λ (d : InLeaf). ref_of d.item) (drops_of s ds)
    ∙ count-keep (λ (d : InLeaf). p (ref_of d.item)) (λ (d : InLeaf). eqb d.item.extent_start s) ds

-- a drop gives a line of one kind or the other
all_lines : (p : Ref → Bool) (ds : List InLeaf) (rows : List Row) → count p (releases rows ds) + count p (unrefs rows ds) ≡ count p (flat_map (λ (row : Row). lines row.start ds) rows)
unfolding flat_map count
all_lines p ds [] = refl
all_lines p ds (r ∷ rs) =
    omega (
      arith,
      all_lines p ds rs,
      count_append p (cond (released ds r) (lines r.start ds) []) (releases rs ds),
      count_append p (cond (released ds r) [] (lines r.start ds)) (unrefs rs ds),
      count_append p (lines r.start ds) (flat_map (λ (row : Row). lines row.start ds) rs),
      go (released ds r),
    )
  where
    go : (b : Bool) → count p (cond b (lines r.start ds) []) + count p (cond b [] (lines r.start ds)) ≡ count p (lines r.start ds)
    go true = omega arith
    go false = omega arith

-- no later row of a kept table starts where an earlier one does
later_missing : (r : Row) (rs : List Row) → table_kept (r ∷ rs) ≡ true → (k s : ℕ) → r.start ≡ s → find_from k s rs ≡ None
later_missing r rs h k s e = none-missing rs k s r (λ i l x. omega (arith, kept_rising (r ∷ rs) h 0 (suc i) r (omega arith) (omega arith)))

-- a row was found
abbrev pub is_found : Found → Bool
is_found (Some (k, r)) = true
is_found None = false

-- each drop whose extent has a row gives one line
rows-lines : (p : Ref → Bool) (ds : List InLeaf) (rows : List Row) (k : ℕ) → table_kept rows ≡ true
    → count p (flat_map (λ (row : Row). lines row.start ds) rows) ≡ count (λ (d : InLeaf). is_found (find_from k d.item.extent_start rows) && p (ref_of d.item)) ds
unfolding flat_map count find_from
rows-lines p ds [] k h = sym (count_never (λ (d : InLeaf). false && p (ref_of d.item)) (λ d. refl) ds)
rows-lines p ds (r ∷ rs) k h =
    count_append p (lines r.start ds) (flat_map (λ (row : Row). lines row.start ds) rs)
    ∙ rw (lines-count p r.start ds, rows-lines p ds rs (k + 1) (kept-tail r rs h))
    (sym (count_either here there passes apart ds) ∙ count_same (λ (d : InLeaf). (here d || there d) && passes d) (λ (d : InLeaf). is_found (find_from k d.item.extent_start (r ∷ rs)) && passes d) one ds)
  where
    here : InLeaf → Bool
    here d = eqb d.item.extent_start r.start

    there : InLeaf → Bool
    there d = is_found (find_from (k + 1) d.item.extent_start rs)

    passes : InLeaf → Bool
    passes d = p (ref_of d.item)

    apart : (d : InLeaf) → here d ≡ true → there d ≡ false
    apart d e = rw (later_missing r rs h (k + 1) d.item.extent_start (sym (eqb-true d.item.extent_start r.start e))) refl

    one : (d : InLeaf) → ((here d || there d) && passes d) ≡ (is_found (find_from k d.item.extent_start (r ∷ rs)) && passes d)
    one d = rw (eqb_swap d.item.extent_start r.start) (go (eqb r.start d.item.extent_start))
      where
        go : (b : Bool) → ((b || there d) && passes d) ≡ (is_found (cond b (Some (k, r)) (find_from (k + 1) d.item.extent_start rs)) && passes d)
        go true = refl
        go false = refl

-- each drop gives one line: a release or an unref
pub drops-lines : (p : Ref → Bool) (rows : List Row) (ds : List InLeaf) → table_kept rows ≡ true → drops_refusal rows ds ≡ 0
    → count p (releases rows ds) + count p (unrefs rows ds) ≡ count (λ (d : InLeaf). p (ref_of d.item)) ds
drops-lines p rows ds h k =
    all_lines p ds rows ∙ rows-lines p ds rows 0 h
    ∙ count-given (λ (d : InLeaf). is_found (find d.item.extent_start rows)) (λ (d : InLeaf). p (ref_of d.item)) ds
    (every_map (λ (d : InLeaf). eqb (drop_refusal rows d.item) 0) (λ (d : InLeaf). is_found (find d.item.extent_start rows))
    (λ d e. rw (drop_row rows d.item (eqb-true (drop_refusal rows d.item) 0 e)).2 refl) ds (drops_accepted rows ds k))

-- ---- lines by extent

-- the line starts there
abbrev starts : ℕ → Ref → Bool
starts s q = eqb q.start s

-- the number of the row that was found, or 0
abbrev at_row : Found → (Row → ℕ) → ℕ
at_row (Some (k, r)) f = f r
at_row None f = 0

-- where rows that start elsewhere give no line, the row of that start gives all
row_lines_lem : (s : ℕ) (g : Row → List Ref) → ((row : Row) → (row.start ≡ s → ⊥) → count (starts s) (g row) ≡ 0) → (rows : List Row) (k : ℕ) → table_kept rows ≡ true
    → count (starts s) (flat_map g rows) ≡ at_row (find_from k s rows) (λ (row : Row). count (starts s) (g row))
unfolding flat_map count find_from
row_lines_lem s g none [] k h = refl
row_lines_lem s g none (r ∷ rs) k h =
    count_append (starts s) (g r) (flat_map g rs)
    ∙ rw (row_lines_lem s g none rs (k + 1) (kept-tail r rs h)) (go (eqb r.start s) refl)
  where
    number : Row → ℕ
    number row = count (starts s) (g row)

    go : (b : Bool) → eqb r.start s ≡ b → number r + at_row (find_from (k + 1) s rs) number ≡ at_row (cond b (Some (k, r)) (find_from (k + 1) s rs)) number
    go true e = rw (later_missing r rs h (k + 1) s (eqb-true r.start s e)) (omega arith)
    go false e = omega (arith, none r (eqb-false r.start s e))

module _ (s : ℕ) (ds : List InLeaf) where
  -- the lines of another extent
  other-lines : (start : ℕ) → (start ≡ s → ⊥) → count (starts s) (lines start ds) ≡ 0
  other-lines start n = lines-count (starts s) start ds ∙ count_never (λ (d : InLeaf). eqb d.item.extent_start start && eqb d.item.extent_start s) never ds
    where
      never : (d : InLeaf) → (eqb d.item.extent_start start && eqb d.item.extent_start s) ≡ false
      never d = go (eqb d.item.extent_start start) refl
        where
          go : (b : Bool) → eqb d.item.extent_start start ≡ b → (b && eqb d.item.extent_start s) ≡ false
          go true e = let x = eqb-true d.item.extent_start start e in ne_eqb d.item.extent_start s (λ y. n (sym x ∙ y))
          go false e = refl

  -- its own
  own_lines : count (starts s) (lines s ds) ≡ length (drops_of s ds)
  own_lines =
      lines-count (starts s) s ds
      ∙ count_same (λ (d : InLeaf). eqb d.item.extent_start s && eqb d.item.extent_start s) (λ (d : InLeaf). eqb d.item.extent_start s) (λ d. go (eqb d.item.extent_start s)) ds
      ∙ sym (drops-number s ds)
    where
      go : (b : Bool) → (b && b) ≡ b
      go true = refl
      go false = refl

  -- what a row gives, if it starts elsewhere and if it starts there
  none-given : (b : Bool) (row : Row) → (row.start ≡ s → ⊥)
      → (count (starts s) (cond b (lines row.start ds) []) ≡ 0) × (count (starts s) (cond b [] (lines row.start ds)) ≡ 0)
  unfolding count
  none-given true row n = (other-lines row.start n, refl)
  none-given false row n = (refl, other-lines row.start n)

  all_given : (b : Bool) (row : Row) → row.start ≡ s
      → (count (starts s) (cond b (lines row.start ds) []) ≡ cond b (length (drops_of s ds)) 0) × (count (starts s) (cond b [] (lines row.start ds)) ≡ cond b 0 (length (drops_of s ds)))
  unfolding count
  all_given true row e = (rw e own_lines, refl)
  all_given false row e = (refl, rw e own_lines)

  module _ (rows : List Row) (kept : table_kept rows ≡ true) where
    release_lines_lem : count (starts s) (releases rows ds) ≡ at_row (find s rows) (λ (row : Row). count (starts s) (cond (released ds row) (lines row.start ds) []))
    release_lines_lem = row_lines_lem s (λ (row : Row). cond (released ds row) (lines row.start ds) []) (λ row n. (none-given (released ds row) row n).0) rows 0 kept

    unref_lines : count (starts s) (unrefs rows ds) ≡ at_row (find s rows) (λ (row : Row). count (starts s) (cond (released ds row) [] (lines row.start ds)))
    unref_lines = row_lines_lem s (λ (row : Row). cond (released ds row) [] (lines row.start ds)) (λ row n. (none-given (released ds row) row n).1) rows 0 kept

    -- an extent's drops are all releases or all unrefs
    pub release_number : (k : ℕ) (row : Row) → find s rows ≡ Some (k, row) → count (λ (q : Ref). eqb q.start s) (releases rows ds) ≡ cond (released ds row) (length (drops_of s ds)) 0
    release_number k row e = release_lines_lem ∙ rw e (all_given (released ds row) row (found_start rows s k row e)).0

    pub unref_number : (k : ℕ) (row : Row) → find s rows ≡ Some (k, row) → count (λ (q : Ref). eqb q.start s) (unrefs rows ds) ≡ cond (released ds row) 0 (length (drops_of s ds))
    unref_number k row e = unref_lines ∙ rw e (all_given (released ds row) row (found_start rows s k row e)).1

    -- an extent without a row has no line
    pub release_missing : find s rows ≡ None → count (λ (q : Ref). eqb q.start s) (releases rows ds) ≡ 0
    release_missing e = release_lines_lem ∙ rw e refl

    pub unref_missing : find s rows ≡ None → count (λ (q : Ref). eqb q.start s) (unrefs rows ds) ≡ 0
    unref_missing e = unref_lines ∙ rw e refl

-- ---- released exactly when all references are dropped

module _ (s : ℕ) (ds : List InLeaf) (rows : List Row) (kept : table_kept rows ≡ true) where
  -- a release line: the row's references are its drops, of which there is one
  pub line-drops : 0 < count (λ (q : Ref). eqb q.start s) (releases rows ds) → (k : ℕ) × (row : Row) × (find s rows ≡ Some (k, row)) × (row.references ≡ length (drops_of s ds)) × (0 < length (drops_of s ds))
  line-drops h = go (find s rows) refl
    where
      number : (b : Bool) (row : Row) → released ds row ≡ b → 0 < cond b (length (drops_of s ds)) 0 → (released ds row ≡ true) × (0 < length (drops_of s ds))
      number true row e p = (e, p)
      number false row e p = absurd (omega arith)

      go : (o : Found) → find s rows ≡ o → (k : ℕ) × (row : Row) × (find s rows ≡ Some (k, row)) × (row.references ≡ length (drops_of s ds)) × (0 < length (drops_of s ds))
      go None e = absurd (omega (arith, release_missing s ds rows kept e))
      go (Some (k, row)) e =
          let p = rw (release_number s ds rows kept k row e) at h in
          let n = number (released ds row) row refl p in
          let t = eqb-true row.references (length (drops_of row.start ds)) (both_left (eqb row.references (length (drops_of row.start ds))) (every (λ (d : InLeaf). eqb d.shared 0) (drops_of row.start ds)) n.0) in
          (k, row, e, rw (found_start rows s k row e) at t, n.1)

  -- and the other way round, where no leaf is shared
  pub drops-line : (k : ℕ) (row : Row) → find s rows ≡ Some (k, row) → row.references ≡ length (drops_of s ds) → 0 < length (drops_of s ds) → every (λ (d : InLeaf). eqb d.shared 0) ds ≡ true → 0 < count (λ (q : Ref). eqb q.start s) (releases rows ds)
  drops-line k row e r p u =
      let q : released ds row ≡ true = rw (found_start rows s k row e) (both (eqb row.references (length (drops_of s ds))) (every (λ (d : InLeaf). eqb d.shared 0) (drops_of s ds)) (eq-eqb row.references (length (drops_of s ds)) r) (every-keep (λ (d : InLeaf). eqb d.shared 0) (λ (d : InLeaf). eqb d.item.extent_start s) ds u)) in
      rw (release_number s ds rows kept k row e, q) p
