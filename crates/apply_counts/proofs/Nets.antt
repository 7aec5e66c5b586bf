-- Net counts, and what the arrays say of a whole table. Assumes nothing.
use mathlib.Core.Path.{◌≡◌, refl, ap, ap₂, ◌∙◌, sym}
use mathlib.Core.Bool.{Bool, true, false, cond, ◌&&◌, ◌||◌, not}
use mathlib.Core.List.{List, [], ◌∷◌, ◌++◌}
use Prim.Native.Nat.{ℕ, suc, ◌+◌, ◌-◌, ◌/◌, ◌^◌, ◌≤◌, ◌<◌}
use native.Mathlib.Omega.{arith}
use native.Mathlib.Nat.{zero-add}
use lib.Dec.{leb, ltb}
use lib.IntN.{ℤ, pos, negsuc, ◌+ℤ◌, ◌-ℤ◌}
use lib.ListN.{length, get_or, take}
use borrow.Author.Tests.{leb-true, le-leb}
use Rattle.std.specs.Prelude.{unsigned_abs, count_by}
use Rattle.std.specs.List.{list_all, zip}
use Rattle.std.proofs.lemmas.Int.{ints}
use Rattle.std.proofs.lemmas.List.Recursion.{is_count_by}
use Rattle.records.specs.Select.{keep, any, count}
use Rattle.records.specs.Stages.{first, stage, every}
use Rattle.records.proofs.Loops.{records-length}
use Rattle.records.proofs.Tests.{same}
use Rattle.records.proofs.Lists.{stage_append}
use Rattle.table.specs.declared.Row.{Row}
use Rattle.cut_def.specs.Refs.{Ref}
use Rattle.plan_def.specs.Plans.{Plan}
use Rattle.apply_def.specs.Apply.{lines_at, gained, lost, goes, row_missing, net_sound}
use Rattle.plan_def.specs.ReadBack.{ref_in, refs_in}
use Rattle.apply_counts.specs.Counts.{names, moved_by, AllTallied, AllMarked, Zeros, Counted, CountedBothWays, net, net_fits, nets}

-- ---- by how much lines move a count

step : (b : Bool) (by : ℤ) (d : ℤ) (n : ℕ) → unsigned_abs by ≤ 1 → unsigned_abs d ≤ n → unsigned_abs (cond b by (pos 0) +ℤ d) ≤ suc n
step true by d n h k = omega (arith, ints)
step false by d n h k = omega (arith, ints)

moved_most : (by : ℤ) (start : ℕ) (l : List Ref) → unsigned_abs by ≤ 1 → unsigned_abs (moved_by by start l) ≤ length l
unfolding moved_by
moved_most by start [] h = omega arith
moved_most by start (r ∷ l) h = step (names start r) by (moved_by by start l) (length l) h (moved_most by start l h)

up : (b : Bool) (d : ℤ) (n : ℕ) → d ≡ pos n → cond b (pos 1) (pos 0) +ℤ d ≡ pos (cond b 1 0 + n)
up true d n e = omega (arith, ints)
up false d n e = omega (arith, ints)

moved_up : (start : ℕ) (l : List Ref) → moved_by (pos 1) start l ≡ pos (lines_at start l)
unfolding moved_by count
moved_up start [] = refl
moved_up start (r ∷ l) = up (names start r) (moved_by (pos 1) start l) (lines_at start l) (moved_up start l)

down : (b : Bool) (d : ℤ) (n : ℕ) → d ≡ pos 0 -ℤ pos n → cond b (negsuc 0) (pos 0) +ℤ d ≡ pos 0 -ℤ pos (cond b 1 0 + n)
down true d n e = omega (arith, ints)
down false d n e = omega (arith, ints)

moved_down : (start : ℕ) (l : List Ref) → moved_by (negsuc 0) start l ≡ pos 0 -ℤ pos (lines_at start l)
unfolding moved_by count
moved_down start [] = refl
moved_down start (r ∷ l) = down (names start r) (moved_by (negsuc 0) start l) (lines_at start l) (moved_down start l)

-- ---- all lines

module _ (rs : List Row) where
  -- lines move a count by no more than they are
  pub few-lines : (s : List ℕ) (by : ℤ) (changes changes' : List ℤ) (x : ℕ) → AllTallied rs (refs_in s) by changes x changes' → unsigned_abs by ≤ 1 → (y : ℕ) → y < length rs → unsigned_abs (get_or changes' y (pos 0)) ≤ unsigned_abs (get_or changes y (pos 0)) + length s / 2
  few-lines s by changes changes' x t h y l =
      let e : Row = record { start = 0; length = 0; references = 0; made = 0; keyed = 0 } in
      let d : ℤ = moved_by by (get_or rs y e).start (refs_in s) in
      omega (arith, ints, t.count y e l, moved_most by (get_or rs y e).start (refs_in s) h, records-length ref_in 2 s)

  pub blank-few : (changes : List ℤ) (gone : List Bool) → Zeros (length rs) changes gone → (y : ℕ) → y < length rs → unsigned_abs (get_or changes y (pos 0)) ≡ 0
  blank-few changes gone z y l = ap unsigned_abs (z.zero y l).0

  pub three_stages : (a b c : List Ref) (x y z r : ℕ) → x ≡ stage (row_missing rs) a → y ≡ stage (row_missing rs) b → z ≡ stage (row_missing rs) c → r ≡ first x (first y z) → r ≡ stage (row_missing rs) (a ++ (b ++ c))
  three_stages a b c x y z r p q s e = e ∙ ap₂ first p (ap₂ first q s) ∙ sym (stage_append (row_missing rs) a (b ++ c) ∙ ap (first (stage (row_missing rs) a)) (stage_append (row_missing rs) b c))

  module _ (p : Plan) (gone : List Bool) where
    leaves_all : (changes : List ℤ) → Zeros (length rs) changes gone → (d : List Bool) → AllMarked rs p.releases gone d → (y : ℕ) (e : Row) → y < length rs → get_or d y false ≡ goes p (get_or rs y e)
    leaves_all changes zero d m y e h = m.mark y e h ∙ ap (λ (b : Bool). any (names (get_or rs y e).start) p.releases || b) (zero.zero y h).1 ∙ none (any (names (get_or rs y e).start) p.releases)
      where
        none : (b : Bool) → (b || false) ≡ b
        none true = refl
        none false = refl

    pub counted_all : (changes : List ℤ) → Zeros (length rs) changes gone → (a b c : List ℤ) (d : List Bool) (x y z : ℕ) → AllMarked rs p.releases gone d → AllTallied rs p.shares (pos 1) changes x a → AllTallied rs p.unrefs (negsuc 0) a y b → AllTallied rs p.releases (negsuc 0) b z c → Counted p rs c d
    counted_all changes zero a b c d x y z m ta tb tc =
        record {
          moves = λ k e h. let start : ℕ = (get_or rs k e).start in
              omega (arith, ints, ta.count k e h, tb.count k e h, tc.count k e h, moved_up start p.shares, moved_down start p.unrefs, moved_down start p.releases, (zero.zero k h).0);
          leaves = leaves_all changes zero d m;
        }

    pub both_counted : (gained lost : List ℤ) → Zeros (length rs) gained gone → Zeros (length rs) lost gone → (a b c : List ℤ) (d : List Bool) (x y z : ℕ) → AllMarked rs p.releases gone d → AllTallied rs p.shares (pos 1) gained x a → AllTallied rs p.unrefs (pos 1) lost y b → AllTallied rs p.releases (pos 1) b z c → CountedBothWays p rs a c d
    both_counted gained lost none nil a b c d x y z m ta tb tc =
        record {
          gains = λ k e h. let start : ℕ = (get_or rs k e).start in
              omega (arith, ints, ta.count k e h, moved_up start p.shares, (none.zero k h).0);
          losses = λ k e h. let start : ℕ = (get_or rs k e).start in
              omega (arith, ints, tb.count k e h, tc.count k e h, moved_up start p.unrefs, moved_up start p.releases, (nil.zero k h).0);
          leaves = leaves_all gained none d m;
        }

-- ---- net counts

-- the code's test of each row is that of the lists
pub nets_read : (rs : List Row) (ds : List ℤ) → list_all (λ (p : Row × ℤ). net_fits p.0.references p.1) (zip rs ds) ≡ nets ds rs
unfolding nets
nets_read [] [] = refl
nets_read [] (d ∷ ds) = refl
nets_read (r ∷ rs) [] = refl
nets_read (r ∷ rs) (d ∷ ds) = ap (λ (b : Bool). net_fits r.references d && b) (nets_read rs ds)

-- what the definition of applying says of a row
pub moved_net : (n g l : ℕ) (d : ℤ) → d ≡ pos g -ℤ pos l → net n d ≡ n + g - l
moved_net n g l (pos m) e = let k : g ≡ m + l = omega (arith, ints) in omega arith
moved_net n g l (negsuc m) e = let k : l ≡ g + suc m = omega (arith, ints) in omega arith

sound_net : (n g l : ℕ) (d : ℤ) → d ≡ pos g -ℤ pos l → net_fits n d ≡ (leb l (n + g) && ltb (n + g - l) (2 ^ 64))
sound_net n g l (pos m) e =
    let k : g ≡ m + l = omega (arith, ints) in
    let i : n + g - l ≡ n + m = omega arith in
    rw (le-leb l (n + g) (omega arith), i) refl
sound_net n g l (negsuc m) e =
    let k : l ≡ g + suc m = omega (arith, ints) in
    let i : n + g - l ≡ n - suc m = omega arith in
    rw i (ap (λ (b : Bool). b && ltb (n - suc m) (2 ^ 64)) (same (leb (suc m) n) (leb l (n + g)) (λ h. let a = leb-true (suc m) n h in le-leb l (n + g) (omega arith)) (λ h. let a = leb-true l (n + g) h in le-leb (suc m) n (omega arith))))

-- ---- a whole table

count_is : {A : Type 0} (q : A → Bool) (l : List A) → count q l ≡ count_by q l
unfolding count
count_is q l = is_count_by (count q) q refl (λ x m. one_more (q x) (count q m)) l
  where
    one_more : (b : Bool) (n : ℕ) → cond b 1 0 + n ≡ cond b (1 + n) n
    one_more true n = refl
    one_more false n = zero-add n

module _ (p : Plan) where
  nets_of : (rs : List Row) (ds : List ℤ) → length rs ≤ length ds → ((y : ℕ) (e : Row) → y < length rs → get_or ds y (pos 0) ≡ pos (gained p (get_or rs y e).start) -ℤ pos (lost p (get_or rs y e).start)) → nets ds rs ≡ every (net_sound p) rs
  unfolding nets every
  nets_of [] [] h f = refl
  nets_of [] (d ∷ ds) h f = refl
  nets_of (r ∷ rs) [] h f = absurd (omega arith)
  nets_of (r ∷ rs) (d ∷ ds) h f =
      ap₂ (λ (a b : Bool). a && b) (sound_net r.references (gained p r.start) (lost p r.start) d (f 0 r (omega arith)))
      (nets_of rs ds (omega arith) (λ y e l. f (suc y) e (omega arith)))

  -- as many marks say no as rows stay
  staying_of : (rs : List Row) (gs : List Bool) → length rs ≤ length gs → ((y : ℕ) (e : Row) → y < length rs → get_or gs y false ≡ goes p (get_or rs y e)) → count not (take (length rs) gs) ≡ length (keep (λ (r : Row). not (goes p r)) rs)
  unfolding keep count
  staying_of [] gs h f = refl
  staying_of (r ∷ rs) [] h f = absurd (omega arith)
  staying_of (r ∷ rs) (g ∷ gs) h f = go (goes p r) (f 0 r (omega arith)) (staying_of rs gs (omega arith) (λ y e l. f (suc y) e (omega arith)))
    where
      go : (t : Bool) → g ≡ t → count not (take (length rs) gs) ≡ length (keep (λ (r : Row). not (goes p r)) rs)
          → cond (not g) 1 0 + count not (take (length rs) gs) ≡ length (cond (not t) (r ∷ keep (λ (r : Row). not (goes p r)) rs) (keep (λ (r : Row). not (goes p r)) rs))
      go true e i = rw e (zero-add _ ∙ i)
      go false e i = rw e (omega arith)

  module _ (rs : List Row) (ds : List ℤ) (gs : List Bool) (c : Counted p rs ds gs) where
    pub nets_sound : length rs ≤ length ds → nets ds rs ≡ every (net_sound p) rs
    nets_sound h = nets_of rs ds h c.moves

    pub stays_many : length rs ≤ length gs → count_by not (take (length rs) gs) ≡ length (keep (λ (r : Row). not (goes p r)) rs)
    stays_many h = sym (count_is not (take (length rs) gs)) ∙ staying_of rs gs h c.leaves
