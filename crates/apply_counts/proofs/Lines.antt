-- Lines counted by row. Assumes nothing.
use mathlib.Core.Path.{◌≡◌, refl, ap, ◌∙◌, sym}
use mathlib.Core.Bool.{Bool, true, false, cond, ◌||◌}
use mathlib.Core.List.{List, [], ◌∷◌}
use Prim.Native.Nat.{ℕ, ◌+◌, ◌*◌, ◌/◌, ◌≤◌, ◌<◌}
use native.Mathlib.Omega.{arith}
use native.Mathlib.Decide.{ℕ_discrete, dec_lt}
use lib.Dec.{eqb}
use lib.IntN.{ℤ, pos, ◌+ℤ◌}
use lib.ListN.{length, get_or, drop, set}
use lib.Seq.{get_or-drop, get_or-set_same, get_or-set_other}
use mir.Syntax.{w64}
use mir.Val.{to_z, of_z}
use borrow.Author.Tests.{eq-eqb, ne_eqb}
use Rattle.std.specs.Simd.{first_chunks}
use Rattle.std.specs.Prelude.{Some, None, FitsSigned, unsigned_abs}
use Rattle.std.proofs.lemmas.Int.{ints, fits_signed_from_abs, to_z-of_z}
use Rattle.records.specs.Select.{any}
use Rattle.records.specs.Stages.{first, stage, unless}
use Rattle.records.proofs.Loops.{records_cons, records_nil}
use Rattle.records.proofs.Tests.{first_go, first_last, first_assoc}
use Rattle.table.specs.declared.Row.{Row}
use Rattle.table.specs.Rows.{table_kept, find}
use Rattle.table.proofs.Laws.{kept_rising, found_below, found_row, found_start, missing-none, with_row_lem, with_none}
use Rattle.cut_def.specs.Refs.{Ref}
use Rattle.apply_def.specs.Apply.{row_missing}
use Rattle.plan_def.specs.ReadBack.{ref_in, refs_in}
use Rattle.apply_def.proofs.Chunks.{chunk-at}
use Rattle.apply_counts.specs.Counts.{names, moved_by, Room, AllTallied, AllMarked}

-- ---- which row a line names

module _ (rs : List Row) (kept : table_kept rs ≡ true) (start : ℕ) where
  module _ (k : ℕ) (row : Row) (h : Some (k, row) ≡ find start rs) where
    pub there : k < length rs
    there = found_below rs start k row (sym h)

    starts-there : (e : Row) → (get_or rs k e).start ≡ start
    starts-there e = ap (λ (r : Row). r.start) (sym (found_row rs start k row (sym h) e)) ∙ found_start rs start k row (sym h)

    named-same : (y : ℕ) (e : Row) → y ≡ k → eqb start (get_or rs y e).start ≡ true
    named-same y e q = eq-eqb start (get_or rs y e).start (sym (ap (λ (n : ℕ). (get_or rs n e).start) q ∙ starts-there e))

    named_other : (y : ℕ) (e : Row) → y < length rs → (y ≡ k → ⊥) → eqb start (get_or rs y e).start ≡ false
    named_other y e l n =
        ne_eqb start (get_or rs y e).start
        (λ q. elim (dec_lt y k) [
          | yes m ↦ omega (arith, kept_rising rs kept y k e m there, starts-there e)
          | no m ↦ omega (arith, kept_rising rs kept k y e (omega arith) l, starts-there e)
        ])

    -- the array after a write at the line's row
    pub set_there : {A : Type 0} (g : A → A) (l : List A) (d : A) → k < length l → (y : ℕ) (e : Row) → y < length rs → get_or (set l k (g (get_or l k d))) y d ≡ cond (eqb start (get_or rs y e).start) (g (get_or l y d)) (get_or l y d)
    set_there g l d h y e m =
        elim (ℕ_discrete y k) [
          | yes q ↦ rw (named-same y e q, q) (get_or-set_same l k (g (get_or l k d)) d h)
          | no q ↦ rw (named_other y e m q) (get_or-set_other l k y (g (get_or l k d)) d q)
        ]

  module _ (h : None ≡ find start rs) where
    pub named_none : (y : ℕ) (e : Row) → y < length rs → eqb start (get_or rs y e).start ≡ false
    named_none y e l = ne_eqb start (get_or rs y e).start (λ q. missing-none rs start (sym h) y e l (sym q))

-- ---- a turn of the loops

-- the pair that a turn takes, and where it starts
pub pair-start : (s : List ℕ) (ps : List (List ℕ)) (i : ℕ) → ps ≡ first_chunks 2 (length s / 2) s → i < length s / 2 → get_or (get_or ps i []) 0 0 ≡ (ref_in (drop (i * 2) s)).start
unfolding ref_in
pair-start s ps i e h = ap (λ (l : List (List ℕ)). get_or (get_or l i []) 0 0) e ∙ chunk-at 2 (length s / 2) s i 0 [] 0 h (omega arith) ∙ sym (get_or-drop (i * 2) s 0 0)

next-ref : (s : List ℕ) (i : ℕ) → i < length s / 2 → drop i (refs_in s) ≡ ref_in (drop (i * 2) s) ∷ drop (i + 1) (refs_in s)
next-ref s i h = records_cons ref_in 2 s i h

last_ref : (s : List ℕ) (i : ℕ) → length s / 2 ≤ i → drop i (refs_in s) ≡ []
last_ref s i h = records_nil ref_in 2 s i h

-- ---- counting

abs_sum : (x y : ℤ) → unsigned_abs (x +ℤ y) ≤ unsigned_abs x + unsigned_abs y
abs_sum x y = omega (arith, ints)

module _ (rs : List Row) (s : List ℕ) (by : ℤ) (changes₀ : List ℤ) where
  -- what is counted, and what is left to count
  pub record Tallying (i : ℕ) (found : Bool) (changes : List ℤ) : Type 0 where
    pub refusal : first (unless found 14) (stage (row_missing rs) (drop i (refs_in s))) ≡ stage (row_missing rs) (refs_in s)
    pub count : (y : ℕ) (e : Row) → y < length rs → get_or changes y (pos 0) +ℤ moved_by by (get_or rs y e).start (drop i (refs_in s)) ≡ get_or changes₀ y (pos 0) +ℤ moved_by by (get_or rs y e).start (refs_in s)
    pub most : (y : ℕ) → y < length rs → unsigned_abs (get_or changes y (pos 0)) ≤ unsigned_abs (get_or changes₀ y (pos 0)) + i

  pub tally_start : Tallying 0 true changes₀
  tally_start = record { refusal = first_go 0 _ refl; count = λ y e h. refl; most = λ y h. omega arith }

  pub tally_done : (i : ℕ) (found : Bool) (changes : List ℤ) → Tallying i found changes → length s / 2 ≤ i → AllTallied rs (refs_in s) by changes₀ (unless found 14) changes
  unfolding stage moved_by
  tally_done i found changes t h =
      let d : drop i (refs_in s) ≡ [] = last_ref s i h in
      record {
        refusal = sym (first_last (unless found 14)) ∙ ap (λ (l : List Ref). first (unless found 14) (stage (row_missing rs) l)) (sym d) ∙ t.refusal;
        count = λ y e l. omega (arith, ints, ap (moved_by by (get_or rs y e).start) d, t.count y e l);
      }

  -- a turn: the line's row, or that there is none
  module _ (room : Room rs s by changes₀) (kept : table_kept rs ≡ true) (i : ℕ) (found : Bool) (changes : List ℤ) (t : Tallying i found changes) (start : ℕ) (a : start ≡ (ref_in (drop (i * 2) s)).start) (h : i < length s / 2) where
    abbrev r : Ref
    r = ref_in (drop (i * 2) s)

    abbrev missing : ℕ
    missing = row_missing rs r

    next_refusal : (found' : Bool) → unless found' 14 ≡ first (unless found 14) missing → first (unless found' 14) (stage (row_missing rs) (drop (i + 1) (refs_in s))) ≡ stage (row_missing rs) (refs_in s)
    unfolding stage
    next_refusal found' e =
        ap (λ (k : ℕ). first k (stage (row_missing rs) (drop (i + 1) (refs_in s)))) e
        ∙ first_assoc (unless found 14) missing (stage (row_missing rs) (drop (i + 1) (refs_in s)))
        ∙ ap (λ (l : List Ref). first (unless found 14) (stage (row_missing rs) l)) (sym (next-ref s i h))
        ∙ t.refusal

    next_moved : (y : ℕ) (e : Row) → moved_by by (get_or rs y e).start (drop i (refs_in s)) ≡ cond (eqb start (get_or rs y e).start) by (pos 0) +ℤ moved_by by (get_or rs y e).start (drop (i + 1) (refs_in s))
    unfolding moved_by
    next_moved y e = ap (moved_by by (get_or rs y e).start) (next-ref s i h) ∙ ap (λ (k : ℕ). cond (eqb k (get_or rs y e).start) by (pos 0) +ℤ moved_by by (get_or rs y e).start (drop (i + 1) (refs_in s))) (sym a)

    -- the sum as the code has it
    module _ (k : ℕ) (l : k < length rs) where
      abbrev x : ℤ
      x = get_or changes k (pos 0)

      count_fits : FitsSigned w64 x
      count_fits = fits_signed_from_abs w64 x (omega (arith, t.most k l, room.room k l))

      sum_fits : FitsSigned w64 (x +ℤ by)
      sum_fits = fits_signed_from_abs w64 (x +ℤ by) (omega (arith, abs_sum x by, t.most k l, room.room k l, room.one))

      pub tally_fits : FitsSigned w64 (to_z w64 (of_z w64 x) +ℤ by)
      tally_fits = rw (to_z-of_z w64 x count_fits) sum_fits

      sum_is : to_z w64 (of_z w64 (to_z w64 (of_z w64 x) +ℤ by)) ≡ x +ℤ by
      sum_is = rw (to_z-of_z w64 x count_fits) (to_z-of_z w64 (x +ℤ by) sum_fits)

    pub tally_found : (k : ℕ) (row : Row) → Some (k, row) ≡ find start rs → k < length changes → (changes' : List ℤ)
        → changes' ≡ set changes k (to_z w64 (of_z w64 (to_z w64 (of_z w64 (get_or changes k (pos 0))) +ℤ by))) → Tallying (i + 1) found changes'
    tally_found k row f m changes' q =
        let w : (y : ℕ) (e : Row) → y < length rs → get_or changes' y (pos 0) ≡ cond (eqb start (get_or rs y e).start) (get_or changes y (pos 0) +ℤ by) (get_or changes y (pos 0)) =
        λ y e l. ap (λ (c : List ℤ). get_or c y (pos 0)) (q ∙ ap (set changes k) (sum_is k (there rs kept start k row f))) ∙ set_there rs kept start k row f (λ (x : ℤ). x +ℤ by) changes (pos 0) m y e l in
        record {
          refusal = next_refusal found (sym (ap (first (unless found 14)) (ap (λ (n : ℕ). row_missing rs (record { start = n; offset = r.offset })) (sym a) ∙ sym (with_row_lem start rs k row (λ (w : Row). 0) f)) ∙ first_last (unless found 14)));
          count = λ y e l. added (eqb start (get_or rs y e).start) _ _ _ _ _ (t.count y e l) (next_moved y e) (w y e l);
          most = λ y l. omega (arith, t.most y l, nearer (eqb start (get_or rs y row).start) (get_or changes y (pos 0)) _ (w y row l));
        }
      where
        added : (b : Bool) (x x' m m' z : ℤ) → x +ℤ m ≡ z → m ≡ cond b by (pos 0) +ℤ m' → x' ≡ cond b (x +ℤ by) x → x' +ℤ m' ≡ z
        added true x x' m m' z p q e = omega (arith, ints)
        added false x x' m m' z p q e = omega (arith, ints)

        nearer : (b : Bool) (x x' : ℤ) → x' ≡ cond b (x +ℤ by) x → unsigned_abs x' ≤ unsigned_abs x + 1
        nearer true x x' e = rw e (omega (arith, abs_sum x by, room.one))
        nearer false x x' e = rw e (omega arith)

    pub tally_missing : None ≡ find start rs → Tallying (i + 1) false changes
    tally_missing f =
        record {
          refusal = next_refusal false (late found ∙ ap (first (unless found 14)) (with_none start rs (λ (w : Row). 0) f ∙ ap (λ (n : ℕ). row_missing rs (record { start = n; offset = r.offset })) a));
          count = λ y e l. added _ _ _ _ (t.count y e l) (next_moved y e ∙ ap (λ (b : Bool). cond b by (pos 0) +ℤ moved_by by (get_or rs y e).start (drop (i + 1) (refs_in s))) (named_none rs kept start f y e l));
          most = λ y l. omega (arith, t.most y l);
        }
      where
        late : (b : Bool) → 14 ≡ first (unless b 14) 14
        late true = unfold first in refl
        late false = unfold first in refl

        added : (x m m' z : ℤ) → x +ℤ m ≡ z → m ≡ pos 0 +ℤ m' → x +ℤ m' ≡ z
        added x m m' z p q = omega (arith, ints)

-- ---- marking

module _ (rs : List Row) (s : List ℕ) (gone₀ : List Bool) where
  pub record Marking (i : ℕ) (gone : List Bool) : Type 0 where
    pub mark : (y : ℕ) (e : Row) → y < length rs → (any (names (get_or rs y e).start) (drop i (refs_in s)) || get_or gone y false) ≡ (any (names (get_or rs y e).start) (refs_in s) || get_or gone₀ y false)

  pub mark-start : Marking 0 gone₀
  mark-start = record { mark = λ y e h. refl }

  pub mark-done : (i : ℕ) (gone : List Bool) → length s / 2 ≤ i → Marking i gone → AllMarked rs (refs_in s) gone₀ gone
  unfolding any
  mark-done i gone h t = record { mark = λ y e l. ap (λ (m : List Ref). any (names (get_or rs y e).start) m || get_or gone y false) (sym (last_ref s i h)) ∙ t.mark y e l }

  module _ (kept : table_kept rs ≡ true) (i : ℕ) (gone : List Bool) (t : Marking i gone) (start : ℕ) (a : start ≡ (ref_in (drop (i * 2) s)).start) (h : i < length s / 2) where
    named : (y : ℕ) (e : Row) → any (names (get_or rs y e).start) (drop i (refs_in s)) ≡ (eqb start (get_or rs y e).start || any (names (get_or rs y e).start) (drop (i + 1) (refs_in s)))
    unfolding any
    named y e = ap (any (names (get_or rs y e).start)) (next-ref s i h) ∙ ap (λ (k : ℕ). eqb k (get_or rs y e).start || any (names (get_or rs y e).start) (drop (i + 1) (refs_in s))) (sym a)

    pub mark_found : (k : ℕ) (row : Row) → Some (k, row) ≡ find start rs → k < length gone → Marking (i + 1) (set gone k true)
    mark_found k row f m =
        record { mark = λ y e l. rw (set_there rs kept start k row f (λ (b : Bool). true) gone false m y e l) (marks (eqb start (get_or rs y e).start) _ _ ∙ ap (λ (b : Bool). b || get_or gone y false) (sym (named y e)) ∙ t.mark y e l) }
      where
        marks : (b c d : Bool) → (c || cond b true d) ≡ ((b || c) || d)
        marks true true d = refl
        marks true false d = refl
        marks false c d = refl

    pub mark_missing : None ≡ find start rs → Marking (i + 1) gone
    mark_missing f = record { mark = λ y e l. ap (λ (b : Bool). (b || any (names (get_or rs y e).start) (drop (i + 1) (refs_in s))) || get_or gone y false) (sym (named_none rs kept start f y e l)) ∙ ap (λ (b : Bool). b || get_or gone y false) (sym (named y e)) ∙ t.mark y e l }
