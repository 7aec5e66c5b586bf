-- Laws of applying: what an accepted plan has passed, and which rows the table has after it. Assumes nothing.
use mathlib.Core.Path.{◌≡◌, refl, ◌∙◌}
use mathlib.Core.Bool.{Bool, true, false, cond, ◌&&◌, not}
use mathlib.Core.List.{List, [], ◌∷◌, ◌++◌, map, Memᴰ}
use Prim.Native.Nat.{ℕ, zero, suc, ◌+◌, ◌-◌, ◌<◌, ◌≤◌}
use native.Mathlib.Omega.{arith}
use native.Mathlib.Decide.{dec_lt}
use lib.Dec.{eqb, ltb}
use lib.ListN.{get_or}
use borrow.Author.Tests.{eqb-true, eq-eqb}
use Rattle.std.specs.Prelude.{Some, None}
use Rattle.records.specs.Stages.{first_of, stage, every}
use Rattle.records.specs.Select.{keep, count}
use Rattle.records.proofs.Tests.{both, both_left, both_right, first_of_zero, unless-zero, stage-zero}
use Rattle.records.proofs.Counts.{count_append, count_map, count-keep, count_most, count-some, mem_at, at_count, any_none}
use Rattle.item.specs.Items.{Fields}
use Rattle.table.specs.declared.Row.{Row}
use Rattle.table.specs.Rows.{table_kept, find}
use Rattle.table.proofs.Laws.{kept-tail, kept_rising, kept_found, found_below, found_row, found_start}
use Rattle.lists.specs.Lists.{list_kept, whole_sectors, well_kept}
use Rattle.cut_def.specs.Pieces.{items_of}
use Rattle.cut_def.specs.Edits.{items_after}
use Rattle.cut_def.specs.Refs.{Ref}
use Rattle.plan_def.specs.Plans.{Plan, Add}
use Rattle.apply_def.specs.Apply.{lines_at, gained, lost, goes, moved, row_of_add, insert_row, insert_rows, rows_after, row_missing, apply_refusal, Applying, applied, refusal, or_applied, apply}

-- ---- a kept table

abbrev starts_at : ℕ → Row → Bool
starts_at start r = eqb r.start start

-- what is in it is found by its start
pub kept_mem : (rs : List Row) → table_kept rs ≡ true → (row : Row) → Memᴰ row rs → (k : ℕ) × (find row.start rs ≡ Some (k, row))
kept_mem rs h row m = let s = mem_at m row in (s.0, rw s.2 at (kept_found rs h s.0 row s.1))

-- no two rows have one start
kept-once : (start : ℕ) (rs : List Row) → table_kept rs ≡ true → count (starts_at start) rs ≤ 1
unfolding count
kept-once start [] h = omega arith
kept-once start (r ∷ rs) h = go (eqb r.start start) refl (kept-once start rs (kept-tail r rs h))
  where
    later : r.start ≡ start → 0 < count (starts_at start) rs → ⊥
    later e c =
        let s = count-some (starts_at start) rs c in
        let t = mem_at s.1 r in
        let x : (get_or rs t.0 r).start ≡ start = rw t.2 (eqb-true s.0.start start s.2) in
        omega (arith, kept_rising (r ∷ rs) h 0 (suc t.0) r (omega arith) (omega (arith, t.1)))

    go : (b : Bool) → eqb r.start start ≡ b → count (starts_at start) rs ≤ 1 → cond b 1 0 + count (starts_at start) rs ≤ 1
    go true e k = elim (dec_lt 0 (count (starts_at start) rs)) [ yes c ↦ absurd (later (eqb-true r.start start e) c) | no c ↦ omega arith ]
    go false e k = omega arith

-- a search finds a row with so many references
abbrev pub Counted : ℕ → ℕ → List Row → Type 0
Counted start n rs = (k : ℕ) × (row : Row) × (find start rs ≡ Some (k, row)) × (row.references ≡ n)

abbrev counts : ℕ → ℕ → Row → Bool
counts start n r = starts_at start r && eqb r.references n

-- it finds one that is counted
kept-counted : (start n : ℕ) (rs : List Row) → table_kept rs ≡ true → 0 < count (counts start n) rs → Counted start n rs
kept-counted start n rs h c =
    let s = count-some (counts start n) rs c in
    let row : Row = s.0 in
    let f = kept_mem rs h row s.1 in
    let e : row.start ≡ start = eqb-true row.start start (both_left (starts_at start row) (eqb row.references n) s.2) in
    (f.0, row, rw e at f.1, eqb-true row.references n (both_right (starts_at start row) (eqb row.references n) s.2))

-- ---- the table after a plan

insert_row-counts : (q : Row → Bool) (x : Row) (rs : List Row) → count q (insert_row x rs) ≡ cond (q x) 1 0 + count q rs
unfolding count insert_row
insert_row-counts q x [] = refl
insert_row-counts q x (r ∷ rs) = go (ltb x.start r.start) (insert_row-counts q x rs)
  where
    go : (b : Bool) → count q (insert_row x rs) ≡ cond (q x) 1 0 + count q rs → count q (cond b (x ∷ r ∷ rs) (r ∷ insert_row x rs)) ≡ cond (q x) 1 0 + count q (r ∷ rs)
    go true h = refl
    go false h = omega arith

insert_rows-counts : (q : Row → Bool) (xs rs : List Row) → count q (insert_rows xs rs) ≡ count q xs + count q rs
unfolding count insert_rows
insert_rows-counts q [] rs = omega arith
insert_rows-counts q (x ∷ xs) rs = omega (arith, insert_rows-counts q xs (insert_row x rs), insert_row-counts q x rs)

-- its rows are those of the adds, and those that stay, moved
after-counts : (q : Row → Bool) (generation : ℕ) (p : Plan) (rs : List Row)
    → count q (rows_after generation p rs) ≡ count (λ (a : Add). q (row_of_add generation a)) p.adds + count (λ (r : Row). not (goes p r) && q (moved p r)) rs
unfolding rows_after
after-counts q generation p rs =
    let stay : Row → Bool = λ r. not (goes p r) in
    insert_rows-counts q (map (row_of_add generation) p.adds) (map (moved p) (keep stay rs))
    ∙ rw (count_map q (row_of_add generation) p.adds, count_map q (moved p) (keep stay rs), count-keep (λ r. q (moved p r)) stay rs) refl

-- an extent without a row stands in no line
missing-lines : (rs : List Row) (start : ℕ) → find start rs ≡ None → (l : List Ref) → stage (row_missing rs) l ≡ 0 → lines_at start l ≡ 0
unfolding count
missing-lines rs start m [] h = refl
missing-lines rs start m (r ∷ l) h = let z = stage-zero (row_missing rs) r l h in go (eqb r.start start) refl z.0 (missing-lines rs start m l z.1)
  where
    go : (b : Bool) → eqb r.start start ≡ b → row_missing rs r ≡ 0 → lines_at start l ≡ 0 → cond b 1 0 + lines_at start l ≡ 0
    go true e x k = let f : row_missing rs r ≡ 14 = rw (eqb-true r.start start e, m) refl in absurd (omega arith)
    go false e x k = omega arith

-- ---- an accepted plan

-- what it has passed that its result rests on
pub record Accepted (sector number generation : ℕ) (fs : List Fields) (rs : List Row) (p : Plan) : Type 0 where
  pub items : well_kept sector number (items_of (items_after fs p.edits)) ≡ true
  pub table : table_kept (rows_after generation p rs) ≡ true
  pub lines : stage (row_missing rs) (p.shares ++ (p.unrefs ++ p.releases)) ≡ 0

module _ (sector number generation : ℕ) (fs : List Fields) (rs : List Row) (p : Plan) where
  accepted : apply_refusal sector number generation fs rs p ≡ 0 → Accepted sector number generation fs rs p
  unfolding apply_refusal
  accepted h =
      let w : Bool = list_kept number (items_of (items_after fs p.edits)) in
      let s : Bool = every (whole_sectors sector) (items_of (items_after fs p.edits)) in
      let z = (first_of_zero _ h).1.1.1.1.1.1.1.1 in
      record {
        items = unless-zero (w && s) 2 z.1.1.0 (λ e. omega arith);
        table = unless-zero (table_kept (rows_after generation p rs)) 3 z.1.1.1.0 (λ e. omega arith);
        lines = z.0;
      }

  -- what holds of each refusal, and of what an accepted plan leaves, holds of applying
  pub apply_cases : (room_items room_rows : ℕ) (P : Applying → Type 0) → ((n : ℕ) → P (refusal n))
      → (Accepted sector number generation fs rs p → P (applied (items_of (items_after fs p.edits)) (rows_after generation p rs)))
      → P (apply sector number generation room_items room_rows fs rs p)
  unfolding apply
  apply_cases room_items room_rows P refuses accepts = go _ _ refl
    where
      go : (room n : ℕ) → first_of (apply_refusal sector number generation fs rs p ∷ room ∷ []) ≡ n → P (or_applied n (applied (items_of (items_after fs p.edits)) (rows_after generation p rs)))
      go room zero e = accepts (accepted (first_of_zero _ e).0)
      go room (suc n) e = refuses (suc n)

-- how many adds name an extent
abbrev pub adds_at : ℕ → Plan → ℕ
adds_at start p = count (λ (a : Add). eqb a.start start) p.adds

module _ {sector number generation : ℕ} {fs : List Fields} {rs : List Row} {p : Plan} (a : Accepted sector number generation fs rs p) (start : ℕ) where
  -- two adds never have one start
  pub adds-once : adds_at start p ≤ 1
  adds-once = omega (arith, kept-once start (rows_after generation p rs) a.table, after-counts (starts_at start) generation p rs)

  -- an add's row has one reference
  pub added-counted : 0 < adds_at start p → Counted start 1 (rows_after generation p rs)
  added-counted h =
      let q : Row → Bool = counts start 1 in
      let m = count_most (λ (x : Add). eqb x.start start) (λ (x : Add). q (row_of_add generation x)) (λ x e. rw e refl) p.adds in
      kept-counted start 1 (rows_after generation p rs) a.table (omega (arith, after-counts q generation p rs))

  -- a row that no release names has its references moved
  pub moved-counted : (k : ℕ) (row : Row) → find start rs ≡ Some (k, row) → lines_at start p.releases ≡ 0 → Counted start (row.references + gained p start - lost p start) (rows_after generation p rs)
  moved-counted k row f z =
      let n : ℕ = row.references + gained p start - lost p start in
      let q : Row → Bool = counts start n in
      let e : row.start ≡ start = found_start rs start k row f in
      let g : goes p row ≡ false = rw e (any_none (λ (r : Ref). eqb r.start start) p.releases z) in
      let m : q (moved p row) ≡ true = both (starts_at start row) (eqb (moved p row).references n) (eq-eqb row.start start e) (eq-eqb (moved p row).references n (rw e refl)) in
      let c = at_count (λ (r : Row). not (goes p r) && q (moved p r)) rs k row (found_below rs start k row f) (rw (← found_row rs start k row f row, g) m) in
      kept-counted start n (rows_after generation p rs) a.table (omega (arith, after-counts q generation p rs))

  -- an extent without a row is not counted
  pub missing-counts : find start rs ≡ None → gained p start + lost p start ≡ 0
  missing-counts m =
      let q : Ref → Bool = λ r. eqb r.start start in
      omega (arith, missing-lines rs start m (p.shares ++ (p.unrefs ++ p.releases)) a.lines, count_append q p.shares (p.unrefs ++ p.releases), count_append q p.unrefs p.releases)
