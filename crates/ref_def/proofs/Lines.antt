-- Every line that a plan has of an extent is of one with a row. Assumes nothing.
use mathlib.Core.Path.{◌≡◌, refl, ◌∙◌}
use mathlib.Core.Bool.{Bool, true, false, cond}
use mathlib.Core.List.{List, [], ◌∷◌, map}
use Prim.Native.Nat.{ℕ, suc, ◌+◌, ◌<◌}
use native.Mathlib.Omega.{arith}
use lib.Dec.{eqb}
use lib.ListN.{length, get_or}
use borrow.Author.Tests.{eqb-true}
use Rattle.std.specs.Prelude.{Some, None}
use Rattle.records.specs.Stages.{unless, stage, every}
use Rattle.records.specs.Select.{keep}
use Rattle.records.proofs.Tests.{both, both_left, both_right, first_go, stage-zero}
use Rattle.records.proofs.Lists.{every_flat}
use Rattle.table.specs.declared.Row.{Row}
use Rattle.table.specs.Rows.{Found, table_kept, find, with_row, one_more_reference}
use Rattle.table.proofs.Laws.{kept_found}
use Rattle.cut_def.specs.Refs.{Ref, ref_of}
use Rattle.ref_def.proofs.Drops.{is_found}
use Rattle.ref_def.specs.Drops.{InLeaf, drops_of, lines, released, releases, unrefs}

-- the extent of a line has a row
abbrev pub rowed : List Row → Ref → Bool
rowed rows r = is_found (find r.start rows)

-- what goes on from a search only with 14 found its row
pub with_rowed : (o : Found) (f : Row → ℕ) → with_row o f ≡ 0 → is_found o ≡ true
with_rowed (Some (k, r)) f h = refl
with_rowed None f h = absurd (omega arith)

-- every row of a kept table is found
rows-from : (rows : List Row) → table_kept rows ≡ true → (n : ℕ) (ts : List Row) → ((i : ℕ) (e : Row) → i < length ts → (n + i < length rows) × (get_or ts i e ≡ get_or rows (n + i) e)) → every (λ (t : Row). is_found (find t.start rows)) ts ≡ true
unfolding every
rows-from rows h n [] f = refl
rows-from rows h n (t ∷ ts) f =
    both (is_found (find t.start rows)) (every (λ (t : Row). is_found (find t.start rows)) ts)
    (let x = f 0 t (omega arith) in rw (x.1, kept_found rows h (n + 0) t x.0) refl)
    (rows-from rows h (n + 1) ts (λ i e l. let x = f (suc i) e (omega arith) in let d : n + suc i ≡ n + 1 + i = omega arith in (rw d at x.0, rw d at x.1)))

rows_found : (rows : List Row) → table_kept rows ≡ true → every (λ (t : Row). is_found (find t.start rows)) rows ≡ true
rows_found rows h = rows-from rows h 0 rows (λ i e l. let z : 0 + i ≡ i = omega arith in (omega arith, rw z refl))

-- the lines of one row
lines_rowed : (rows : List Row) (start : ℕ) → is_found (find start rows) ≡ true → (ds : List InLeaf) → every (rowed rows) (lines start ds) ≡ true
unfolding every keep
lines_rowed rows start h [] = refl
lines_rowed rows start h (d ∷ ds) = go (eqb d.item.extent_start start) refl (lines_rowed rows start h ds)
  where
    go : (b : Bool) → eqb d.item.extent_start start ≡ b → every (rowed rows) (lines start ds) ≡ true → every (rowed rows) (map (λ (d : InLeaf). ref_of d.item) (cond b (d ∷ drops_of start ds) (drops_of start ds))) ≡ true
    go true e ih = both (is_found (find d.item.extent_start rows)) (every (rowed rows) (lines start ds)) (rw (eqb-true d.item.extent_start start e) h) ih
    go false e ih = ih

given : (rows : List Row) (ds : List InLeaf) (b : Bool) (row : Row) → is_found (find row.start rows) ≡ true → (every (rowed rows) (cond b (lines row.start ds) []) ≡ true) × (every (rowed rows) (cond b [] (lines row.start ds)) ≡ true)
given rows ds true row h = (lines_rowed rows row.start h ds, unfold every in refl)
given rows ds false row h = (unfold every in refl, lines_rowed rows row.start h ds)

pub releases_rowed : (rows : List Row) (ds : List InLeaf) → table_kept rows ≡ true → every (rowed rows) (releases rows ds) ≡ true
releases_rowed rows ds h = every_flat (λ (t : Row). is_found (find t.start rows)) (λ (row : Row). cond (released ds row) (lines row.start ds) []) (rowed rows) (λ row e. (given rows ds (released ds row) row e).0) rows (rows_found rows h)

pub unrefs_rowed : (rows : List Row) (ds : List InLeaf) → table_kept rows ≡ true → every (rowed rows) (unrefs rows ds) ≡ true
unrefs_rowed rows ds h = every_flat (λ (t : Row). is_found (find t.start rows)) (λ (row : Row). cond (released ds row) [] (lines row.start ds)) (rowed rows) (λ row e. (given rows ds (released ds row) row e).1) rows (rows_found rows h)

-- references that may be added have rows
pub more_rowed : (rows : List Row) (l : List Ref) → stage (λ (r : Ref). one_more_reference r.start rows) l ≡ 0 → every (rowed rows) l ≡ true
unfolding every
more_rowed rows [] h = refl
more_rowed rows (r ∷ l) h =
    let z = stage-zero (λ (r : Ref). one_more_reference r.start rows) r l h in
    both (rowed rows r) (every (rowed rows) l) (with_rowed (find r.start rows) (λ (row : Row). unless (eqb row.keyed 0) 15) z.0) (more_rowed rows l z.1)

-- and so no line is missing one
pub rowed_stage : (rows : List Row) (f : Ref → ℕ) → ((r : Ref) → is_found (find r.start rows) ≡ true → f r ≡ 0) → (l : List Ref) → every (rowed rows) l ≡ true → stage f l ≡ 0
unfolding stage every
rowed_stage rows f g [] h = refl
rowed_stage rows f g (r ∷ l) h = rw (g r (both_left (rowed rows r) (every (rowed rows) l) h)) (first_go 0 _ refl ∙ rowed_stage rows f g l (both_right (rowed rows r) (every (rowed rows) l) h))
