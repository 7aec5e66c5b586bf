-- The table in code: what its row i reads, where the line opens with that row's word, and the rows behind it. Assumes nothing.
use mathlib.Core.Path.{◌≡◌, refl, sym}
use mathlib.Core.Bool.{Bool, true, false, cond}
use mathlib.Core.List.{List, []}
use mathlib.Core.Option.{none}
use Prim.Native.Nat.{ℕ, ◌+◌, ◌<◌, ◌≤◌}
use native.Mathlib.Numerals.{add-one}
use lib.ListN.{length, drop, get_or, drop_of_length-le}
use lib.Seq.{drop-cons}
use Rattle.read_field.specs.Words.{starts}
use Rattle.read_field.specs.Parts.{give, word}
use Rattle.read_field.proofs.Steps.{some_none, rest-same}
use Rattle.read_line.specs.declared.Shape.{Shape as Row}
use Rattle.read_line.specs.Forms.{line_of, unreadable, kind_number}
use Rattle.read_line.specs.Raw.{whole_by, rows_by}

module _ (s : List ℕ) (rs : List Row) (i : ℕ) where
  module _ (d : Row) (l : i < length rs) where
    abbrev row : Row
    row = get_or rs i d

    split : rows_by (drop i rs) s ≡ cond (starts row.opening.now s) (line_of (kind_number row.kind) (whole_by row (drop (length row.opening.now) s))) (rows_by (drop (i + 1) rs) s)
    unfolding rows_by
    split = rw (drop-cons rs i d l, add-one i) refl

    pub row_read : (t : List ℕ) → give [] t ≡ word row.opening.now s → line_of (kind_number row.kind) (whole_by row t) ≡ rows_by (drop i rs) s
    row_read t e = rw split (go (starts row.opening.now s) e)
      where
        go : (b : Bool) → give [] t ≡ cond b (give [] (drop (length row.opening.now) s)) none → line_of (kind_number row.kind) (whole_by row t) ≡ cond b (line_of (kind_number row.kind) (whole_by row (drop (length row.opening.now) s))) (rows_by (drop (i + 1) rs) s)
        go true q = rw (rest-same t (drop (length row.opening.now) s) q) refl
        go false q = absurd (some_none (sym q))

    pub row_passed : none ≡ word row.opening.now s → rows_by (drop (i + 1) rs) s ≡ rows_by (drop i rs) s
    row_passed e = rw split (go (starts row.opening.now s) e)
      where
        go : (b : Bool) → none ≡ cond b (give [] (drop (length row.opening.now) s)) none → rows_by (drop (i + 1) rs) s ≡ cond b (line_of (kind_number row.kind) (whole_by row (drop (length row.opening.now) s))) (rows_by (drop (i + 1) rs) s)
        go true q = absurd (some_none q)
        go false q = refl

  pub row_none : length rs ≤ i → unreadable ≡ rows_by (drop i rs) s
  unfolding rows_by
  row_none l = rw (drop_of_length-le rs l) refl
