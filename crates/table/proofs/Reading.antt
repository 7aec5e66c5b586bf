-- What a reader has left, at the end and behind a row.
use Rattle.std.proofs.Common.{◌≡◌, ◌+◌, ◌*◌, ◌/◌, ◌<◌, ◌≤◌, [], ◌∷◌, length, drop, ap, sym, ◌∙◌}
use mathlib.Core.Path.{ap₂}
use denote.Bor.{now}
use Rattle.std.proofs.lemmas.List.{at_drop_more, at_drop_all}
use native.Mathlib.Omega.{arith}
use Rattle.table.specs.declared.Row.{Row}
use Rattle.table.specs.declared.reader.Reader.{Reader}
use Rattle.table.specs.Rows.{row_of, rows}
use Rattle.table.specs.Reading.{left}
use Rattle.table.proofs.Laws.{rows-length, rows_at}

pub left_none : (r : Reader) → length r.table.now / 5 ≤ r.number → left r ≡ []
left_none r h = at_drop_all (λ l. l) (rows r.table.now) r.number (omega (arith, rows-length r.table.now))

pub left_more : (r s : Reader) → r.number < length r.table.now / 5 → (row : Row) → row ≡ row_of (drop (r.number * 5) r.table.now)
    → s.table ≡ r.table → s.number ≡ r.number + 1 → left r ≡ row ∷ left s
left_more r s h row e o n =
    at_drop_more (λ l. l) (rows r.table.now) r.number row (omega (arith, rows-length r.table.now))
    ∙ ap₂ (λ f l. f ∷ l) (rows_at r.table.now r.number row h ∙ sym e) (ap₂ (λ k b. drop k (rows b)) (sym n) (ap now (sym o)))
