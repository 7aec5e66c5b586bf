-- For the code only: what a range that passed its refusals is, of all that was lent.
use Rattle.std.specs.Prelude.{Result, Ok, Err, ◌≡◌, ℕ, ◌+◌}
use Rattle.records.specs.declared.refusal.Refusal.{Refusal}
use Rattle.records.specs.Refusals.{number}
use Rattle.request.specs.declared.Range.{Range}
use Rattle.request.specs.declared.Lent.{Lent}
use Rattle.punch.specs.declared.range.FileRange.{FileRange}
use Rattle.punch.specs.Raw.{range_lent}

abbrev pub range_in : Lent → Range → ℕ
range_in l r = range_lent l.volume l.file r l.list.now l.shared.now l.table.now

-- the range that was asked for, with a ground that is what was lent
pub record Passing (l : Lent) (r : Range) (x : FileRange) : Type 0 where
  pub passes : range_in l r ≡ 0
  pub volume : x.ground.volume ≡ l.volume
  pub file : x.ground.file ≡ l.file
  pub list : x.ground.leaves.list.records ≡ l.list
  pub shared : x.ground.leaves.shared ≡ l.shared
  pub table : x.ground.table.numbers ≡ l.table
  pub start : x.start ≡ r.offset
  pub stop : x.stop ≡ r.offset + r.length

abbrev pub RangeSaid : Lent → Range → Result FileRange Refusal → Type 0
RangeSaid l r (Ok x) = Passing l r x
RangeSaid l r (Err e) = number e ≡ range_in l r
