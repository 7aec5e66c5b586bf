-- A refusal has a number, which is not 0. Assumes nothing.
use mathlib.Core.Path.{◌≡◌}
use native.Mathlib.Omega.{arith}
use Rattle.records.specs.declared.refusal.Refusal.{Refusal}
use Rattle.records.specs.declared.refusal.Refusal.TheVariants.{Broken, NotKept, Table, Sector, Empty, TooFar, Inline, Kind, Encoded, Hole, PastSize, NoSpace, Generation, NoRow, Keyed, Nodatacow, Window, ReadElsewhere, Start, End, Offset, Length, Partial, Overlap, Growth, Place, Room}
use Rattle.records.specs.Refusals.{number}

pub number-some : (r : Refusal) → number r ≡ 0 → ⊥
number-some Broken h = absurd (omega arith)
number-some NotKept h = absurd (omega arith)
number-some Table h = absurd (omega arith)
number-some Sector h = absurd (omega arith)
number-some Empty h = absurd (omega arith)
number-some TooFar h = absurd (omega arith)
number-some Inline h = absurd (omega arith)
number-some Kind h = absurd (omega arith)
number-some Encoded h = absurd (omega arith)
number-some Hole h = absurd (omega arith)
number-some PastSize h = absurd (omega arith)
number-some NoSpace h = absurd (omega arith)
number-some Generation h = absurd (omega arith)
number-some NoRow h = absurd (omega arith)
number-some Keyed h = absurd (omega arith)
number-some Nodatacow h = absurd (omega arith)
number-some Window h = absurd (omega arith)
number-some ReadElsewhere h = absurd (omega arith)
number-some Start h = absurd (omega arith)
number-some End h = absurd (omega arith)
number-some Offset h = absurd (omega arith)
number-some Length h = absurd (omega arith)
number-some Partial h = absurd (omega arith)
number-some Overlap h = absurd (omega arith)
number-some Growth h = absurd (omega arith)
number-some Place h = absurd (omega arith)
number-some Room h = absurd (omega arith)
