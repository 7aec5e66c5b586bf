-- The number that document 01 gives each refusal ("When a plan is refused").
use Rattle.std.specs.Prelude.{ℕ, Result, Ok, Err}
use Rattle.records.specs.declared.refusal.Refusal.{Refusal}
use Rattle.records.specs.declared.refusal.Refusal.TheVariants.{Broken, NotKept, Table, Sector, Empty, TooFar, Inline, Kind, Encoded, Hole, PastSize, NoSpace, Generation, NoRow, Keyed, Nodatacow, Window, ReadElsewhere, Start, End, Offset, Length, Partial, Overlap, Growth, Place, Room}

abbrev pub number : Refusal → ℕ
number Broken = 1
number NotKept = 2
number Table = 3
number Sector = 4
number Empty = 5
number TooFar = 6
number Inline = 7
number Kind = 8
number Encoded = 9
number Hole = 10
number PastSize = 11
number NoSpace = 12
number Generation = 13
number NoRow = 14
number Keyed = 15
number Nodatacow = 16
number Window = 17
number ReadElsewhere = 18
number Start = 19
number End = 20
number Offset = 21
number Length = 22
number Partial = 23
number Overlap = 24
number Growth = 25
number Place = 26
number Room = 27

-- why an answer is refused: the refusal's number; 0 where it is not refused
abbrev pub why : {A : Type 0} → Result A Refusal → ℕ
why (Ok _) = 0
why (Err refusal) = number refusal
