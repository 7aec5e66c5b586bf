-- For the code only: the kind that a number of `Fields` stands for, and the other way. Tests of numbers, as the definitions have
-- them, so that a test of a kind in code is proved unasked.
use Rattle.std.specs.Prelude.{ℕ, eqb, if◌then◌else◌}
use Rattle.item.specs.declared.kind.Kind.{Kind}
use Rattle.item.specs.declared.kind.Kind.TheVariants.{Inline, Regular, Preallocated, Other}

abbrev pub kind_of : ℕ → Kind
kind_of n = if eqb n 0 then Inline else (if eqb n 1 then Regular else (if eqb n 2 then Preallocated else Other))

abbrev pub byte_of : Kind → ℕ
byte_of Inline = 0
byte_of Regular = 1
byte_of Preallocated = 2
byte_of Other = 3
