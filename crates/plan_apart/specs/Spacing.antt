-- For the code only: extents that share no byte, each a pair of numbers: its start, and its length as the offset.
use Rattle.std.specs.Prelude.{Bool, ◌+◌, leb}
use Rattle.cut_def.specs.Refs.{Ref}
use Rattle.plan_def.specs.Plans.{Add}
use Rattle.plan_def.specs.Places.{clear}

-- two extents share no byte
abbrev pub apart : Ref → Ref → Bool
apart r q = clear r.start r.offset q.start q.offset

-- one ends at most where another starts
abbrev pub ends_by : Ref → Ref → Bool
ends_by r q = leb (r.start + r.offset) q.start

-- an add's extent
abbrev pub extent_of : Add → Ref
extent_of a = record { start = a.start; offset = a.length }
