-- For the code only: extents wanted, of which the places' tests and the adds know where they are for and how long they are.
use Rattle.std.specs.Prelude.{List, map}
use Rattle.plan_def.specs.Plans.{Add}
use Rattle.plan_def.specs.Places.{Wanted, placed}
use Rattle.change_def.specs.Preallocs.{Stretch}
use Rattle.change_holes.specs.Walk.{left}
use Rattle.change_places.specs.declared.Extent.{Extent}
use Rattle.change_places.specs.declared.Extents.{Extents}

-- an extent for a stretch, its kind left open
abbrev pub wanted_of : Stretch → Wanted
wanted_of s = record { key = s.start; length = s.length; kind = 0 }

-- an extent of the code at its place
abbrev pub add_of : Extent → Add
add_of e = record { start = e.start; length = e.length; key = e.key }

-- the extents that are left to a walk along places
abbrev pub ahead : Extents → List Add
ahead e = placed e.places.now (map wanted_of (left e.walk))
