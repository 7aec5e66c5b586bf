-- For the code only: what the structs and functions of this crate say, in the terms of the definitions.
use Rattle.std.specs.Prelude.{drop}
use mathlib.Core.List.{List, ◌∷◌, ◌++◌, flat_map}
use Rattle.item.specs.Items.{Fields, items}
use Rattle.change_def.specs.Preallocs.{Stretch, piece_limit, prealloc_pieces}
use Rattle.change_def.specs.Sweep.{up_to, sweep}
use Rattle.change_holes.specs.declared.Bounds.{Bounds}
use Rattle.change_holes.specs.declared.NewExtents.{NewExtents}
use Rattle.change_holes.specs.declared.Wishes.{Wishes}
use Rattle.change_holes.specs.declared.Stretches.{Stretches}
use Rattle.change_holes.specs.declared.Piece.{Piece}
use Rattle.change_holes.specs.declared.Walker.{Walker}

abbrev pub stretch_of : Bounds → Stretch
stretch_of s = up_to s.start s.stop

abbrev pub piece_of : Piece → Stretch
piece_of p = record { start = p.start; length = p.length }

-- all stretches that new extents are wanted for, in order, and all pieces
abbrev pub stretches : NewExtents → List Fields → List Stretch
stretches w fs = stretch_of w.one ∷ stretch_of w.two ∷ sweep w.lo w.hi w.from w.to fs

abbrev pub wishes : NewExtents → List Fields → List Stretch
wishes w fs = flat_map (prealloc_pieces piece_limit) (stretches w fs)

-- the same of the code's: the holes' stretches, all stretches, and all pieces
abbrev pub holes_of : Wishes → List Stretch
holes_of w = sweep w.extents.lo w.extents.hi w.extents.from w.extents.to (items w.list.now)

abbrev pub stretches_of : Wishes → List Stretch
stretches_of w = stretches w.extents (items w.list.now)

abbrev pub wishes_of : Wishes → List Stretch
wishes_of w = wishes w.extents (items w.list.now)

-- the stretches, and the pieces, that are left to a walk
abbrev pub stretches_left : Stretches → List Stretch
stretches_left s = drop s.number (stretches_of s.wishes)

abbrev pub left : Walker → List Stretch
left p = prealloc_pieces piece_limit (stretch_of p.rest) ++ flat_map (prealloc_pieces piece_limit) (stretches_left p.stretches)
