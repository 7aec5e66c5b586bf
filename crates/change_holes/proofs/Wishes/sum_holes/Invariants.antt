use Rattle.std.proofs.Common.{◌≡◌, ◌+◌, length}
use mathlib.Core.List.{flat_map}
use Rattle.change_def.specs.Preallocs.{piece_limit, prealloc_pieces, sum_of}
use Rattle.change_holes.specs.Walk.{holes_of, stretches_left}
use Rattle.change_holes.proofs.Wishes.sum_holes.Given as goal

abbrev pub invariant-loop-s : goal.invariant-loop-s
invariant-loop-s l =
    (l.sums.bytes + sum_of (stretches_left l.s-iterator) ≡ sum_of (holes_of l.fn.self))
    × (l.sums.pieces + length (flat_map (prealloc_pieces piece_limit) (stretches_left l.s-iterator)) ≡ length (flat_map (prealloc_pieces piece_limit) (holes_of l.fn.self)))
