use mathlib.Core.List.{map}
use Rattle.item.specs.Items.{fields}
use Rattle.cut_def.specs.Refs.{ref_of}
use Rattle.plan_def.specs.Outputs.{ref_numbers}
use Rattle.plan_lines.specs.Lines.{Laid}
use Rattle.plan_lines.proofs.put_refs.Given as goal

abbrev pub invariant-loop-item : goal.invariant-loop-item
invariant-loop-item g l =
    (goal.iterator-loop-item g).can_next l.item-iterator
    × (goal.iterator-loop-item g).is_finite l.item-iterator
    × Laid ref_numbers 2 l.n (map ref_of (map fields l.yielded)) l.initial.out l.m l.out
