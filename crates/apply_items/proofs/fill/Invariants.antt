use Rattle.std.proofs.Common.{◌≡◌, ◌+◌, ◌++◌, length, map, take, drop}
use Rattle.item.specs.Items.{items}
use Rattle.plan_def.specs.ReadBack.{edit_in}
use Rattle.apply_items.specs.Passes.{edits_of, puts_in, merged, Filling}
use Rattle.apply_items.proofs.fill.Given as goal

abbrev pub invariant-loop-line : goal.invariant-loop-line
invariant-loop-line l =
    let before = l.initial.list in
    let olds = take l.n (items before) in
    let left = map edit_in l.line-iterator.iter.rest.now in
    Filling (merged olds (edits_of l.edits) ++ drop (l.n + l.puts) (items before)) left before olds l.i l.list × (length (puts_in left) ≡ l.skip)
