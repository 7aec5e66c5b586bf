use mathlib.Core.Path.{◌≡◌, ◌∙◌}
use Prim.Native.Nat.{◌+◌}
use native.Mathlib.Omega.{arith}
use native.Mathlib.Nat.{zero-add}
use lib.ListN.{length, take}
use lib.Seq.{length-take-le}
use borrow.Author.Rules.{rules}
use Rattle.item.specs.Items.{fields, items}
use Rattle.cut_segment.specs.Segments.{starts_by}
use Rattle.cut_segment.proofs.Buffer.{items-room}
use Rattle.cut_segment.proofs.Cutting.{leading-most}
use Rattle.cut_segment.proofs.Inserting.{slid}
use Rattle.cut_segment.proofs.insert_item.Goals as goal

pub starting_by-k-requires : goal.starting_by-k-requires
starting_by-k-requires c = (omega arith, omega (arith, items-room (c.args.s.count + 1) c.args.seg.now c.requires))

pub slide-requires : goal.slide-requires
slide-requires c =
    let a = c.args in
    let n = a.s.count in
    let l = items a.seg.now in
    let r = items-room (n + 1) a.seg.now c.requires in
    (omega (arith, leading-most (starts_by a.item.key) (take n l), length-take-le n l (omega arith), c.starting_by-k.ensures), omega arith)

pub returns : goal.returns
returns c =
    let a = c.args in
    let l : length c.slide.new.seg ≡ length a.seg.now = search rules in
    slid (fields a.item) a.s a.seg.now _ c.slide.new.seg c.requires l (c.starting_by-k.ensures ∙ zero-add _) c.slide.ensures
