use mathlib.Core.Path.{◌∙◌}
use Prim.Native.Nat.{◌-◌, ◌/◌}
use native.Mathlib.Omega.{arith}
use lib.ListN.{length, drop, length-drop}
use lib.Seq.{take_all}
use Rattle.item.specs.Items.{items}
use Rattle.item.proofs.Laws.{items-length}
use Rattle.cut_segment.proofs.remade.Remade.behind.Goals as goal

pub records_in-requires : goal.records_in-requires
records_in-requires c = let m = c.args.self in (omega (arith, m.good.inside, items-length m.list.records.now), omega (arith, items-length m.list.records.now))

pub returns : goal.returns
returns c =
    let m = c.args.self in
    let s = m.list.records.now in
    let l = drop m.segment.to (items s) in
    c.records_in.ensures ∙ take_all (length s / 70 - m.segment.to) l (omega (arith, items-length s, length-drop m.segment.to (items s)))
