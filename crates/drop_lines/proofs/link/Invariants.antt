use Rattle.table.specs.Rows.{rows}
use Rattle.ref_def.specs.Lent.{leaves_of}
use Rattle.drop_chains.specs.Links.{links, Blank, Chained, Linked}
use Rattle.drop_lines.specs.Dropped.{taken}
use Rattle.drop_lines.proofs.link.Given as goal

abbrev pub invariant-loop-i : goal.invariant-loop-i
invariant-loop-i l =
    let rs = rows l.table.numbers.now in
    let ds = leaves_of l.leaves in
    Chained (taken l.c) rs ds l.i (links l.chains) × (Blank rs ds (links l.initial.chains) → Linked (taken l.c) rs ds l.i (links l.chains))
