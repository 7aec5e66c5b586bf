use native.Mathlib.Omega.{arith}
use mathlib.Core.Path.{refl}
use Rattle.item.specs.Items.{items}
use Rattle.item.proofs.Laws.{items-length}
use Rattle.table.specs.Rows.{rows}
use Rattle.table.proofs.Laws.{rows-length}
use Rattle.drop_chains.proofs.Reading.{leaves_many}
use Rattle.drop_chains.proofs.Links.{headless, blank}
use Rattle.drop_lines.specs.Dropped.{taken}
use Rattle.drop_lines.proofs.Rows.{lines-most}
use Rattle.drop_lines.proofs.tests.walk_and_put.Goals as goal

pub link-requires : goal.link-requires
link-requires c = headless 4 c.args.table.numbers.now c.args.leaves _ (omega arith) c.requires.1 c.requires.2 refl refl

pub bounds-chains-0 : goal.bounds-chains-0
bounds-chains-0 c = omega (arith, c.link.ensures.chained.row_room, c.requires.0, rows-length c.args.table.numbers.now)

pub invariant_of-map : goal.invariant_of-map
invariant_of-map c = let a = c.args in
    let l = c.link.ensures.linked (blank 4 a.table.numbers.now a.leaves _ (omega arith) c.requires.1 c.requires.2 refl refl) in
    let m = leaves_many a.leaves in
    record { room = omega (arith, l.room, m); inside = rw m at (l.starts 0 (omega (arith, c.requires.0, rows-length a.table.numbers.now))); onward = rw m at l.onward }

pub put_lines-counts-requires : goal.put_lines-counts-requires
put_lines-counts-requires c = let a = c.args in
    let most = lines-most a.c (rows a.table.numbers.now) (items a.leaves.list.now) a.leaves.shared.now a.table.kept a.leaves.one_each in
    let few = items-length a.leaves.list.now in
    let zeros = blank 4 a.table.numbers.now a.leaves _ (omega arith) c.requires.1 c.requires.2 refl refl in
    (taken a.c, c.link.ensures.linked zeros, omega (arith, c.requires.2, few, most), omega (arith, c.requires.2, few, most))
