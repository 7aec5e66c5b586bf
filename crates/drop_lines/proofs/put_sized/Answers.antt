use native.Mathlib.Omega.{arith}
use mathlib.Core.Path.{refl}
use Rattle.item.specs.Items.{items}
use Rattle.table.specs.Rows.{rows}
use Rattle.drop_chains.proofs.Links.{headless, blank, linked_chained}
use Rattle.drop_lines.specs.Dropped.{taken}
use Rattle.drop_lines.proofs.Rows.{lines-most}
use Rattle.drop_lines.proofs.put_sized.Goals as goal

pub link-requires : goal.link-requires
link-requires g c = headless g.row.N c.args.table.numbers.now c.args.leaves _ c.requires.size.2 c.requires.size.0 c.requires.size.1 refl refl

-- the arrays were zeros, so each number leads onward
pub put_rows-requires : goal.put_rows-requires
put_rows-requires g c = let a = c.args in
    let most = lines-most a.c (rows a.table.numbers.now) (items a.leaves.list.now) a.leaves.shared.now a.table.kept a.leaves.one_each in
    let zeros = blank g.row.N a.table.numbers.now a.leaves _ c.requires.size.2 c.requires.size.0 c.requires.size.1 refl refl in
    (taken a.c, linked_chained (taken a.c) _ _ _ _ (c.link.ensures.linked zeros), omega (arith, c.requires.countable.0, most), omega (arith, c.requires.countable.1, most))

pub returns-clause-unrefs : goal.returns-clause-unrefs
returns-clause-unrefs g c = c.put_rows.ensures.unrefs (taken c.args.c) c.link.ensures.chained

pub returns-clause-releases : goal.returns-clause-releases
returns-clause-releases g c = c.put_rows.ensures.releases (taken c.args.c) c.link.ensures.chained
