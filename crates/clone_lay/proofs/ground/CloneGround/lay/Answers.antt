use mathlib.Core.Path.{refl}
use Rattle.item.specs.Items.{items}
use Rattle.table.specs.Rows.{rows}
use Rattle.clone_lay.proofs.Laid.{plan-laid}
use Rattle.clone_lay.proofs.ground.CloneGround.lay.Goals as goal

pub returns-clause-laid : goal.returns-clause-laid
returns-clause-laid c = let g = c.args.self in
    plan-laid g.copies.copying.range (items g.leaves.list.records.now) g.leaves.shared.now (items g.copies.source.now) (rows g.table.numbers.now) g.size c.lay_refs-refs.result c.lay_edits-edits.result _ _ c.lay_refs-refs.ensures c.lay_edits-edits.ensures refl refl
