use Rattle.table.specs.Rows.{rows}
use Rattle.ref_def.specs.Drops.{drops_refusal}
use Rattle.cut_touched.proofs.Parts.{touched-drops}
use Rattle.cut_touched.proofs.drops_refusal.Goals as goal

pub returns : goal.returns
returns c = touched-drops c.args.k _ _ c.touched_part.ensures (drops_refusal (rows c.args.table.numbers.now)) _ c.drops_refusal.ensures
