use Rattle.std.proofs.Common.{refl, ◌∙◌}
use Rattle.read_field.specs.Fields.{fields}
use Rattle.read_line.specs.Forms.{read_line, read_by}
use Rattle.read_line.specs.Raw.{rows_by}
use Rattle.read_line.proofs.Table.{row_read, row_passed, row_none}
use Rattle.read_line.proofs.read_line.Goals as goal

pub loop-shape-init : goal.loop-shape-init
unfolding read_line read_by rows_by fields
loop-shape-init c = refl

pub returns-in-Some : goal.returns-in-Some
returns-in-Some c = let l = c.loop-shape in c.read.ensures ∙ row_read c.args.line.now _ l.shape-index _ c.loop-shape-test.true _ c.in-Some.ensures ∙ l.invariant

pub loop-shape-preserved : goal.loop-shape-preserved
loop-shape-preserved c = let l = c.loop-shape in row_passed c.args.line.now _ l.shape-index _ c.loop-shape-test.true c.in_default.ensures ∙ l.invariant

pub returns : goal.returns
returns c = let l = c.loop-shape in row_none c.args.line.now _ l.shape-index c.loop-shape-test.false ∙ l.invariant
