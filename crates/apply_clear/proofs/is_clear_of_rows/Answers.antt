use mathlib.Core.Path.{◌∙◌, sym}
use Rattle.table.specs.Rows.{rows}
use Rattle.apply_clear.proofs.Clear.{all_clear}
use Rattle.apply_clear.proofs.is_clear_of_rows.Goals as goal

pub returns-then-place_clear : goal.returns-then-place_clear
returns-then-place_clear c = c.if-place_clear.true ∙ sym (all_clear c.args.m.counts.gone.now _ _ (rows c.args.m.table.numbers.now) (sym c.place_clear.ensures ∙ c.if-place_clear.true))
