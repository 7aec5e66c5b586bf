use Rattle.plan_lines.proofs.Edits.{edit_read}
use Rattle.plan_lines.proofs.edit_item.Goals as goal

pub returns : goal.returns
returns c = let a = c.args in
    edit_read _ a.edits.now a.k c.item_at.ensures
