use Rattle.std.proofs.Common.{◌∙◌}
use Rattle.plan_def.specs.Outputs.{edit_bytes}
use Rattle.plan_lines.proofs.Laws.{laid_one, laid_full}
use Rattle.edit_merge.specs.Merge.{edit_of}
use Rattle.edit_merge.proofs.put_edit.Goals.{then-n-out, else-n-out}
use Rattle.edit_merge.proofs.put_edit.Goals as goal

pub returns : goal.returns
returns c = let a = c.args in
    let f = edit_bytes a.file in
    elim c.if-n-out.branch [
      | then-n-out w ↦ laid_one f 71 a.n (edit_of a.edit) a.out.now _ w.if-n-out.true (w.out-is ∙ w.put_bytes.ensures)
      | else-n-out w ↦ rw w.out-is (laid_full f 71 a.n (edit_of a.edit) a.out.now w.if-n-out.false)
    ]
