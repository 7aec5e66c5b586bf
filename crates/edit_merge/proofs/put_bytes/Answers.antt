use Rattle.std.proofs.Common.{ap, ◌∙◌, sym}
use Rattle.endian.specs.Le.{put as put_over}
use Rattle.plan_def.specs.Outputs.{edit_bytes}
use Rattle.edit_merge.specs.Merge.{edit_of}
use Rattle.edit_merge.proofs.Steps.{delete-bytes}
use Rattle.edit_merge.proofs.put_bytes.Goals as goal

pub returns-in-Delete : goal.returns-in-Delete
returns-in-Delete c = let a = c.args in
    c.put_tagged-in-Delete.ensures
    ∙ ap (λ bs. put_over bs a.at a.out.now) (delete-bytes a.file _ _ c.without_data.ensures ∙ ap (λ e. edit_bytes a.file (edit_of e)) (sym c.in-Delete.is))
