use Rattle.ffi_apply.proofs.Telling.{export_short, export-told}
use Rattle.ffi_apply.proofs.zag_apply.Goals as goal

pub returns-then-answer-lt2 : goal.returns-then-answer-lt2
returns-then-answer-lt2 c = rw c.number.ensures (export_short _ _ _ _ c.if-answer-lt2.true)

pub returns : goal.returns
returns c = export-told _ _ _ _ _ _ _ _ _ c.if-answer-lt2.false c.apply_plan-a.ensures c.tell.ensures
