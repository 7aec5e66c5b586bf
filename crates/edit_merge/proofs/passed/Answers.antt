use Rattle.std.proofs.Common.{◌∙◌, sym}
use Rattle.edit_merge.proofs.News.{read_from}
use Rattle.edit_merge.proofs.Steps.{behind-same}
use Rattle.edit_merge.proofs.passed.Goals as goal

pub returns-in-Some : goal.returns-in-Some
returns-in-Some c = let a = c.args in behind-same a.was.now a.i a.key _ _ (sym (read_from c.reader_at.result a.was a.i c.reader_at.ensures) ∙ c.in-Some.ensures.steps) c.if-old-key.true
