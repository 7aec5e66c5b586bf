use Rattle.std.proofs.Common.{sym, ◌∙◌}
use Rattle.edit_merge.proofs.News.{read_from}
use Rattle.clone_copies.proofs.Walk.{able_read, copy_none, leading-if}
use Rattle.clone_copies.proofs.Merge.leading_copy.Goals as goal

pub returns-in_err-item : goal.returns-in_err-item
returns-in_err-item c = let a = c.args in let m = a.self.copies in rw c.from_residual.ensures (copy_none m.copying.range m.source.now a.self.segment.now a.j a.k c.requires (sym (read_from c.reader_at.result m.source a.k c.reader_at.ensures) ∙ c.in_err-item.ensures.steps.0))

pub clone_item-copy-requires : goal.clone_item-copy-requires
clone_item-copy-requires c = let a = c.args in let m = a.self.copies in able_read m.copying.range m.source.now a.k _ _ m.sound c.requires (sym (read_from c.reader_at.result m.source a.k c.reader_at.ensures) ∙ c.in_ok-item.ensures.steps)

pub returns : goal.returns
returns c = let a = c.args in let m = a.self.copies in
    leading-if m.copying.range m.source.now a.self.segment.now a.j a.k c.requires _ _ _ _ _ (sym (read_from c.reader_at.result m.source a.k c.reader_at.ensures) ∙ c.in_ok-item.ensures.steps) c.clone_item-copy.ensures c.is_leading.ensures c.then_some.ensures
