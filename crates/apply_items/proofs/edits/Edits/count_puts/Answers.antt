use Rattle.std.proofs.Common.{◌≡◌, ◌∙◌, rules}
use Rattle.std.specs.List.{count_by}
use Rattle.apply_items.proofs.Back.{puts-one, puts_counted}
use Rattle.apply_items.proofs.edits.Edits.count_puts.Goals as goal

pub returns : goal.returns
returns c =
    let lines = c.args.self.lines.now in
    let h : c.count.result ≡ count_by puts-one lines = search rules in
    h ∙ puts_counted lines
