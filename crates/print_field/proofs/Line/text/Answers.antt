use Rattle.print_field.proofs.Parts.{text_kept}
use Rattle.print_field.proofs.Line.text.Goals as goal

pub returns : goal.returns
returns c = rw (← c.self.view_is) (text_kept c.self.inside.bytes c.args.text.now _ c.self.inside.used _ c.self.told c.self.invariant c.min-n.ensures c.copy_from_slice.ensures.after)
