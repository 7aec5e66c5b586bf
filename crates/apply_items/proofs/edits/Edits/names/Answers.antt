use mathlib.Core.Path.{◌∙◌}
use Rattle.item.specs.Items.{fields}
use Rattle.apply_items.proofs.Front.{rise_later, names_later, names_first, names_none}
use native.Mathlib.Omega.{arith}
use Rattle.apply_items.proofs.edits.Edits.names.Goals as goal

pub returns-then-next-key : goal.returns-then-next-key
returns-then-next-key c = let l = c.loop-line in
    let s = c.in-Some in
    (names_first l.self.lines.now s.line.now s.behind.now s.ensures.cases.0 (fields c.edit_item-next.result) c.edit_item-next.ensures c.args.key l.self.rise c.if-next-key.true ∙ l.invariant c.args.key (omega arith), l.invariant)

pub invariant_of-self : goal.invariant_of-self
invariant_of-self c = let l = c.loop-line in
    let s = c.in-Some in
    record { rise = rise_later l.self.lines.now s.line.now s.behind.now s.ensures.cases.0 (fields c.edit_item-next.result) c.edit_item-next.ensures l.self.rise }

pub loop-line-preserved : goal.loop-line-preserved
loop-line-preserved c = let l = c.loop-line in
    let s = c.in-Some in
    λ k h. names_later l.self.lines.now s.line.now s.behind.now s.ensures.cases.0 (fields c.edit_item-next.result) c.edit_item-next.ensures c.args.key c.if-next-key.false k h ∙ l.invariant k h

pub returns : goal.returns
returns c = let l = c.loop-line in
    (names_none l.self.lines.now c.args.key c.in_default.ensures.cases ∙ l.invariant c.args.key (omega arith), l.invariant)
