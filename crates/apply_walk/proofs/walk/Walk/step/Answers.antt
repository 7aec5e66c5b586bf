use mathlib.Core.Path.{refl}
use Rattle.std.proofs.Common.{Some}
use Rattle.apply_walk.proofs.Merge.{gone-there, old_last, old_next, put_next, delete_next}
use Rattle.apply_walk.proofs.Steps.{stepped, stepped_old}
use native.Mathlib.Omega.{arith}
use Rattle.apply_walk.proofs.walk.Walk.step.Goals as goal

pub returns-then-j-edits : goal.returns-then-j-edits
returns-then-j-edits c = let w = c.args.self.now in
    let l = w.edited in
    stepped_old w _ _ c.keep.ensures (omega arith) (old_last l.list.now l.edits.now l.rising w.i w.j (omega arith) c.if-j-edits.true)

pub keep-requires-then-is_gone : goal.keep-requires-then-is_gone
keep-requires-then-is_gone c = gone-there (Some c.edit_item-edit.result.key) c.args.self.now.edited.list.now c.args.self.now.i c.if-is_gone.ensures

pub returns-then-is_gone : goal.returns-then-is_gone
returns-then-is_gone c = let w = c.args.self.now in
    let l = w.edited in
    stepped_old w _ _ c.keep-then-is_gone.ensures
    (gone-there (Some c.edit_item-edit.result.key) l.list.now w.i c.if-is_gone.ensures)
    (old_next l.list.now l.edits.now l.rising w.i w.j _ c.if-j-edits.false c.edit_item-edit.ensures c.if-is_gone.ensures)

pub returns-then-is_put : goal.returns-then-is_put
returns-then-is_put c = let w = c.args.self.now in
    let l = w.edited in
    let p = put_next l.list.now l.edits.now l.rising w.i w.j _ c.if-j-edits.false c.edit_item-edit.ensures c.if-is_gone.ensures _ c.passed-self.ensures.0 c.if-is_put.ensures in
    stepped w _ _ _ refl p.0 p.1 (omega arith, omega arith, omega arith)

pub returns : goal.returns
returns c = let w = c.args.self.now in
    let l = w.edited in
    record {
      same = refl;
      first = delete_next l.list.now l.edits.now l.rising w.i w.j _ c.if-j-edits.false c.edit_item-edit.ensures c.if-is_gone.ensures _ c.passed-self.ensures.0 c.if-is_put.ensures;
      on = (c.passed-self.ensures.1, refl);
    }
