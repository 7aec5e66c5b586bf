use mathlib.Core.Path.{ap, ◌∙◌, sym}
use Rattle.std.specs.Prelude.{Option}
use Rattle.item.specs.Items.{fields}
use Rattle.item.specs.Reading.{left}
use Rattle.table.specs.Rows.{rows}
use Rattle.drop_lines.specs.declared.Refused.{Refused}
use Rattle.drop_lines.specs.Raw.{due}
use Rattle.drop_lines.proofs.Refusals.{due-turn, due-done}
use Rattle.drop_lines.proofs.drops_refusal.Goals as goal

pub loop-item-preserved : goal.loop-item-preserved
loop-item-preserved c =
    let t = due-turn c.args.c (rows c.args.table.numbers.now) (fields c.in-Some.item) (left c.next.new.self) (due c.loop-item.first) _ _ c.item_due.ensures c.earlier-first.ensures in
    rw (← c.in-Some.ensures.steps) at t ∙ c.loop-item.invariant

pub returns-in-Some-first : goal.returns-in-Some-first
returns-in-Some-first c bs h =
    ap (λ (o : Option Refused). (due o).number) (sym c.in-Some-first.is)
    ∙ due-done c.args.c (rows c.args.table.numbers.now) _ _ (due c.loop-item.first) c.in-None.ensures.steps.0 c.loop-item.invariant bs h

pub returns-in-None-first : goal.returns-in-None-first
returns-in-None-first c bs h =
    ap (λ (o : Option Refused). (due o).number) (sym c.in-None-first.is)
    ∙ due-done c.args.c (rows c.args.table.numbers.now) _ _ (due c.loop-item.first) c.in-None.ensures.steps.0 c.loop-item.invariant bs h
