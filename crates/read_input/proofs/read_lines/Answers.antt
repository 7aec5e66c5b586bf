use borrow.Author.Rules.{rules}
use Rattle.read_input.proofs.Whole.{onward_first, onward_few, onward-turn, onward-fault, onward_done, not_empty, empty}
use Rattle.read_input.proofs.read_lines.Goals as goal

pub loop-rest-init : goal.loop-rest-init
loop-rest-init c = (onward_first _ _ _ c.begin-read.ensures, search rules)

pub take_next-requires : goal.take_next-requires
take_next-requires c = onward_few _ _ _ _ _ c.loop-rest.invariant.0 (not_empty _ c.loop-rest-test.ensures) c.requires

pub returns-in_default-clause-reads : goal.returns-in_default-clause-reads
returns-in_default-clause-reads c = let e = c.in_default.ensures.taken in
    onward-fault _ _ _ _ _ c.loop-rest.invariant.0 (not_empty _ c.loop-rest-test.ensures) _ _ c.first_line.ensures.line c.first_line.ensures.behind _ e.0 e.1

pub loop-rest-preserved : goal.loop-rest-preserved
loop-rest-preserved c = (onward-turn _ _ _ _ _ c.loop-rest.invariant.0 (not_empty _ c.loop-rest-test.ensures) _ _ c.first_line.ensures.line c.first_line.ensures.behind _ _ c.in-Some.ensures.taken, search rules)

pub returns-clause-reads : goal.returns-clause-reads
returns-clause-reads c = let l = c.loop-rest in onward_done _ _ _ _ l.rest.now (empty _ c.loop-rest-test.ensures) l.invariant.0
