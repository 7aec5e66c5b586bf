use Rattle.std.proofs.Common.{rules, sym}
use Rattle.read_field.proofs.Steps.{places_laws}
use Rattle.read_field.proofs.Over.{over-no_space, over-no_number, over-turn, over-done}
use Rattle.read_field.proofs.numbers.Goals as goal

pub returns-in_err-word-clause-over : goal.returns-in_err-word-clause-over
returns-in_err-word-clause-over c = let l = c.loop-place in over-no_space l.places l.place-index c.args.limit l.rest.now _ _ (sym l.auto.places) l.invariant.1 c.loop-place-test.true (search rules)

pub returns-in_err-n-clause-over : goal.returns-in_err-n-clause-over
returns-in_err-n-clause-over c = let l = c.loop-place in over-no_number l.places l.place-index c.args.limit l.rest.now _ _ (sym l.auto.places) l.invariant.1 c.loop-place-test.true c.in_ok-word.field-0.now (search rules) (search rules)

pub loop-place-preserved : goal.loop-place-preserved
loop-place-preserved c =
    let l = c.loop-place in
    (search (rules, places_laws), over-turn l.places l.place-index c.args.limit l.rest.now _ _ (sym l.auto.places) l.invariant.1 c.loop-place-test.true c.in_ok-word.field-0.now c.in_ok-n.n c.in_ok-n.behind.now (search rules) (search rules))

pub returns-clause-over : goal.returns-clause-over
returns-clause-over c = let l = c.loop-place in over-done l.places l.place-index c.args.limit l.rest.now _ _ (sym l.auto.places) l.invariant.1 (search rules)
