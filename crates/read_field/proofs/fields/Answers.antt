use Rattle.read_field.proofs.Several.{turn}
use Rattle.read_field.proofs.fields.Goals as goal

pub loop-field-preserved : goal.loop-field-preserved
loop-field-preserved c = let l = c.loop-field in
    turn c.args.fields.now l.field-index l.k l.values c.args.values.now _ _ l.invariant.0 l.invariant.1 l.invariant.2 l.auto.values c.requires _ c.loop-field-test.true _ c.read.auto.places _ c.in_ok-rest.ensures
