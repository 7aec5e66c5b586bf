use Rattle.std.proofs.Common.{rules, tests}
use Rattle.std.proofs.lemmas.Iterator.{YieldsList-from_slice}
use Rattle.std.proofs.lemmas.Iterator.Search.{position_from_yields_List}
use Rattle.ref_minus.proofs.Turns.{not_before, skip_at}
use Rattle.ref_minus.proofs.skip.Goals as goal

pub returns : goal.returns
returns c =
    let a = c.args in
    skip_at a.x a.ys.now c.position.result _ (position_from_yields_List (not_before a.x) _ _ c.position.result c.position.ensures.ran (YieldsList-from_slice a.ys.now cc) (λ x b q k. search (rules, tests))) c.unwrap_or-at.ensures
