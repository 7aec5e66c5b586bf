use mathlib.Core.Path.{◌∙◌, ap}
use mathlib.Core.Bool.{not}
use Prim.Native.Nat.{◌+◌}
use Rattle.records.proofs.Tests.{not-leb}
use Rattle.records.proofs.sum_past.Goals as goal

pub returns : goal.returns
returns c = let a = c.args in ap not c.sum_at_most.ensures ∙ not-leb (a.a + a.b) a.limit
