use mathlib.Core.Path.{◌∙◌}
use Prim.Native.Nat.{◌/◌}
use lib.ListN.{length}
use Rattle.apply_clear.proofs.Extents.{half_refused}
use Rattle.apply_clear.proofs.+are_adds_apart.Goals as goal

pub returns-else-are_adds_apart : goal.returns-else-are_adds_apart
returns-else-are_adds_apart t c =
    c.if-are_adds_apart.false ∙ half_refused (length c.args.adds.now / 2) c.args.adds.now _ c.are_adds_apart.ensures c.if-are_adds_apart.false
