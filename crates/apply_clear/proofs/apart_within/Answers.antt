use mathlib.Core.Path.{◌∙◌}
use Rattle.apply_clear.proofs.Extents.{copied-apart}
use Rattle.apply_clear.proofs.apart_within.Goals as goal

pub returns : goal.returns
returns g c = c.are_apart.ensures ∙ copied-apart _ _ c.add_pairs.ensures
