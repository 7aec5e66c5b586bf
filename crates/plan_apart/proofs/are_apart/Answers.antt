use mathlib.Core.Path.{◌∙◌, ap}
use Rattle.records.specs.Stages.{neighbours}
use Rattle.plan_apart.specs.Spacing.{ends_by}
use Rattle.plan_apart.proofs.Spacing.{sorted_apart}
use Rattle.plan_apart.proofs.are_apart.Goals as goal

pub returns : goal.returns
returns c = c.are_spaced.ensures ∙ ap (neighbours ends_by) c.sort_refs.ensures.sorted ∙ sorted_apart _
