-- The extents of adds. Assumes nothing.
use mathlib.Core.Path.{◌≡◌, ap, ◌∙◌}
use mathlib.Core.List.{List, map}
use Rattle.records.specs.Stages.{pairs}
use Rattle.records.proofs.Lists.{pairs-mapped}
use Rattle.cut_def.specs.Refs.{Ref}
use Rattle.plan_def.specs.Plans.{Add}
use Rattle.plan_def.specs.Places.{places_apart}
use Rattle.plan_apart.specs.Spacing.{apart, extent_of}

-- adds are apart if their extents are
pub extents-apart : (l : List Add) (rs : List Ref) → rs ≡ map extent_of l → pairs apart rs ≡ pairs places_apart l
extents-apart l rs e = ap (pairs apart) e ∙ pairs-mapped apart extent_of l
