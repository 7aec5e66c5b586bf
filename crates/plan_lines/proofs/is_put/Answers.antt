use mathlib.Core.Path.{refl}
use Rattle.plan_lines.proofs.Edits.{tag_read}
use Rattle.plan_lines.proofs.is_put.Goals as goal

pub returns : goal.returns
returns c = rw tag_read refl
