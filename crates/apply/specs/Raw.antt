-- For the code only: what the functions of applying ask of each other.
use Rattle.std.specs.Prelude.{List, ℕ}
use Rattle.plan_def.specs.Plans.{Plan}
use Rattle.apply_def.specs.declared.Parts.{Parts}
use Rattle.apply_def.specs.Apply.{Applying}
use Rattle.apply_def.specs.Lent.{apply_in}
use Rattle.apply_refusals.specs.Stages.{Ready}
use Rattle.apply_refusals.specs.declared.Target.{Target}

-- what is lent is accepted
abbrev pub ReadyFor : Target → (list table : List ℕ) → Parts → Type 0
ReadyFor t list table p = Ready t.number t.sector t.sizes.items t.sizes.rows list table p.edits.now

-- a plan applied
abbrev pub apply_to : Target → (list table : List ℕ) → Plan → Applying
apply_to t = apply_in t.sector t.number t.generation t.sizes.items t.sizes.rows
