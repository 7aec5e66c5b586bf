-- For the code only: the first half of a plan, with no place taken.
use Rattle.std.specs.Prelude.{cond, List, map, ℕ, eqb, length, replicate}
use Rattle.request.specs.declared.Numbers.{Numbers}
use Rattle.request.specs.Answers.{Outcome, plan, refused}
use Rattle.plan_def.specs.Plans.{numbers}
use Rattle.plan_def.specs.Places.{Wanted}
use Rattle.change_def.specs.Preallocs.{Stretch}
use Rattle.change_def.specs.Rewrites.{Ground}
use Rattle.change_def.specs.Changes.{Change, change_refusal, wanted, plan_of}

-- the stretch of the file that a new extent is for
abbrev pub stretch_for : Wanted → Stretch
stretch_for w = record { start = w.key; length = w.length }

pub record Drafted : Type 0 where
  pub numbers : Numbers
  pub extents : List Stretch

-- all refusals but 26 and 27, the plan's numbers (each place counts as 1: they are the same whatever places are taken), and
-- the stretch that each extent is for which a place is wanted
unfoldable pub drafted : Ground → Change → (limit : ℕ) → Outcome Drafted
drafted g c limit =
    cond (eqb (change_refusal g c) 0)
    (plan (record { numbers = numbers (plan_of g c limit (replicate (length (wanted g c limit)) 1)); extents = map stretch_for (wanted g c limit) }))
    (refused (change_refusal g c))
