-- How a fallocate can come back: with a plan or a refusal. Assumes nothing.
use mathlib.Core.Path.{◌≡◌}
use mathlib.Core.Bool.{Bool}
use mathlib.Core.List.{List}
use Prim.Native.Nat.{ℕ, zero, suc}
use native.Mathlib.Omega.{arith}
use Rattle.request.specs.declared.Volume.{Volume}
use Rattle.request.specs.declared.File.{File}
use Rattle.request.specs.declared.Range.{Range}
use Rattle.request.specs.Answers.{Outcome, plan, nothing}
use Rattle.plan_def.specs.Plans.{Plan, refused_or}
use Rattle.plan_def.specs.Outputs.{Rooms}
use Rattle.change_def.specs.Changes.{changed}
use Rattle.fallocate_def.specs.Fallocate.{fallocate, fallocate_lent}

-- a refusal, or a plan: never nothing to do
answers : (x : ℕ) (o : Outcome Plan) → (o ≡ nothing → ⊥) → refused_or x o ≡ nothing → ⊥
unfolding refused_or
answers zero o h e = h e
answers (suc x) o h e = let z : ◌≡◌ {A = ℕ} 0 1 = cc in absurd (omega arith)

plan_answers : (p : Plan) → plan p ≡ nothing → ⊥
plan_answers p e = let z : ◌≡◌ {A = ℕ} 0 1 = cc in absurd (omega arith)

module _ (v : Volume) (f : File) (r : Range) (keep : Bool) (list shared table : List ℕ) (places : List ℕ) (rooms : Rooms) where
  -- there is never "nothing to do": a plan, or a refusal
  pub never_nothing : fallocate_lent v f r keep list shared table places rooms ≡ nothing → ⊥
  unfolding fallocate changed
  never_nothing = answers _ _ (answers _ _ (answers _ _ (plan_answers _)))
