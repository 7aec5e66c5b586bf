-- What an accepted request says. Assumes nothing.
use mathlib.Core.Path.{◌≡◌, refl}
use mathlib.Core.Bool.{Bool, true, false, cond}
use mathlib.Core.Option.{Option, none, some}
use Prim.Native.Nat.{ℕ, zero, suc}
use native.Mathlib.Omega.{arith}
use Rattle.records.specs.Stages.{first}
use Rattle.request.specs.Answers.{Outcome, plan, nothing}
use Rattle.plan_def.specs.Plans.{Plan, refused_or, or_nothing}

-- two stages one behind the other
pub two-refused : (x y : ℕ) (o : Outcome Plan) → refused_or x (refused_or y o) ≡ refused_or (first x y) o
unfolding refused_or first
two-refused zero y o = refl
two-refused (suc x) y o = refl

-- a plan was not refused before it was made
pub refused_or-plan : (n : ℕ) (o : Outcome Plan) (p : Plan) → refused_or n o ≡ plan p → (n ≡ 0) × (o ≡ plan p)
unfolding refused_or
refused_or-plan zero o p h = (refl, h)
refused_or-plan (suc n) o p h = let z : ◌≡◌ {A = ℕ} 0 1 = cc in absurd (omega arith)

pub plan-same : (p q : Plan) → plan p ≡ plan q → p ≡ q
plan-same p q h = cc

-- nor was there nothing to do
pub or_nothing-plan : {A : Type 0} (o : Option A) (f : A → Outcome Plan) (p : Plan) → or_nothing o f ≡ plan p → (a : A) × (o ≡ some a) × (f a ≡ plan p)
or_nothing-plan none f p h = let z : ◌≡◌ {A = ℕ} 0 1 = cc in absurd (omega arith)
or_nothing-plan (some a) f p h = (a, refl, h)

pub cond-plan : (b : Bool) (o : Outcome Plan) (p : Plan) → cond b nothing o ≡ plan p → (b ≡ false) × (o ≡ plan p)
cond-plan true o p h = let z : ◌≡◌ {A = ℕ} 0 1 = cc in absurd (omega arith)
cond-plan false o p h = (refl, h)
