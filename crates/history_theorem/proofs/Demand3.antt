-- Demand 3 of punch, fallocate and clone, and what applying may refuse of their plans. Assumes nothing.
use mathlib.Core.Path.{◌≡◌, ◌∙◌, ap}
use mathlib.Core.Bool.{Bool}
use mathlib.Core.List.{List}
use Prim.Native.Nat.{ℕ, ◌+◌}
use Rattle.records.specs.Stages.{unless, first}
use Rattle.request.specs.Answers.{plan}
use Rattle.plan_def.specs.Plans.{Plan}
use Rattle.apply_def.proofs.Refusals.{Fit, applying-refused}
use Rattle.history_theorem.specs.States.{State, list_of}
use Rattle.history_theorem.specs.Calls.{Call, punching, fallocating, cloning, lent_of, answer_of}
use Rattle.history_theorem.specs.Claims.{Demand3, RefusedOnly, over_long}
use Rattle.history_theorem.proofs.Lawful.{Lawful}
use Rattle.history_theorem.proofs.Punching.{lawful_punch, fit_punch}
use Rattle.history_theorem.proofs.Fallocating.{lawful_fallocate, fit_fallocate}
use Rattle.history_theorem.proofs.Cloning.{lawful_clone, fit_clone}
use Rattle.history_theorem.proofs.Refusing.{nets_above}
use Rattle.history_theorem.proofs.Every.{every-list}

-- every plan that a call makes is lawful
pub lawful : (sector : ℕ) (s : State) (c : Call) (p : Plan) → answer_of sector s c ≡ plan p → Lawful sector s c p
lawful sector s (punching l places r) p e = lawful_punch sector s l places r p e
lawful sector s (fallocating l places r keepSize) p e = lawful_fallocate sector s l places r keepSize p e
lawful sector s (cloning l src own span) p e = lawful_clone sector s l src own span p e

-- and fit to be applied
pub fits : (sector : ℕ) (s : State) (c : Call) (p : Plan) → answer_of sector s c ≡ plan p → Fit sector (lent_of c).number ((lent_of c).generation + 1) (list_of (lent_of c).number s.files) s.rows p
fits sector s (punching l places r) p e = fit_punch sector s l places r p e
fits sector s (fallocating l places r keepSize) p e = fit_fallocate sector s l places r keepSize p e
fits sector s (cloning l src own span) p e = fit_clone sector s l src own span p e

-- the theorem: from every state, over every list of calls
pub demand3 : (sector : ℕ) (s : State) (cs : List Call) → Demand3 sector s cs
demand3 sector s cs = every-list sector (lawful sector) s cs

-- an accepted plan is refused by applying only with 1 or 3
pub refused-only : (sector : ℕ) (s : State) (c : Call) (p : Plan) → answer_of sector s c ≡ plan p → RefusedOnly sector s c p
refused-only sector s c p e =
    let f = fits sector s c p e in
    let r = applying-refused sector (lent_of c).number ((lent_of c).generation + 1) (list_of (lent_of c).number s.files) s.rows p f in
    record { any = r; counted = λ t. r ∙ ap (λ (b : Bool). first (over_long sector s c p) (unless b 3)) (nets_above sector s c p (lawful sector s c p e) t f.table) }
