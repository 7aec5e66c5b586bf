-- Of each operation that may be asked for: ample outputs are alike to it, with them it never gives 27, and the numbers of its edits fit. Assumes nothing.
use mathlib.Core.Path.{◌≡◌, ap₂}
use mathlib.Core.Bool.{Bool, true, false, cond}
use mathlib.Core.List.{List}
use Prim.Native.Nat.{ℕ, ◌<◌, ◌≤◌, ◌^◌}
use lib.Dec.{eqb}
use lib.ListN.{length}
use Rattle.endian.specs.Le.{Bytes}
use Rattle.records.specs.Stages.{every}
use Rattle.item.specs.Items.{items}
use Rattle.request.specs.Answers.{Outcome, plan, refused}
use Rattle.plan_def.specs.Plans.{Plan}
use Rattle.plan_def.specs.Outputs.{Rooms}
use Rattle.plan_bounds.specs.Widths.{edit_fits}
use Rattle.plan_bounds.proofs.Fitting.{punch_fits, fallocate_fits, clone_fits}
use Rattle.plan_bounds.specs.Ample.{most_records, most_places, enough, Ample}
use Rattle.plan_bounds.proofs.Suffices.{punch-same, punch_never, fallocate-same, fallocate_never, clone-same, clone_never}
use Rattle.read_order.specs.Taking.{Numbers}
use Rattle.extplan_operate.specs.Operations.{range_of, clone_range_of, operation}

module _ (r : Numbers) (list shared source table places : List ℕ) where
  -- what holds of the outcomes of all three holds of the one that is asked for
  asked : (P : Outcome Plan → Type 0) (x y z : Outcome Plan) → P x → P y → P z → P (cond (eqb r.asked.kind 8) x (cond (eqb r.asked.kind 7) y z))
  asked P x y z p q t = go (eqb r.asked.kind 8) (eqb r.asked.kind 7)
    where
      go : (a b : Bool) → P (cond a x (cond b y z))
      go true b = p
      go false true = q
      go false false = t

  module _ (rooms : Rooms) (a : Ample rooms) (few : length (items list) ≤ most_records) (more : length (items source) ≤ most_records) (short : length places ≤ most_places) where
    pub operation-same : operation r list shared source table places rooms ≡ operation r list shared source table places enough
    unfolding operation
    operation-same =
        ap₂ (λ (x y : Outcome Plan). cond (eqb r.asked.kind 8) x y)
        (clone-same rooms a r.volume r.file r.second r.own (clone_range_of r.asked) list shared source table few more)
        (ap₂ (λ (x y : Outcome Plan). cond (eqb r.asked.kind 7) x y)
        (fallocate-same rooms a r.volume r.file (range_of r.asked) list shared table places few short r.asked.keep)
        (punch-same rooms a r.volume r.file (range_of r.asked) list shared table places few short))

    pub operation_never : operation r list shared source table places rooms ≡ refused 27 → ⊥
    unfolding operation
    operation_never =
        asked (λ (o : Outcome Plan). o ≡ refused 27 → ⊥) _ _ _
        (clone_never rooms a r.volume r.file r.second r.own (clone_range_of r.asked) list shared source table few more)
        (fallocate_never rooms a r.volume r.file (range_of r.asked) list shared table places few short r.asked.keep)
        (punch_never rooms a r.volume r.file (range_of r.asked) list shared table places few short)

  pub operation_fits : (rooms : Rooms) (p : Plan) → r.volume.generation < 2 ^ 64 → r.file.number < 2 ^ 64 → Bytes list → Bytes source → operation r list shared source table places rooms ≡ plan p → every edit_fits p.edits ≡ true
  unfolding operation
  operation_fits rooms p generation file bytes more =
      asked (λ (o : Outcome Plan). o ≡ plan p → every edit_fits p.edits ≡ true) _ _ _
      (clone_fits r.volume r.file r.second r.own (clone_range_of r.asked) list shared source table rooms p file bytes more)
      (fallocate_fits r.volume r.file (range_of r.asked) list shared table places rooms p generation file bytes r.asked.keep)
      (punch_fits r.volume r.file (range_of r.asked) list shared table places rooms p generation file bytes)
