-- Every plan of a fallocate is lawful. Assumes nothing.
use mathlib.Core.Path.{◌≡◌, refl}
use mathlib.Core.Bool.{Bool}
use mathlib.Core.List.{List}
use Prim.Native.Nat.{ℕ, ◌+◌}
use native.Mathlib.Omega.{arith}
use native.Mathlib.Decide.{dec_lt}
use Rattle.item.specs.Items.{Fields}
use Rattle.request.specs.declared.Range.{Range}
use Rattle.request.specs.Answers.{plan}
use Rattle.cut_def.specs.Mappings.{mapping}
use Rattle.plan_def.specs.Plans.{Plan}
use Rattle.change_def.specs.Rounding.{round_down}
use Rattle.fallocate_def.proofs.Planned.{Planned, planned, change}
use Rattle.fallocate_def.proofs.Fair.{planned-fair}
use Rattle.fallocate_def.proofs.Shown.{allocated-shown}
use Rattle.apply_def.proofs.Refusals.{Fit}
use Rattle.history_theorem.specs.States.{State, list_of}
use Rattle.history_theorem.specs.Calls.{Lent, fallocating, volume_of, file_of, answer_of, changes}
use Rattle.history_theorem.specs.Claims.{Outside}
use Rattle.history_theorem.proofs.Lawful.{Lawful}
use Rattle.history_theorem.proofs.Changing.{Changed, after, lawful, fit}

module _ (sector : ℕ) (s : State) (l : Lent) (places : List ℕ) (r : Range) (keepSize : Bool) (p : Plan) (e : answer_of sector s (fallocating l places r keepSize) ≡ plan p) where
  abbrev fs : List Fields
  fs = list_of l.number s.files

  h : Planned (volume_of sector l) (file_of l) r keepSize fs l.shared s.rows places p
  unfolding answer_of
  h = planned (volume_of sector l) (file_of l) r keepSize fs l.shared s.rows places l.rooms p e

  abbrev changed : Changed sector s l places
  changed =
      record {
        change = change (volume_of sector l) (file_of l) r keepSize fs l.shared s.rows;
        lent = h.lent;
        fair = planned-fair (volume_of sector l) (file_of l) r keepSize fs l.shared s.rows places p h;
        unrefused = h.changes;
        placed = h.placed;
      }

  -- outside the range and the old end's sector nothing changes
  shows : (o : ℕ) → Outside o (changes sector (fallocating l places r keepSize)) → mapping o (after sector s l places changed) ≡ mapping o fs
  shows o out =
      let a = allocated-shown (volume_of sector l) (file_of l) r keepSize fs l.shared s.rows places p h in
      elim (dec_lt o (round_down sector r.offset)) [
        | yes b ↦ a.below o b out.1.0
        | no b ↦ a.above o (let n = out.0 (omega arith) in omega arith) out.1.0
      ]

  pub lawful_fallocate : Lawful sector s (fallocating l places r keepSize) p
  lawful_fallocate = rw h.made (lawful sector s l places changed (fallocating l places r keepSize) refl shows)

  pub fit_fallocate : Fit sector l.number (l.generation + 1) fs s.rows p
  fit_fallocate = rw h.made (fit sector s l places changed)
