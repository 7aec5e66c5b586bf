-- Every plan of a punch is lawful. Assumes nothing.
use mathlib.Core.Path.{◌≡◌, refl}
use mathlib.Core.List.{List}
use Prim.Native.Nat.{ℕ, ◌+◌}
use native.Mathlib.Omega.{arith}
use native.Mathlib.Decide.{dec_lt}
use Rattle.item.specs.Items.{Fields}
use Rattle.request.specs.declared.Range.{Range}
use Rattle.request.specs.Answers.{plan}
use Rattle.cut_def.specs.Mappings.{mapping}
use Rattle.plan_def.specs.Plans.{Plan}
use Rattle.change_def.specs.Rounding.{round_down}
use Rattle.punch_def.proofs.Planned.{Planned, planned}
use Rattle.punch_def.proofs.Fair.{planned-fair}
use Rattle.punch_def.proofs.Shown.{punched-shown}
use Rattle.apply_def.proofs.Refusals.{Fit}
use Rattle.history_theorem.specs.States.{State, list_of}
use Rattle.history_theorem.specs.Calls.{Lent, punching, volume_of, file_of, answer_of, changes}
use Rattle.history_theorem.specs.Claims.{Outside}
use Rattle.history_theorem.proofs.Lawful.{Lawful}
use Rattle.history_theorem.proofs.Changing.{Changed, after, lawful, fit}

module _ (sector : ℕ) (s : State) (l : Lent) (places : List ℕ) (r : Range) (p : Plan) (e : answer_of sector s (punching l places r) ≡ plan p) where
  abbrev fs : List Fields
  fs = list_of l.number s.files

  h : Planned (volume_of sector l) (file_of l) fs l.shared s.rows r places p
  unfolding answer_of
  h = planned (volume_of sector l) (file_of l) fs l.shared s.rows r places l.rooms p e

  abbrev changed : Changed sector s l places
  changed =
      record {
        change = h.change;
        lent = h.lent;
        fair = planned-fair (volume_of sector l) (file_of l) fs l.shared s.rows r places p h;
        unrefused = h.unrefused;
        placed = h.placed;
      }

  -- outside the range rounded out nothing changes
  shows : (o : ℕ) → Outside o (changes sector (punching l places r)) → mapping o (after sector s l places changed) ≡ mapping o fs
  shows o out =
      let a = punched-shown (volume_of sector l) (file_of l) fs l.shared s.rows r places p h in
      elim (dec_lt o (round_down sector r.offset)) [
        | yes b ↦ a.below o b
        | no b ↦ a.above o (let n = out.0 (omega arith) in omega arith)
      ]

  pub lawful_punch : Lawful sector s (punching l places r) p
  lawful_punch = rw h.made (lawful sector s l places changed (punching l places r) refl shows)

  pub fit_punch : Fit sector l.number (l.generation + 1) fs s.rows p
  fit_punch = rw h.made (fit sector s l places changed)
