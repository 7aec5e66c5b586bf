-- From the stages of a punch to its answer. Assumes nothing.
use mathlib.Core.Path.{◌≡◌, refl, ap, ◌∙◌, sym}
use mathlib.Core.List.{List}
use mathlib.Core.Option.{none, some}
use Prim.Native.Nat.{ℕ, zero, suc, ◌+◌}
use native.Mathlib.Omega.{arith}
use Rattle.std.specs.Prelude.{Option, None, Result, Ok, Err}
use Rattle.records.specs.declared.refusal.Refusal.{Refusal}
use Rattle.records.specs.Refusals.{number}
use Rattle.records.proofs.Refusals.{number-some}
use Rattle.records.specs.Stages.{first}
use Rattle.item.specs.Items.{items}
use Rattle.table.specs.Rows.{rows}
use Rattle.request.specs.declared.Range.{Range}
use Rattle.request.specs.declared.Lent.{Lent}
use Rattle.request.specs.declared.Numbers.{Numbers}
use Rattle.request.specs.Lent.{list_broken, table_broken}
use Rattle.request.specs.Answers.{Outcome, refused}
use Rattle.ref_def.proofs.Drops.{leaves-items}
use Rattle.plan_def.specs.Plans.{Plan, refused_or, or_nothing}
use Rattle.plan_def.specs.Outputs.{Outs, Rooms, rooms_of, MetWith}
use Rattle.plan_def.proofs.Outcomes.{two-refused}
use Rattle.change_def.specs.declared.RangeChange.{RangeChange}
use Rattle.change_def.specs.declared.Fill.{Fill}
use Rattle.change_def.specs.Preallocs.{Stretch, piece_limit}
use Rattle.change_def.specs.Rewrites.{ground_of}
use Rattle.change_def.specs.Changes.{Change, changed}
use Rattle.change_def.specs.Raw.{change_of}
use Rattle.change_def.specs.Sweep.{filled_of}
use Rattle.change_def.proofs.Fair.{Fair}
use Rattle.change_def.proofs.Sweep.{punch_swept}
use Rattle.change_ground.specs.Lent.{ground, items_in}
use Rattle.change_lay.proofs.Outputs.{met-refused, met-nothing}
use Rattle.punch_def.specs.Punch.{plan_punch, range_refusal, punch, punch_lent}
use Rattle.punch_def.proofs.Fair.{asked, fair}
use Rattle.punch.specs.declared.range.FileRange.{FileRange}
use Rattle.punch.specs.Raw.{punch_plan_said}
use Rattle.punch.specs.Passing.{range_in, Passing}

-- a refusal, and what follows if there is none
pub refuses : (x : ℕ) (o : Outcome Plan) → (x ≡ 0 → ⊥) → refused_or x o ≡ refused x
unfolding refused_or
refuses zero o z = absurd (z refl)
refuses (suc x) o z = refl

pub passes : (x : ℕ) (o : Outcome Plan) → x ≡ 0 → refused_or x o ≡ o
unfolding refused_or
passes zero o z = refl
passes (suc x) o z = absurd (omega (arith, z))

-- ---- the change of a range that passed

module _ (x : FileRange) (c : RangeChange) (w : Fill) (pw : w ≡ record { from = 0; to = 0; size = x.ground.file.size }) where
  -- it fills no hole
  no-holes : filled_of c w (items_in x.ground) ≡ change_of c x.ground.file.size
  no-holes = rw pw (ap (λ (hs : List Stretch). record { lo = c.lo; hi = c.hi; rewrites = (change_of c x.ground.file.size).rewrites; holes = hs; size = x.ground.file.size }) (punch_swept c.lo c.hi (items_in x.ground)))

  module _ (e : some (change_of c x.ground.file.size) ≡ plan_punch (items_in x.ground) x.ground.file.size x.ground.volume.sector x.start x.stop) where
    -- and is fair
    pub fair-now : Fair (ground x.ground) (filled_of c w (items_in x.ground))
    fair-now =
        rw no-holes
        (fair (ground x.ground) (items_in x.ground) (leaves-items (items_in x.ground) x.ground.leaves.shared.now x.ground.leaves.one_each) x.ground.sound x.ground.file.size x.start x.stop (change_of c x.ground.file.size)
        (asked (items_in x.ground) x.ground.file.size x.ground.volume.sector x.start x.stop (change_of c x.ground.file.size) (sym e)) x.limit)

-- ---- the answer

module _ (l : Lent) (r : Range) (places : List ℕ) (before : Outs) where
  abbrev whole : Outcome Plan
  whole = punch_lent l.volume l.file r l.list.now l.shared.now l.table.now places (rooms_of before)

  abbrev rest : Outcome Plan
  rest =
      or_nothing (plan_punch (items l.list.now) l.file.size l.volume.sector r.offset (r.offset + r.length))
      (λ (c : Change). changed (ground_of l.volume l.file (items l.list.now) l.shared.now (rows l.table.now)) c piece_limit places (rooms_of before))

  stages : whole ≡ refused_or (range_in l r) rest
  unfolding punch
  stages = two-refused (first (list_broken l.list.now) (table_broken l.table.now)) (range_refusal l.volume l.file r (items l.list.now) l.shared.now (rows l.table.now)) rest

  pub punch-refused : (e : Refusal) → number e ≡ range_in l r → MetWith l.file.number whole (Err e) before before
  punch-refused e n = met-refused l.file.number e whole before (stages ∙ rw (← n) (refuses (number e) rest (number-some e)))

  module _ (x : FileRange) (q : Passing l r x) where
    abbrev at : Option RangeChange → Outcome Plan
    at o = or_nothing (punch_plan_said o x.ground.file.size) (λ (c : Change). changed (ground x.ground) c piece_limit places (rooms_of before))

    -- the same by the range that passed
    module _ (o : Option RangeChange) (e : punch_plan_said o x.ground.file.size ≡ plan_punch (items_in x.ground) x.ground.file.size x.ground.volume.sector x.start x.stop) where
      passed : whole ≡ at o
      passed = stages ∙ passes (range_in l r) rest q.passes ∙ rw (e, q.volume, q.file, q.list, q.shared, q.table, q.start, q.stop) refl

    pub punch-nothing : none ≡ plan_punch (items_in x.ground) x.ground.file.size x.ground.volume.sector x.start x.stop → MetWith l.file.number whole (Ok None) before before
    punch-nothing e = met-nothing l.file.number whole before (passed None e)

    pub punch-changed :
        (c : RangeChange) (w : Fill) → w ≡ record { from = 0; to = 0; size = x.ground.file.size }
        → some (change_of c x.ground.file.size) ≡ plan_punch (items_in x.ground) x.ground.file.size x.ground.volume.sector x.start x.stop
        → (a : Result (Option Numbers) Refusal) (after : Outs)
        → MetWith x.ground.file.number (changed (ground x.ground) (filled_of c w (items_in x.ground)) piece_limit places (rooms_of before)) a before after
        → MetWith l.file.number whole a before after
    punch-changed c w pw e a after m = rw (passed (Rattle.std.specs.Prelude.Some c) e, ← no-holes x c w pw, ← q.file) m
