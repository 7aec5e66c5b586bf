-- From the refusals of a fallocate to its answer. Assumes nothing.
use mathlib.Core.Path.{◌≡◌, refl, ap, ap₂, ◌∙◌, sym, subst}
use mathlib.Core.Bool.{Bool}
use mathlib.Core.List.{List}
use Prim.Native.Nat.{ℕ, ◌+◌}
use lib.Dec.{leb}
use Rattle.std.specs.Prelude.{Option, Result, Err}
use Rattle.records.specs.declared.refusal.Refusal.{Refusal}
use Rattle.records.specs.Refusals.{number}
use Rattle.records.proofs.Refusals.{number-some}
use Rattle.records.specs.Stages.{unless, first, first_of, stage}
use Rattle.records.proofs.Tests.{first_assoc, first_last, first_go, first_stop}
use Rattle.item.specs.Items.{Fields, items}
use Rattle.table.specs.Rows.{rows}
use Rattle.request.specs.declared.Range.{Range}
use Rattle.request.specs.declared.Lent.{Lent}
use Rattle.request.specs.declared.Numbers.{Numbers}
use Rattle.request.specs.Lent.{list_broken, table_broken}
use Rattle.request.specs.Answers.{Outcome, refused}
use Rattle.request.proofs.Stages.{sector-some}
use Rattle.ref_def.proofs.Drops.{leaves-items}
use Rattle.plan_def.specs.Plans.{Plan, refused_or}
use Rattle.plan_def.specs.Outputs.{Outs, rooms_of, MetWith}
use Rattle.plan_def.proofs.Outcomes.{two-refused}
use Rattle.change_def.specs.declared.RangeChange.{RangeChange}
use Rattle.change_def.specs.declared.Fill.{Fill}
use Rattle.change_def.specs.Rounding.{round_down, round_up}
use Rattle.change_def.specs.Preallocs.{piece_limit, sum_of}
use Rattle.change_def.specs.Rewrites.{ground_of}
use Rattle.change_def.specs.Changes.{Change, changed}
use Rattle.change_def.specs.Sweep.{filled_of}
use Rattle.change_def.proofs.Fair.{Fair}
use Rattle.change_ground.specs.Lent.{ground, items_in}
use Rattle.change_lay.proofs.Outputs.{met-refused}
use Rattle.punch_def.specs.Punch.{range_refusal}
use Rattle.punch.specs.declared.range.FileRange.{FileRange}
use Rattle.punch.specs.Passing.{range_in, Passing}
use Rattle.punch.proofs.Operating.{refuses, passes}
use Rattle.fallocate_def.specs.Fallocate.{item_refusal, holes_to_allocate, fallocate_change, fallocate_refusal, fallocate, fallocate_lent}
use Rattle.fallocate_def.proofs.Fair.{fair}
use Rattle.fallocate.specs.Raw.{end_change, fill_of, stages}
use Rattle.fallocate.proofs.Asking.{filled_is}

-- ---- the change of a range that passed

module _ (keep : Bool) (x : FileRange) where
  abbrev asked : Change
  asked = fallocate_change keep (items_in x.ground) x.ground.file.size x.ground.volume.sector x.start x.stop

  module _ (c : RangeChange) (w : Fill) (pc : c ≡ end_change x.ground.file.size x.ground.volume.sector x.stop) (pw : w ≡ fill_of keep x.ground.file.size x.ground.volume.sector x.start x.stop) where
    -- the structs of the code are the change that the definition asks for
    pub filled : filled_of c w (items_in x.ground) ≡ asked
    filled =
        ap₂ (λ (c : RangeChange) (w : Fill). filled_of c w (items_in x.ground)) pc pw
        ∙ filled_is keep x.ground.file.size x.ground.volume.sector x.start x.stop (sector-some x.ground.volume.sector x.ground.sound.sector) x.some (items_in x.ground) x.ground.leaves.list.runs

    -- it is fair
    pub fair-now : Fair (ground x.ground) (filled_of c w (items_in x.ground))
    fair-now =
        rw filled
        (subst (λ (l : List Fields). Fair (ground x.ground) (fallocate_change keep l x.ground.file.size x.ground.volume.sector x.start x.stop))
        (leaves-items (items_in x.ground) x.ground.leaves.shared.now x.ground.leaves.one_each)
        (fair keep (ground x.ground) x.ground.file.size x.start x.stop x.ground.sound x.size_limit x.limit x.some))

-- ---- the answer

module _ (l : Lent) (r : Range) (keep : Bool) (places : List ℕ) (before : Outs) where
  abbrev whole : Outcome Plan
  whole = fallocate_lent l.volume l.file r keep l.list.now l.shared.now l.table.now places (rooms_of before)

  abbrev broken : ℕ
  broken = first (list_broken l.list.now) (table_broken l.table.now)

  abbrev all : ℕ
  all = first broken (fallocate_refusal l.volume l.file r (items l.list.now) l.shared.now (rows l.table.now))

  abbrev rest : Outcome Plan
  rest =
      changed (ground_of l.volume l.file (items l.list.now) l.shared.now (rows l.table.now))
      (fallocate_change keep (items l.list.now) l.file.size l.volume.sector r.offset (r.offset + r.length)) piece_limit places (rooms_of before)

  in_all : whole ≡ refused_or all rest
  unfolding fallocate
  in_all = two-refused broken (fallocate_refusal l.volume l.file r (items l.list.now) l.shared.now (rows l.table.now)) rest

  -- the refusals as the code takes them
  abbrev tail : ℕ
  tail =
      first
      (stage (item_refusal l.file.size (round_down l.volume.sector r.offset) (round_up l.volume.sector (r.offset + r.length))) (items l.list.now))
      (unless (leb (sum_of (holes_to_allocate l.file.size l.volume.sector r.offset (r.offset + r.length) (items l.list.now))) l.volume.total) 12)

  in_turn : all ≡ first (range_in l r) tail
  unfolding fallocate_refusal first_of
  in_turn = rw first_last (sym (first_assoc broken (range_refusal l.volume l.file r (items l.list.now) l.shared.now (rows l.table.now)) _))

  pub range-refused : (e : Refusal) → number e ≡ range_in l r → MetWith l.file.number whole (Err e) before before
  range-refused e n =
      met-refused l.file.number e whole before
      (in_all ∙ ap (λ (k : ℕ). refused_or k rest) (in_turn ∙ rw (← n) (sym (first_stop (number e) tail (number-some e)))) ∙ refuses (number e) rest (number-some e))

  module _ (x : FileRange) (q : Passing l r x) where
    staged : all ≡ stages x
    staged = in_turn ∙ first_go (range_in l r) tail q.passes ∙ sym (rw (q.volume, q.file, q.list, q.start, q.stop) refl)

    abbrev change_at : Outcome Plan
    change_at = changed (ground x.ground) (asked keep x) piece_limit places (rooms_of before)

    whole_is : whole ≡ refused_or (stages x) change_at
    whole_is = in_all ∙ ap (λ (k : ℕ). refused_or k rest) staged ∙ ap (refused_or (stages x)) (sym (rw (q.volume, q.file, q.list, q.shared, q.table, q.start, q.stop) refl))

    pub stages-refused : (e : Refusal) → number e ≡ stages x → MetWith l.file.number whole (Err e) before before
    stages-refused e n = met-refused l.file.number e whole before (whole_is ∙ rw (← n) (refuses (number e) change_at (number-some e)))

    pub fallocate-changed :
        0 ≡ stages x
        → (c : RangeChange) (w : Fill) → c ≡ end_change x.ground.file.size x.ground.volume.sector x.stop → w ≡ fill_of keep x.ground.file.size x.ground.volume.sector x.start x.stop
        → (a : Result (Option Numbers) Refusal) (after : Outs)
        → MetWith x.ground.file.number (changed (ground x.ground) (filled_of c w (items_in x.ground)) piece_limit places (rooms_of before)) a before after
        → MetWith l.file.number whole a before after
    fallocate-changed z c w pc pw a after m = rw (whole_is ∙ passes (stages x) change_at (sym z), ← filled keep x c w pc pw, ← q.file) m
