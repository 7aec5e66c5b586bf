-- A clone's plan in its outputs, and the whole. Assumes nothing.
use mathlib.Core.Path.{◌≡◌, ap, ◌∙◌, sym}
use mathlib.Core.Bool.{Bool, true}
use mathlib.Core.List.{List}
use Prim.Native.Nat.{ℕ}
use native.Mathlib.Omega.{arith}
use Rattle.std.specs.Prelude.{Option, Some, None, Result, Ok, Err}
use Rattle.records.specs.declared.refusal.Refusal.{Refusal}
use Rattle.records.specs.Refusals.{number}
use Rattle.records.specs.Stages.{unless}
use Rattle.records.proofs.Refusals.{number-some}
use Rattle.records.proofs.Tests.{unless-zero}
use Rattle.request.specs.declared.File.{File}
use Rattle.request.specs.declared.Lent.{Lent}
use Rattle.request.specs.declared.Numbers.{Numbers}
use Rattle.request.specs.Answers.{Outcome, plan, nothing, refused}
use Rattle.plan_def.specs.Plans.{Plan, numbers, refused_or}
use Rattle.plan_def.specs.Outputs.{Outs, rooms_of, room_for, MetWith, add_numbers}
use Rattle.plan_lines.proofs.Laws.{lay_nil}
use Rattle.change_lay.specs.declared.Counts.{Counts}
use Rattle.change_lay.specs.Laid.{PlanLaid}
use Rattle.change_lay.proofs.Outputs.{outputs-laid, met-refused, met-nothing}
use Rattle.clone_lay.specs.declared.ground.CloneGround.{CloneGround}
use Rattle.clone_lay.specs.Lent.{number_in, plan_in}
use Rattle.clone_span.specs.declared.CloneRange.{CloneRange}
use Rattle.clone_def.specs.Clone.{with_room, clone_lent}
use Rattle.clone.specs.declared.asked.Asked.{Asked}
use Rattle.clone.specs.Raw.{AskedOf, draft}
use Rattle.clone.proofs.Operating.{asked_draft, or_none, or_some}

module _ (g : CloneGround) (before : Outs) where
  abbrev p : Plan
  p = plan_in g

  abbrev short : ℕ
  short = unless (room_for (rooms_of before) p) 27

  pub finish_refused : (r : Refusal) → number r ≡ short → MetWith (number_in g) (with_room (rooms_of before) (plan p)) (Err r) before before
  finish_refused r e = met-refused (number_in g) r _ before (ap (λ (w : ℕ). refused_or w (plan p)) (sym e) ∙ or_some (number r) (plan p) (number-some r))

  pub finish_planned :
      (n : Numbers) (c : Counts) (after : Outs) → n ≡ numbers p → 0 ≡ short → PlanLaid (number_in g) p p.edits c before after
      → MetWith (number_in g) (with_room (rooms_of before) (plan p)) (Ok (Some n)) before after
  finish_planned n c after same z l =
      let fits : room_for (rooms_of before) p ≡ true = unless-zero (room_for (rooms_of before) p) 27 (sym z) (λ e. omega arith) in
      rw (or_none short (plan p) (sym z))
      (record {
        answer = ap plan same;
        outputs =
            outputs-laid (number_in g) p before after fits l.edits.edits.output l.refs.shares.output l.refs.unrefs.output l.refs.releases.output
            (l.adds ∙ sym (lay_nil add_numbers 3 0 before.adds)) l.writes.output;
      })

module _ (l : Lent) (src : File) (own : Bool) (source : List ℕ) (s : CloneRange) (a : Asked) (h : AskedOf l src own source s a) (before : Outs) where
  abbrev whole : Outcome Plan
  whole = clone_lent l.volume l.file src own s l.list.now l.shared.now source l.table.now (rooms_of before)

  whole_is : whole ≡ with_room (rooms_of before) (draft a)
  whole_is = ap (with_room (rooms_of before)) (asked_draft l src own source s a h)

  pub range_refused : (r : Refusal) → refused (number r) ≡ draft a → MetWith l.file.number whole (Err r) before before
  range_refused r e = met-refused l.file.number r whole before (whole_is ∙ ap (with_room (rooms_of before)) (sym e))

  pub range_nothing : nothing ≡ draft a → MetWith l.file.number whole (Ok None) before before
  range_nothing e = met-nothing l.file.number whole before (whole_is ∙ ap (with_room (rooms_of before)) (sym e))

  pub range_planned :
      (g : CloneGround) → (number_in g ≡ a.lent.file.number) × (plan (plan_in g) ≡ draft a) → (r : Result (Option Numbers) Refusal) (after : Outs)
      → MetWith (number_in g) (with_room (rooms_of before) (plan (plan_in g))) r before after → MetWith l.file.number whole r before after
  range_planned g e r after m = rw (whole_is, ← e.1, ap (λ (x : Lent). x.file.number) (sym h.lent), ← e.0) m
