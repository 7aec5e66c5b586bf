-- The stages of a clone, as the code groups them, and what it is where they pass. Assumes nothing.
use mathlib.Core.Path.{◌≡◌, refl, ap, ◌∙◌, sym}
use mathlib.Core.Bool.{Bool, true, false, cond}
use mathlib.Core.List.{List, [], ◌∷◌}
use Prim.Native.Nat.{ℕ, zero, suc, ◌+◌, ◌-◌, ◌<◌, ◌^◌, max}
use native.Mathlib.Omega.{arith}
use lib.Dec.{eqb}
use borrow.Author.Tests.{eq-eqb, ne_eqb}
use Rattle.plan_def.proofs.Outcomes.{two-refused}
use Rattle.records.specs.declared.refusal.Refusal.{Refusal}
use Rattle.records.specs.Refusals.{number}
use Rattle.records.proofs.Refusals.{number-some}
use Rattle.records.specs.Stages.{whenever, first, first_of, stage}
use Rattle.records.proofs.Tests.{first_last, first_assoc}
use Rattle.item.specs.Items.{items}
use Rattle.table.specs.Rows.{rows, one_more_reference}
use Rattle.request.specs.declared.Volume.{Volume}
use Rattle.request.specs.declared.File.{File}
use Rattle.request.specs.declared.Lent.{Lent}
use Rattle.request.specs.Lent.{lent_refusal2, lent2, list_broken, table_broken}
use Rattle.request.specs.Answers.{Outcome, plan, nothing, refused}
use Rattle.cut_def.specs.Refs.{Ref}
use Rattle.ref_def.specs.Drops.{drops_refusal}
use Rattle.plan_def.specs.Plans.{Plan, refused_or}
use Rattle.clone_items.specs.declared.Copying.{Copying}
use Rattle.clone_items.specs.Copies.{source_record}
use Rattle.clone_items.specs.Replacing.{clone_drops, clone_splits, plan_for}
use Rattle.clone_span.specs.declared.CloneRange.{CloneRange}
use Rattle.clone_span.specs.Spans.{span_of, source_refusal, destination_refusal, destination_record, growth_refusal}
use Rattle.clone_def.specs.Clone.{chosen, lent_and_source, clone_refusal, drafted, drafted_lent}
use Rattle.clone.specs.declared.asked.Asked.{Asked}
use Rattle.clone.specs.Raw.{meant, AskedOf, plan_of, lent_asked, destination_asked, copies_asked, draft}

-- ---- refusals one behind the other

two_groups : (b l x : ℕ) (o : Outcome Plan) → refused_or b (refused_or (first_of (l ∷ x ∷ [])) o) ≡ refused_or (first (first b l) x) o
unfolding first_of
two_groups b l x o = two-refused b (first l (first x 0)) o ∙ ap (λ (n : ℕ). refused_or n o) (rw (first_last, first_assoc) refl)

seven_groups : (a b c d e f g : ℕ) → first_of (a ∷ b ∷ c ∷ d ∷ e ∷ f ∷ g ∷ []) ≡ first (first a (first b c)) (first d (first e (first f g)))
unfolding first_of
seven_groups a b c d e f g = rw first_last (sym (first_assoc a (first b c) (first d (first e (first f g))) ∙ ap (first a) (first_assoc b c (first d (first e (first f g))))))

pub or_none : (a : ℕ) (o : Outcome Plan) → a ≡ 0 → refused_or a o ≡ o
unfolding refused_or
or_none a o z = rw z refl

pub or_some : (a : ℕ) (o : Outcome Plan) → (a ≡ 0 → ⊥) → refused_or a o ≡ refused a
unfolding refused_or
or_some zero o z = absurd (z refl)
or_some (suc a) o z = refl

-- ---- the definition, by the source that was chosen

module _ (v : Volume) (dst : File) (own : Bool) (s : CloneRange) (list shared table : List ℕ) (f : File) (bytes : List ℕ) where
  abbrev m : CloneRange
  m = meant f.size s

  abbrev c : Copying
  c = record { number = dst.number; from = s.from; to = s.to; span = span_of v.sector s.from m.length }

  abbrev whole : Outcome Plan
  whole = plan (plan_for c (items list) shared (items bytes) (rows table) (max dst.size (s.to + m.length)))

  abbrev stages : ℕ
  stages =
      first_of
      (destination_refusal v.sector own dst.size s.from s.to m.length
      ∷ stage destination_record (items list)
      ∷ growth_refusal v.sector dst.size s.to m.length (items list)
      ∷ drops_refusal (rows table) (clone_drops c (items list) shared)
      ∷ stage (λ (r : Ref). one_more_reference r.start (rows table)) (clone_splits c (items list))
      ∷ stage (source_record (rows table) c) (items bytes)
      ∷ whenever (eqb v.generation (2 ^ 64 - 1)) 13
      ∷ [])

  abbrev half : Outcome Plan
  half =
      refused_or (first (list_broken bytes) (first (list_broken list) (table_broken table)))
      (refused_or (first_of (lent_refusal2 v dst f own (items list) shared (items bytes) (rows table) ∷ source_refusal v.sector f.size s.from s.to m.length ∷ []))
      (cond (eqb m.length 0) nothing (refused_or stages whole)))

  -- stage by stage, as the code has them
  abbrev grouped : Outcome Plan
  grouped =
      refused_or (first (lent2 v dst f own list shared bytes table) (source_refusal v.sector f.size s.from s.to m.length))
      (cond (eqb m.length 0) nothing
      (refused_or
      (first
      (first (destination_refusal v.sector own dst.size s.from s.to m.length) (first (stage destination_record (items list)) (growth_refusal v.sector dst.size s.to m.length (items list))))
      (first (drops_refusal (rows table) (clone_drops c (items list) shared))
      (first (stage (λ (r : Ref). one_more_reference r.start (rows table)) (clone_splits c (items list)))
      (first (stage (source_record (rows table) c) (items bytes)) (whenever (eqb v.generation (2 ^ 64 - 1)) 13)))))
      whole))

  half_grouped : half ≡ grouped
  half_grouped =
      two_groups _ _ _ _
      ∙ ap (λ (n : ℕ). refused_or (first (lent2 v dst f own list shared bytes table) (source_refusal v.sector f.size s.from s.to m.length)) (cond (eqb m.length 0) nothing (refused_or n whole)))
      (seven_groups _ _ _ _ _ _ _)

shape : (v : Volume) (dst src : File) (own : Bool) (s : CloneRange) (list shared source table : List ℕ)
    → drafted_lent v dst src own s list shared source table ≡ grouped v dst own s list shared table (chosen own dst src) (chosen own list source)
unfolding drafted lent_and_source clone_refusal
shape v dst src true s list shared source table = half_grouped v dst true s list shared table dst list
shape v dst src false s list shared source table = half_grouped v dst false s list shared table src source

-- what is asked for is the definition's
pub asked_draft : (l : Lent) (src : File) (own : Bool) (source : List ℕ) (s : CloneRange) (a : Asked) → AskedOf l src own source s a
    → drafted_lent l.volume l.file src own s l.list.now l.shared.now source l.table.now ≡ draft a
asked_draft l src own source s a h = shape l.volume l.file src own s l.list.now l.shared.now source l.table.now ∙ rw (h.lent, h.own, h.file, h.source, h.range) refl

-- ---- what the code answers

module _ (a : Asked) where
  abbrev rest : Outcome Plan
  rest = refused_or (first (destination_asked a) (copies_asked a)) (plan (plan_of a))

  pub draft_lent : (r : Refusal) → number r ≡ lent_asked a → refused (number r) ≡ draft a
  draft_lent r e = rw (← e) (sym (or_some (number r) _ (number-some r)))

  module _ (z : lent_asked a ≡ 0) where
    pub draft_nothing : a.range.length ≡ 0 → nothing ≡ draft a
    draft_nothing h = sym (or_none (lent_asked a) _ z ∙ rw (eq-eqb a.range.length 0 h) refl)

    module _ (some : 0 < a.range.length) where
      behind : draft a ≡ rest
      behind = or_none (lent_asked a) _ z ∙ rw (ne_eqb a.range.length 0 (λ h. omega arith)) refl

      pub draft_destination : (r : Refusal) → number r ≡ destination_asked a → refused (number r) ≡ draft a
      draft_destination r e = sym (behind ∙ sym (two-refused (destination_asked a) (copies_asked a) (plan (plan_of a))) ∙ rw (← e) (or_some (number r) _ (number-some r)))

      module _ (w : destination_asked a ≡ 0) where
        pub draft_copies : (r : Refusal) → number r ≡ copies_asked a → refused (number r) ≡ draft a
        draft_copies r e = sym (behind ∙ sym (two-refused (destination_asked a) (copies_asked a) (plan (plan_of a))) ∙ or_none (destination_asked a) _ w ∙ rw (← e) (or_some (number r) _ (number-some r)))

        pub draft_plan : copies_asked a ≡ 0 → plan (plan_of a) ≡ draft a
        draft_plan y = sym (behind ∙ sym (two-refused (destination_asked a) (copies_asked a) (plan (plan_of a))) ∙ or_none (destination_asked a) _ w ∙ or_none (copies_asked a) _ y)
