-- For the code only: the stages of a clone as the private functions group them, and what passes each.
use Rattle.std.specs.Prelude.{Option, Some, None, Result, Ok, Err, ◌≡◌, Bool, cond, List, ℕ, ◌+◌, ◌-◌, ◌<◌, ◌^◌, max, eqb}
use Rattle.records.specs.declared.refusal.Refusal.{Refusal}
use Rattle.records.specs.Refusals.{number}
use Rattle.records.specs.Stages.{whenever, first, stage}
use Rattle.item.specs.Items.{Fields, items}
use Rattle.table.specs.declared.Row.{Row}
use Rattle.table.specs.Rows.{rows, one_more_reference}
use Rattle.request.specs.declared.File.{File}
use Rattle.request.specs.declared.Lent.{Lent}
use Rattle.request.specs.Answers.{Outcome, plan, nothing, refused}
use Rattle.request.specs.Call.{lent2_in}
use Rattle.cut_def.specs.Refs.{Ref}
use Rattle.ref_def.specs.Drops.{drops_refusal}
use Rattle.plan_def.specs.Plans.{Plan, refused_or}
use Rattle.clone_items.specs.declared.Copying.{Copying}
use Rattle.clone_items.specs.Copies.{source_record}
use Rattle.clone_items.specs.Replacing.{clone_drops, clone_splits, plan_for}
use Rattle.clone_lay.specs.declared.ground.CloneGround.{CloneGround}
use Rattle.clone_lay.specs.Lent.{number_in, plan_in}
use Rattle.clone_span.specs.declared.CloneRange.{CloneRange}
use Rattle.clone_span.specs.declared.CloneSpan.{CloneSpan}
use Rattle.clone_span.specs.Spans.{resolved, span_of, source_refusal, destination_refusal, destination_record, growth_refusal}
use Rattle.clone_def.specs.Clone.{chosen}
use Rattle.clone.specs.declared.asked.Asked.{Asked}
use Rattle.clone.specs.declared.asked.Parts.{Parts}

-- a range with the length that is meant
abbrev pub meant : ℕ → CloneRange → CloneRange
meant size s = record { from = s.from; to = s.to; length = resolved size s.from s.length }

-- drops, splits, the source's records, 13, of what is copied and a destination
abbrev pub copies_in : Parts → (generation : ℕ) → (source : List Fields) → ℕ
copies_in p generation source =
    let c = p.copying.range in
    let fs = items p.leaves.list.records.now in
    let rs = rows p.table.numbers.now in
    first (drops_refusal rs (clone_drops c fs p.leaves.shared.now))
    (first (stage (λ (r : Ref). one_more_reference r.start rs) (clone_splits c fs))
    (first (stage (source_record rs c) source) (whenever (eqb generation (2 ^ 64 - 1)) 13)))

-- a clone with its source chosen
pub record AskedOf (l : Lent) (src : File) (itself : Bool) (list : List ℕ) (s : CloneRange) (a : Asked) : Type 0 where
  pub lent : a.lent ≡ l
  pub own : a.own ≡ itself
  pub file : a.file ≡ chosen itself l.file src
  pub source : a.source.now ≡ chosen itself l.list.now list
  pub range : a.range ≡ meant (chosen itself l.file src).size s

module _ (a : Asked) where
  abbrev pub before : List Fields
  before = items a.lent.list.now

  abbrev pub its : List Fields
  its = items a.source.now

  abbrev pub table_rows : List Row
  table_rows = rows a.lent.table.now

  -- what is copied
  abbrev pub copying_of : Copying
  copying_of = record { number = a.lent.file.number; from = a.range.from; to = a.range.to; span = span_of a.lent.volume.sector a.range.from a.range.length }

  abbrev pub plan_of : Plan
  plan_of = plan_for copying_of before a.lent.shared.now its table_rows (max a.lent.file.size (a.range.to + a.range.length))

  -- 1 to 4, and 19 to 22
  abbrev pub lent_asked : ℕ
  lent_asked = first (lent2_in a.lent a.file a.own a.source.now) (source_refusal a.lent.volume.sector a.file.size a.range.from a.range.to a.range.length)

  -- 6, 23, 24, the destination's records, 25
  abbrev pub destination_asked : ℕ
  destination_asked =
      first (destination_refusal a.lent.volume.sector a.own a.lent.file.size a.range.from a.range.to a.range.length)
      (first (stage destination_record before) (growth_refusal a.lent.volume.sector a.lent.file.size a.range.to a.range.length before))

  -- drops, splits, the source's records, 13
  abbrev pub copies_asked : ℕ
  copies_asked =
      first (drops_refusal table_rows (clone_drops copying_of before a.lent.shared.now))
      (first (stage (λ (r : Ref). one_more_reference r.start table_rows) (clone_splits copying_of before))
      (first (stage (source_record table_rows copying_of) its) (whenever (eqb a.lent.volume.generation (2 ^ 64 - 1)) 13)))

  -- all of them, and the plan
  abbrev pub draft : Outcome Plan
  draft = refused_or lent_asked (cond (eqb a.range.length 0) nothing (refused_or (first destination_asked copies_asked) (plan plan_of)))

  -- ---- what passes

  pub record SpanOf (x : CloneSpan) : Type 0 where
    pub passes : lent_asked ≡ 0
    pub sector : x.sector.bytes ≡ a.lent.volume.sector
    pub range : x.range ≡ a.range

  pub record PartsOf (x : Parts) : Type 0 where
    pub some : 0 < a.range.length
    pub lent : lent_asked ≡ 0
    pub passes : destination_asked ≡ 0
    pub range : x.copying.range ≡ copying_of
    pub list : x.leaves.list.records ≡ a.lent.list
    pub shared : x.leaves.shared ≡ a.lent.shared
    pub table : x.table.numbers ≡ a.lent.table

  pub record GroundOf (x : CloneGround) : Type 0 where
    pub passes : copies_asked ≡ 0
    pub number : number_in x ≡ a.lent.file.number
    pub plan : plan_in x ≡ plan_of

  -- a draft: what a plan goes by, nothing, or one refusal
  abbrev pub Drafted : Result (Option CloneGround) Refusal → Type 0
  Drafted (Ok (Some g)) = (number_in g ≡ a.lent.file.number) × (plan (plan_in g) ≡ draft)
  Drafted (Ok None) = nothing ≡ draft
  Drafted (Err r) = refused (number r) ≡ draft

-- what passes a stage, or the stage's refusal
abbrev pub Given : {A : Type 0} → (stage : ℕ) → (A → Type 0) → Result A Refusal → Type 0
Given stage P (Ok x) = P x
Given stage P (Err r) = number r ≡ stage
