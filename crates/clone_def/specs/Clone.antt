-- A clone (document 01, "A clone"; `clone_range`, `clone_span` and `clone_item`, clone.rs).
use Rattle.std.specs.Prelude.{Bool, cond, List, [], ◌∷◌, ◌≡◌, ℕ, ◌+◌, ◌-◌, ◌≤◌, ◌<◌, ◌^◌, max, eqb, length}
use Rattle.std.proofs.Math.Option.{Option}
use Rattle.records.specs.Stages.{whenever, unless, first, first_of, stage}
use Rattle.item.specs.Items.{Fields, items}
use Rattle.table.specs.declared.Row.{Row}
use Rattle.table.specs.Rows.{rows, one_more_reference}
use Rattle.request.specs.declared.Volume.{Volume}
use Rattle.request.specs.declared.File.{File}
use Rattle.request.specs.Lent.{lent_refusal2, list_broken, table_broken}
use Rattle.request.specs.Answers.{Outcome, plan, nothing, refused}
use Rattle.cut_def.specs.Mappings.{Mapping}
use Rattle.cut_def.specs.Pieces.{Piece}
use Rattle.cut_def.specs.Refs.{Ref}
use Rattle.ref_def.specs.Drops.{InLeaf, drops_refusal}
use Rattle.plan_def.specs.Plans.{Plan, refused_or}
use Rattle.plan_def.specs.Outputs.{Rooms, room_for}
use Rattle.clone_span.specs.Spans.{resolved, span_of, source_refusal, destination_refusal, destination_record, growth_refusal}
use Rattle.clone_items.specs.declared.Copying.{Copying}
use Rattle.clone_items.specs.Copies.{source_record, clones}
use Rattle.clone_items.specs.Replacing.{clone_drops, clone_splits, pieces_now, plan_for}
use Rattle.clone_span.specs.declared.CloneRange.{CloneRange}

-- "For one file cloned into itself, the list read as source is the destination's list itself, before the cut": the
-- second of two, or the first
abbrev pub chosen : {A : Type 0} → Bool → A → A → A
chosen own dst src = cond own dst src

-- ---- the clone

-- 27, "an output is too short for the plan", comes last
abbrev pub with_room : Rooms → Outcome Plan → Outcome Plan
with_room rooms (plan p) = refused_or (unless (room_for rooms p) 27) (plan p)
with_room rooms nothing = nothing
with_room rooms (refused n) = refused n

module _ (v : Volume) (dst src : File) (own : Bool) (span : CloneRange) (before : List Fields) (shared : List ℕ) (source : List Fields) (rs : List Row) where
  -- the source: the destination itself for one file
  abbrev pub source_file : File
  source_file = chosen own dst src

  abbrev pub source_items : List Fields
  source_items = chosen own before source

  abbrev pub len : ℕ
  len = resolved source_file.size span.from span.length

  abbrev pub width : ℕ
  width = span_of v.sector span.from len

  -- what is copied
  abbrev pub copying : Copying
  copying = record { number = dst.number; from = span.from; to = span.to; span = width }

  abbrev pub drops : List InLeaf
  drops = clone_drops copying before shared

  abbrev pub split_refs : List Ref
  split_refs = clone_splits copying before

  abbrev pub cloned : List Fields
  cloned = clones copying source_items

  abbrev pub pieces_after : List Piece
  pieces_after = pieces_now copying before source_items

  abbrev pub plan_of : Plan
  plan_of = plan_for copying before shared source_items rs (max dst.size (span.to + len))

  -- up to where "An empty remainder is "nothing to do", after 22 and before 6."
  unfoldable pub lent_and_source : ℕ
  lent_and_source =
      first_of
      (lent_refusal2 v dst source_file own before shared source_items rs
      ∷ source_refusal v.sector source_file.size span.from span.to len
      ∷ [])

  -- "6 ..; 23 ..; 24 ..; destination records 7, 8; 25 ..; drops 14, 17; splits 14, 15; source records ..; 13; 27"
  unfoldable pub clone_refusal : ℕ
  clone_refusal =
      first_of
      (destination_refusal v.sector own dst.size span.from span.to len
      ∷ stage destination_record before
      ∷ growth_refusal v.sector dst.size span.to len before
      ∷ drops_refusal rs drops
      ∷ stage (λ (r : Ref). one_more_reference r.start rs) split_refs
      ∷ stage (source_record rs copying) source_items
      ∷ whenever (eqb v.generation (2 ^ 64 - 1)) 13
      ∷ [])

  -- the first half, where room suffices: a plan, nothing, or one refusal
  unfoldable pub drafted : Outcome Plan
  drafted = refused_or lent_and_source (cond (eqb len 0) nothing (refused_or clone_refusal (plan plan_of)))

  -- a clone, from all that is lent
  unfoldable pub clone : Rooms → Outcome Plan
  clone rooms = with_room rooms drafted

-- from the bytes and numbers that are lent
abbrev pub drafted_lent : Volume → (dst src : File) → Bool → CloneRange → (list shared source table : List ℕ) → Outcome Plan
drafted_lent v dst src own span list shared source table =
    refused_or (first (list_broken (chosen own list source)) (first (list_broken list) (table_broken table)))
    (drafted v dst src own span (items list) shared (items source) (rows table))

abbrev pub clone_lent : Volume → (dst src : File) → Bool → CloneRange → (list shared source table : List ℕ) → Rooms → Outcome Plan
clone_lent v dst src own span list shared source table rooms = with_room rooms (drafted_lent v dst src own span list shared source table)

-- ioctl_ficlonerange(2) on mappings: the destination's range shares the source's storage, as it was before; the rest of
-- the destination is as it was
pub record Cloned (from to span : ℕ) (source before after : ℕ → Option Mapping) : Type 0 where
  pub shared : (i : ℕ) → i < span → after (to + i) ≡ source (from + i)
  pub below : (o : ℕ) → o < to → after o ≡ before o
  pub above : (o : ℕ) → to + span ≤ o → after o ≡ before o
