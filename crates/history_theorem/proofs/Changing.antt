-- What punch and fallocate have in common: every plan of `change_range` is lawful, but for what it maps, and fit to be
-- applied. Assumes nothing.
use mathlib.Core.Path.{◌≡◌, refl, ap, ◌∙◌, sym}
use mathlib.Core.Bool.{Bool, true, not, false≢true}
use mathlib.Core.List.{List, ◌++◌, Memᴰ}
use Prim.Native.Nat.{ℕ, ◌+◌, ◌%◌, ◌<◌}
use native.Mathlib.Omega.{arith}
use Rattle.std.specs.Prelude.{Some, None}
use Rattle.records.specs.Select.{count}
use Rattle.records.proofs.Lists.{every_mem, at_every}
use Rattle.item.specs.Items.{Fields}
use Rattle.table.specs.declared.Row.{Row}
use Rattle.table.specs.Rows.{Found, find}
use Rattle.lists.proofs.Laws.{well_kept_lem}
use Rattle.request.proofs.Stages.{Accepted}
use Rattle.cut_def.specs.Mappings.{mapping}
use Rattle.cut_def.specs.Pieces.{items_of}
use Rattle.cut_def.specs.Refs.{ref_passes, naming}
use Rattle.cut_def.specs.Edits.{items_after}
use Rattle.ref_def.proofs.Drops.{is_found, leaves-unshared}
use Rattle.ref_def.proofs.Lines.{rowed_stage}
use Rattle.plan_def.specs.Plans.{Plan, Add}
use Rattle.plan_def.specs.Places.{places_sound}
use Rattle.change_def.specs.Preallocs.{piece_limit}
use Rattle.change_def.specs.Rewrites.{ground_of, Ground}
use Rattle.change_def.specs.Changes.{Change, before, pieces_after, change_refusal, wanted, plan_of}
use Rattle.change_def.proofs.Preallocs.{limit_whole}
use Rattle.change_def.proofs.Fair.{Fair}
use Rattle.change_def.proofs.Steps.{kept-after, whole_after, edits-give}
use Rattle.change_def.proofs.Balance.{balance, adds_fresh, shares-named}
use Rattle.change_def.proofs.Released.{released-only, released-always}
use Rattle.change_def.proofs.Fits.{lines_rowed, rising, adds-some}
use Rattle.punch_def.proofs.Planned.{ground_items}
use Rattle.apply_def.specs.Apply.{row_missing}
use Rattle.apply_def.proofs.Adds.{rows-sound, rows-clear, rows_apart, each_sound, two-apart}
use Rattle.apply_def.proofs.Refusals.{Fit}
use Rattle.history_theorem.specs.States.{State, list_of, TrueTable}
use Rattle.history_theorem.specs.Calls.{Call, Lent, lent_of, volume_of, file_of, changes, origin}
use Rattle.history_theorem.specs.Claims.{Outside, add_ref}
use Rattle.history_theorem.proofs.Lawful.{Lawful}
use Rattle.history_theorem.proofs.Files.{unmarked-zero, missing-none, total-one, others, with_others, with_others_now, true_row}

-- what an operation shows of its plan to be one of a change
pub record Changed (sector : ℕ) (s : State) (l : Lent) (places : List ℕ) : Type 0 where
  pub change : Change
  pub lent : Accepted (volume_of sector l) (file_of l) (list_of l.number s.files) l.shared s.rows
  pub fair : Fair (ground_of (volume_of sector l) (file_of l) (list_of l.number s.files) l.shared s.rows) change
  pub unrefused : change_refusal (ground_of (volume_of sector l) (file_of l) (list_of l.number s.files) l.shared s.rows) change ≡ 0
  pub placed : places_sound s.rows places (wanted (ground_of (volume_of sector l) (file_of l) (list_of l.number s.files) l.shared s.rows) change piece_limit) ≡ true

module _ (sector : ℕ) (s : State) (l : Lent) (places : List ℕ) (h : Changed sector s l places) where
  abbrev fs : List Fields
  fs = list_of l.number s.files

  abbrev g : Ground
  g = ground_of (volume_of sector l) (file_of l) fs l.shared s.rows

  abbrev c : Change
  c = h.change

  abbrev pub after : List Fields
  after = items_of (pieces_after g c piece_limit places)

  limit-some : 0 < piece_limit
  limit-some = omega arith

  sectors : piece_limit % sector ≡ 0
  sectors = limit_whole sector h.lent.sector

  items : before g c ≡ fs
  items = ground_items (volume_of sector l) (file_of l) fs l.shared s.rows h.lent

  abbrev pub planned : Plan
  planned = plan_of g c piece_limit places

  -- the edits, applied to the file's list, give the change's items
  pub applied : items_of (items_after fs planned.edits) ≡ after
  applied = ap (λ (xs : List Fields). items_of (items_after xs planned.edits)) (sym items) ∙ ap items_of (edits-give g c h.fair piece_limit limit-some sectors places h.placed)

  abbrev rest : ℕ → ℕ
  rest start = others l.number start s.files

  -- the extent's row, by what this file's items and the others' name
  row : TrueTable s → (start : ℕ) → 0 < naming start (before g c) + rest start → (k : ℕ) × (r : Row) × (find start s.rows ≡ Some (k, r)) × (r.references ≡ naming start (before g c) + rest start)
  row t start = rw items (true_row s l.number start t)

  not_found : (o : Found) → not (is_found o) ≡ true → o ≡ None
  not_found (Some (k, r)) e = absurd (false≢true e)
  not_found None e = refl

  new-missing : (a : Add) → Memᴰ a planned.adds → find a.start s.rows ≡ None
  new-missing a m =
      let first : Add = record { start = 0; length = 0; key = 0 } in
      let t : Add → Bool = λ a. not (is_found (find a.start s.rows)) in
      not_found (find a.start s.rows)
      (every_mem t m
      (at_every t first (plan_of g c piece_limit places).adds (λ i k. rw (adds_fresh g c h.fair piece_limit limit-some sectors places h.placed i first k) refl)))

  -- so a call of which it is the plan is lawful, if it maps what it may
  module _ (call : Call) (same : lent_of call ≡ l) (shows : (o : ℕ) → Outside o (changes sector call) → mapping o after ≡ mapping (origin call o) fs) where
    pub lawful : Lawful sector s call planned
    lawful =
        record {
          mappings = λ o out. rw (same, applied) (shows o out);
          balance = λ q.
              rw (same, applied)
              (balance g c h.fair piece_limit limit-some sectors places h.placed h.unrefused q
              ∙ ap (λ (xs : List Fields). count (ref_passes q) xs + (count q planned.shares + count (λ (a : Add). q (add_ref a)) planned.adds)) items);
          fresh = new-missing;
          shared = λ start n.
              let k = shares-named g c h.fair piece_limit limit-some sectors places h.placed start n in
              omega (arith, total-one l.number start s.files, rw items at k);
          only = λ t u start n.
              let r = released-only g c h.fair start piece_limit limit-some sectors places h.placed h.unrefused (rest start) (row t start) n in
              (omega (arith, rw items at r.0, with_others l.number start s.files), rw same (sym (with_others_now l.number start (items_of (items_after fs planned.edits)) s.files) ∙ rw applied r.1));
          always = λ t u start some none.
              (released-always g c h.fair start piece_limit limit-some sectors places h.placed h.unrefused (rest start) (row t start) (leaves-unshared fs l.shared (unmarked-zero fs l.shared h.lent.shares (rw same at u)))
              (rw items (omega (arith, some, with_others l.number start s.files)))
              (rw applied at (with_others_now l.number start (items_of (items_after fs planned.edits)) s.files ∙ rw same at none)));
        }

  -- and what it brings along is fit to be applied
  pub fit : Fit sector l.number (l.generation + 1) fs s.rows planned
  fit =
      let a = h.lent in
      let n : ℕ = l.generation + 1 in
      record {
        items = a.sized;
        rows = a.«table-sized»;
        kept = a.kept;
        rising = (rising g c h.fair h.unrefused piece_limit limit-some sectors places h.placed);
        table = a.«table_kept»;
        «sector-sound» = a.sector;
        sectors = a.sectors;
        lines = rowed_stage s.rows (row_missing s.rows) (missing-none s.rows) (planned.shares ++ (planned.unrefs ++ planned.releases)) ((lines_rowed g c h.fair h.unrefused piece_limit limit-some sectors places h.placed));
        «kept-now» = rw applied (well_kept_lem l.number after (kept-after g c h.fair piece_limit limit-some sectors places h.placed));
        «sectors-now» = rw applied (whole_after g c h.fair piece_limit limit-some sectors places h.placed);
        new = (rows-sound n s.rows (plan_of g c piece_limit places).adds (each_sound s.rows places (wanted g c piece_limit) h.placed) (adds-some g c h.fair h.unrefused piece_limit limit-some sectors places h.placed));
        clear = (rows-clear n s.rows (plan_of g c piece_limit places).adds (each_sound s.rows places (wanted g c piece_limit) h.placed));
        apart = (rows_apart n s.rows (plan_of g c piece_limit places).adds (two-apart s.rows places (wanted g c piece_limit) h.placed));
      }
