-- Every plan of a clone is lawful. Assumes nothing.
use mathlib.Core.Path.{◌≡◌, refl, ap, ◌∙◌, sym}
use mathlib.Core.Bool.{Bool, true, false, cond}
use mathlib.Core.List.Memᴰ
use mathlib.Core.List.{List, [], ◌++◌}
use Prim.Native.Nat.{ℕ, ◌+◌, ◌<◌, ◌≤◌}
use native.Mathlib.Omega.{arith}
use lib.Dec.{eqb}
use borrow.Author.Tests.{eqb-false, not-true}
use Rattle.records.specs.Stages.{every, pairs}
use Rattle.records.specs.Select.{count}
use Rattle.item.specs.Items.{Fields}
use Rattle.request.specs.declared.File.{File}
use Rattle.request.specs.Answers.{plan}
use Rattle.cut_def.specs.Pieces.{Piece, items_of}
use Rattle.cut_def.specs.Refs.{naming}
use Rattle.plan_def.specs.Plans.{Plan}
use Rattle.change_def.specs.Rounding.{round_down, round_up}
use Rattle.change_def.proofs.Rounding.{down_self, sector-range}
use Rattle.clone_span.specs.declared.CloneRange.{CloneRange}
use Rattle.clone_def.proofs.Planned.{Planned, planned, src_items, L, W}
use Rattle.ref_def.proofs.Lines.{rowed_stage}
use Rattle.lists.proofs.Laws.{well_kept_lem}
use Rattle.apply_def.specs.Apply.{row_missing}
use Rattle.apply_def.proofs.Refusals.{Fit}
use Rattle.clone_def.proofs.Laws.{widened, after, after_kept, applied-pieces, mapping-outside}
use Rattle.clone_def.proofs.Fits.{rising, sectors_now, lines_rowed}
use Rattle.clone_def.proofs.References.{balance, shared-named, released-only, released-always}
use Rattle.history_theorem.specs.States.{State, list_of, total}
use Rattle.history_theorem.specs.Calls.{Call, Lent, cloning, volume_of, file_of, answer_of}
use Rattle.history_theorem.proofs.Lawful.{items_now, Lawful}
use Rattle.history_theorem.proofs.Files.{unmarked-zero, missing-none, total-one, total-two, others, with_others, with_others_now, true_row}

module _ (sector : ℕ) (s : State) (l : Lent) (src : File) (own : Bool) (span : CloneRange) (p : Plan) (e : answer_of sector s (cloning l src own span) ≡ plan p) where
  abbrev c : Call
  c = cloning l src own span

  abbrev before : List Fields
  before = list_of l.number s.files

  abbrev source : List Fields
  source = list_of src.number s.files

  h : Planned (volume_of sector l) (file_of l) src own span before l.shared source s.rows p
  unfolding answer_of
  h = planned (volume_of sector l) (file_of l) src own span before l.shared source s.rows l.rooms p e

  abbrev pieces : List Piece
  pieces = after (volume_of sector l) (file_of l) src own span before l.shared source s.rows p h

  applied : items_now s c p ≡ items_of pieces
  applied = ap items_of (applied-pieces (volume_of sector l) (file_of l) src own span before l.shared source s.rows p h)

  no-adds : p.adds ≡ []
  no-adds = ap (λ (q : Plan). q.adds) h.made

  -- another file is no part of this one's items
  source-among : (start : ℕ) → own ≡ false → naming start source + naming start before ≤ total start s.files
  source-among start o =
      total-two src.number l.number start
      (λ x. eqb-false src.number l.number (not-true (eqb src.number l.number) (rw o at h.lent.other)) x) s.files

  abbrev asked : ℕ
  asked = L (volume_of sector l) (file_of l) src own span before l.shared source s.rows

  abbrev replaced : ℕ
  replaced = W (volume_of sector l) (file_of l) src own span before l.shared source s.rows

  -- the request's range in the destination, widened to sectors, is what the clone replaces
  replaced-outside : (o : ℕ) → (round_down sector span.to ≤ o → o < round_up sector (span.to + asked) → ⊥) → span.to ≤ o → o < span.to + replaced → ⊥
  replaced-outside o out low high =
      out (rw (down_self sector pos span.to h.aligned.1) low) (rw (widened sector span.from span.to asked pos h.aligned.0 h.aligned.1) high)
    where
      pos : 0 < sector
      pos = (sector-range sector h.lent.destination.sector).0

  abbrev rest : ℕ → ℕ
  rest start = others l.number start s.files

  source-rest : (start : ℕ) → own ≡ false → naming start source ≤ rest start
  source-rest start o = omega (arith, source-among start o)

  -- the source's list is this file's or another's
  named : (start : ℕ) → 0 < naming start before + naming start (src_items (volume_of sector l) (file_of l) src own span before l.shared source s.rows) → 0 < total start s.files
  named start n = go own refl n
    where
      go : (b : Bool) → own ≡ b → 0 < naming start before + naming start (cond b before source) → 0 < total start s.files
      go true o n = omega (arith, total-one l.number start s.files)
      go false o n = omega (arith, total-one l.number start s.files, total-one src.number start s.files)

  pub lawful_clone : Lawful sector s c p
  lawful_clone =
      record {
        mappings = λ o out. rw applied (mapping-outside (volume_of sector l) (file_of l) src own span before l.shared source s.rows p h o (replaced-outside o out.0));
        balance = λ q. unfold count in rw (applied, no-adds) (balance (volume_of sector l) (file_of l) src own span before l.shared source s.rows p h q);
        fresh = λ a m. absurd (Memᴰ.not-nil (rw no-adds at m));
        shared = λ start n. named start (shared-named (volume_of sector l) (file_of l) src own span before l.shared source s.rows p h start n);
        only = λ t u start n.
            let r = released-only (volume_of sector l) (file_of l) src own span before l.shared source s.rows p h start (rest start) (source-rest start) (true_row s l.number start t) n in
            (omega (arith, r.0, with_others l.number start s.files), sym (with_others_now l.number start (items_now s c p) s.files) ∙ rw applied r.1);
        always = λ t u start some none.
            released-always (volume_of sector l) (file_of l) src own span before l.shared source s.rows p h start (rest start) (source-rest start) (true_row s l.number start t) (unmarked-zero before l.shared h.lent.destination.shares u)
            (omega (arith, some, with_others l.number start s.files))
            (rw applied at (with_others_now l.number start (items_now s c p) s.files ∙ none));
      }

  -- and what it brings along is fit to be applied
  pub fit_clone : Fit sector l.number (l.generation + 1) before s.rows p
  fit_clone =
      let a = h.lent.destination in
      record {
        items = a.sized;
        rows = a.«table-sized»;
        kept = a.kept;
        rising = rising (volume_of sector l) (file_of l) src own span before l.shared source s.rows p h;
        table = a.«table_kept»;
        «sector-sound» = a.sector;
        sectors = a.sectors;
        lines = rowed_stage s.rows (row_missing s.rows) (missing-none s.rows) (p.shares ++ (p.unrefs ++ p.releases)) (lines_rowed (volume_of sector l) (file_of l) src own span before l.shared source s.rows p h);
        «kept-now» = rw applied (well_kept_lem l.number (items_of pieces) (after_kept (volume_of sector l) (file_of l) src own span before l.shared source s.rows p h));
        «sectors-now» = rw applied (sectors_now (volume_of sector l) (file_of l) src own span before l.shared source s.rows p h);
        new = rw no-adds (unfold every in refl);
        clear = rw no-adds (unfold every in refl);
        apart = rw no-adds (unfold pairs in refl);
      }
