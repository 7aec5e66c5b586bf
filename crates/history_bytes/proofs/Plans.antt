-- An operation on a volume's bytes answers as on what they decode to; its plan, read from the outputs, is applied to bytes
-- as to what they decode to. Assumes nothing.
use mathlib.Core.Path.{◌≡◌, refl, ap, ◌∙◌}
use mathlib.Core.Bool.{Bool, true, false}
use mathlib.Core.List.{List, [], ◌∷◌, ◌++◌, flat_map}
use Prim.Native.Nat.{ℕ, ◌+◌, ◌/◌, ◌%◌, ◌<◌}
use native.Mathlib.Omega.{arith}
use native.Mathlib.Nat.{mul-div_cancel}
use lib.ListN.{length}
use lib.Seq.{drop_at}
use borrow.Author.Tests.{le-leb}
use Rattle.records.specs.Records.{chunks, records}
use Rattle.records.specs.Stages.{first, first_of, every}
use Rattle.records.proofs.Lists.{every_true}
use Rattle.item.specs.Items.{Fields}
use Rattle.table.specs.declared.Row.{Row}
use Rattle.table.specs.Rows.{rows}
use Rattle.request.specs.Lent.{list_broken, table_broken}
use Rattle.request.specs.Answers.{plan}
use Rattle.cut_def.specs.Edits.{Edit, put, delete}
use Rattle.cut_def.specs.Refs.{Ref}
use Rattle.plan_def.specs.Plans.{Plan, Add, refused_or}
use Rattle.plan_def.specs.Outputs.{Outs, left, edit_bytes, ref_numbers, add_numbers}
use Rattle.plan_def.specs.ReadBack.{ref_in, add_in, refs_in, adds_in}
use Rattle.plan_def.proofs.Leaving.{edit-length}
use Rattle.plan_lines.proofs.Laws.{length_flat}
use Rattle.plan_lines.proofs.Again.{lines_read}
use Rattle.clone_def.specs.Clone.{chosen, clone}
use Rattle.apply_def.specs.Apply.{apply_refusal, apply, rows_after}
use Rattle.apply_def.specs.Lent.{Parts, tag_sound, plan_lent, parts_broken, apply_lent, count_broken}
use Rattle.plan_bounds.specs.Widths.{edit_fits}
use Rattle.plan_bounds.proofs.Read.{edits-back}
use Rattle.plan_bounds.proofs.Fitting.{punch_fits, fallocate_fits, clone_fits}
use Rattle.history_theorem.specs.States.{list_of}
use Rattle.history_theorem.specs.Calls.{Call, Lent, punching, fallocating, cloning, lent_of, answer_of, applying, volume_of, file_of}
use Rattle.history_bytes.specs.StoredState.{StoredState, Buffers, bytes_of, read_state, answer_from, answer_lent, filled, applying_lent, Whole, Lendable}
use Rattle.history_bytes.proofs.Bytes.{laid-front, flat_whole, front, front_fits}
use Rattle.history_bytes.proofs.Files.{list_read, whole_of}

-- ---- the answer

whole_list : (b : List ℕ) → length b % 70 ≡ 0 → list_broken b ≡ 0
whole_list b h = rw h refl

module _ (sector : ℕ) (s : StoredState) (w : Whole s) where
  unbroken : (n : ℕ) → first (list_broken (bytes_of n s.files)) (table_broken s.table) ≡ 0
  unfolding first
  unbroken n = rw ((whole_of n s.files w.lists).0, w.rows) refl

  unbroken2 : (own : Bool) (n m : ℕ) → first (list_broken (chosen own (bytes_of n s.files) (bytes_of m s.files))) (first (list_broken (bytes_of n s.files)) (table_broken s.table)) ≡ 0
  unfolding first
  unbroken2 own n m = rw (unbroken n) (rw (whole_list (chosen own (bytes_of n s.files) (bytes_of m s.files)) (go own)) refl)
    where
      go : (b : Bool) → length (chosen b (bytes_of n s.files) (bytes_of m s.files)) % 70 ≡ 0
      go true = (whole_of n s.files w.lists).0
      go false = (whole_of m s.files w.lists).0

  pub answer_read : (c : Call) → answer_lent sector s c ≡ answer_of sector (read_state s) c
  unfolding answer_from answer_of refused_or
  answer_read (punching l ps r) = rw (unbroken l.number, list_read l.number s.files) refl
  answer_read (fallocating l ps r k) = rw (unbroken l.number, list_read l.number s.files) refl
  answer_read (cloning l src own span) = rw (unbroken2 own l.number src.number, list_read l.number s.files, list_read src.number s.files) (unfold clone in refl)

  -- its edits fit
  pub answer_fits : (c : Call) (b : Buffers) (p : Plan) → Lendable s c b → answer_lent sector s c ≡ plan p → every edit_fits p.edits ≡ true
  unfolding answer_from
  answer_fits (punching l ps r) b p h e = punch_fits (volume_of sector l) (file_of l) r (bytes_of l.number s.files) l.shared s.table ps l.rooms p h.generation h.number (whole_of l.number s.files w.lists).1 e
  answer_fits (fallocating l ps r k) b p h e = fallocate_fits (volume_of sector l) (file_of l) r (bytes_of l.number s.files) l.shared s.table ps l.rooms p h.generation h.number (whole_of l.number s.files w.lists).1 k e
  answer_fits (cloning l src own span) b p h e = clone_fits (volume_of sector l) (file_of l) src own span (bytes_of l.number s.files) l.shared (bytes_of src.number s.files) s.table l.rooms p h.number (whole_of l.number s.files w.lists).1 (whole_of src.number s.files w.lists).1 e

-- ---- the plan in the outputs

-- what applying looks at
abbrev looked : Plan → Plan
looked p = record { edits = p.edits; shares = p.shares; unrefs = p.unrefs; releases = p.releases; adds = p.adds; writes = []; size = 0; bytes = 0; prealloc = false }

refs-back : (rs : List Ref) → refs_in (flat_map ref_numbers rs) ≡ rs
unfolding ref_in
refs-back rs = lines_read ref_numbers 2 ref_in (omega arith) (λ r. refl) (λ r. true) (λ r k s. refl) rs (every_true rs)

adds-back : (l : List Add) → adds_in (flat_map add_numbers l) ≡ l
unfolding add_in
adds-back l = lines_read add_numbers 3 add_in (omega arith) (λ a. refl) (λ a. true) (λ a k s. refl) l (every_true l)

module _ (file : ℕ) where
  tag_back : (e : Edit) (t : List ℕ) → tag_sound (edit_bytes file e ++ t) ≡ true
  tag_back (put f) t = refl
  tag_back (delete k) t = refl

  tags_chunks : (es : List Edit) → every (λ (b : Bool). b) (chunks tag_sound 71 (length es) (flat_map (edit_bytes file) es)) ≡ true
  unfolding chunks every flat_map
  tags_chunks [] = refl
  tags_chunks (e ∷ es) = rw (tag_back e (flat_map (edit_bytes file) es), drop_at (edit_bytes file e) (flat_map (edit_bytes file) es) 71 (edit-length file e)) (tags_chunks es)

  tags_back : (es : List Edit) → every (λ (b : Bool). b) (records tag_sound 71 (flat_map (edit_bytes file) es)) ≡ true
  unfolding records
  tags_back es =
      let z : length (flat_map (edit_bytes file) es) / 71 ≡ length es = rw (length_flat (edit_bytes file) 71 (omega arith) (edit-length file) es) (mul-div_cancel (length es) (omega arith)) in
      rw z (tags_chunks es)

  module _ (p : Plan) (o : Outs) where
    abbrev parts : Parts
    parts = record { edits = flat_map (edit_bytes file) p.edits; shares = flat_map ref_numbers p.shares; unrefs = flat_map ref_numbers p.unrefs; releases = flat_map ref_numbers p.releases; adds = flat_map add_numbers p.adds }

    filled_parts : filled p (left file (plan p) o) ≡ parts
    filled_parts = λ i.
        record {
          edits = laid-front (edit_bytes file) 71 (omega arith) (edit-length file) p.edits o.edits i;
          shares = laid-front ref_numbers 2 (omega arith) (λ r. refl) p.shares o.shares i;
          unrefs = laid-front ref_numbers 2 (omega arith) (λ r. refl) p.unrefs o.unrefs i;
          releases = laid-front ref_numbers 2 (omega arith) (λ r. refl) p.releases o.releases i;
          adds = laid-front add_numbers 3 (omega arith) (λ r. refl) p.adds o.adds i;
        }

    unbroken_parts : parts_broken parts ≡ 0
    unbroken_parts =
        rw (flat_whole (edit_bytes file) 71 (omega arith) (edit-length file) p.edits, tags_back p.edits, flat_whole ref_numbers 2 (omega arith) (λ r. refl) p.shares, flat_whole ref_numbers 2 (omega arith) (λ r. refl) p.unrefs, flat_whole ref_numbers 2 (omega arith) (λ r. refl) p.releases, flat_whole add_numbers 3 (omega arith) (λ r. refl) p.adds) refl

    plan-back : every edit_fits p.edits ≡ true → plan_lent parts ≡ looked p
    plan-back h = λ i.
        record {
          edits = edits-back file p.edits h i;
          shares = refs-back p.shares i;
          unrefs = refs-back p.unrefs i;
          releases = refs-back p.releases i;
          adds = adds-back p.adds i;
          writes = [];
          size = 0;
          bytes = 0;
          prealloc = false;
        }

-- ---- applying it

looked_same : (sector number generation room_items room_rows : ℕ) (fs : List Fields) (rs : List Row) (p : Plan) → apply sector number generation room_items room_rows fs rs (looked p) ≡ apply sector number generation room_items room_rows fs rs p
unfolding apply apply_refusal rows_after
looked_same sector number generation room_items room_rows fs rs p = refl

counted : (w : ℕ) (s t : List ℕ) → 0 < w → length s % w ≡ 0 → count_broken (length s / w) w (s ++ t) ≡ 0
counted w s t pos h = rw (le-leb (length s / w) (length (s ++ t) / w) (front_fits w pos s t h)) refl

pub applying_read : (sector : ℕ) (s : StoredState) (c : Call) (b : Buffers) (p : Plan) → Whole s → Lendable s c b → every edit_fits p.edits ≡ true → applying_lent sector s (lent_of c) b p ≡ applying sector (read_state s) (lent_of c) p
unfolding first_of first
applying_read sector s c b p w h fits =
    let l : Lent = lent_of c in
    let list : List ℕ = bytes_of l.number s.files in
    let m = (whole_of l.number s.files w.lists).0 in
    ap (apply_lent sector l.number (l.generation + 1) (length list / 70) (length s.table / 5) (list ++ b.behind_list) (s.table ++ b.behind_table)) (filled_parts l.number p b.outputs)
    ∙ rw (counted 70 list b.behind_list (omega arith) m, counted 5 s.table b.behind_table (omega arith) w.rows, unbroken_parts l.number p b.outputs)
    (rw (plan-back l.number p b.outputs fits, front 70 (omega arith) list b.behind_list m, front 5 (omega arith) s.table b.behind_table w.rows, ← h.items, ← h.rows, ← list_read l.number s.files)
    (looked_same sector l.number (l.generation + 1) l.room_items l.room_rows (list_of l.number (read_state s).files) (rows s.table) p))
