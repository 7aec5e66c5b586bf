-- A step on the bytes decodes to the definitions' step. Assumes nothing.
use mathlib.Core.Path.{◌≡◌, refl, ap, ap₂, ◌∙◌}
use mathlib.Core.Bool.{Bool, true, not}
use mathlib.Core.List.{List, [], ◌∷◌, map, flat_map}
use Prim.Native.Nat.{ℕ, ◌+◌, ◌*◌}
use native.Mathlib.Omega.{arith}
use lib.ListN.{length, take}
use Rattle.records.specs.Stages.{every}
use Rattle.records.specs.Select.{keep}
use Rattle.records.proofs.Tests.{both, both_left, both_right, every-keep}
use Rattle.records.proofs.Lists.{every_flat}
use Rattle.item.specs.Items.{Fields, encode}
use Rattle.item.proofs.Widths.{length-encode}
use Rattle.table.specs.declared.Row.{Row}
use Rattle.table.specs.Rows.{rows, row_numbers}
use Rattle.request.specs.Answers.{Outcome, plan, nothing, refused}
use Rattle.cut_def.specs.Pieces.{items_of, kept}
use Rattle.cut_def.specs.Edits.{Edit, put, delete, put_of, edited, items_after}
use Rattle.cut_def.proofs.Kept.{every-insert_all}
use Rattle.plan_def.specs.Plans.{Plan}
use Rattle.apply_def.specs.Apply.{Applying, applied}
use Rattle.apply_def.proofs.Rows.{apply_cases}
use Rattle.plan_bounds.specs.Widths.{fields_fit, edit_fits}
use Rattle.plan_bounds.proofs.Fitting.{records_fit}
use Rattle.history_theorem.specs.States.{FileList, State, list_of, with_list}
use Rattle.history_theorem.specs.Calls.{Call, Lent, Applied, lent_of, answer_of, after_applying, applying, trace_of, step_of, step_trace, step}
use Rattle.history_bytes.specs.StoredState.{StoredState, Buffers, AppliedLent, bytes_of, read_file, read_state, read_applied, answer_lent, list_lent, table_lent, stored_after, trace_lent_of, step_trace_lent, step_lent_of, step_lent, Whole, Lendable}
use Rattle.plan_bounds.proofs.Bytes.{bytes-items}
use Rattle.history_bytes.proofs.Bytes.{laid-front, flat_whole, items_back, rows_back}
use Rattle.history_bytes.proofs.Files.{list_read, with_read, whole_of, whole_with}
use Rattle.history_bytes.proofs.Plans.{answer_read, answer_fits, applying_read}

-- ---- the numbers of a list after edits that fit

puts_fit : (e : Edit) → edit_fits e ≡ true → every fields_fit (put_of e) ≡ true
unfolding every
puts_fit (put f) h = both (fields_fit f) true h refl
puts_fit (delete k) h = refl

kept_fits : (l : List Fields) → every fields_fit l ≡ true → every fields_fit (items_of (map kept l)) ≡ true
unfolding every
kept_fits [] h = h
kept_fits (f ∷ l) h = both (fields_fit f) _ (both_left (fields_fit f) (every fields_fit l) h) (kept_fits l (both_right (fields_fit f) (every fields_fit l) h))

after_fits : (fs : List Fields) (es : List Edit) → every fields_fit fs ≡ true → every edit_fits es ≡ true → every fields_fit (items_of (items_after fs es)) ≡ true
unfolding items_after
after_fits fs es h k =
    let stays : Fields → Bool = λ f. not (edited es f.key) in
    every-insert_all fields_fit (flat_map put_of es) _ (every_flat edit_fits put_of fields_fit puts_fit es k) (kept_fits (keep stays fs) (every-keep fields_fit stays fs h))

-- ---- a step

-- what is stored after a step, that it is whole, and the plan that was applied
pub record Read (t : StoredState) (l : List AppliedLent) (s : State) (m : List Applied) : Type 0 where
  pub state : read_state t ≡ s
  pub whole : Whole t
  pub plans : map read_applied l ≡ m

module _ (sector : ℕ) (s : StoredState) (c : Call) (b : Buffers) (w : Whole s) where
  abbrev l : Lent
  l = lent_of c

  -- what is read of what applying leaves
  abbrev ReadOf : Plan → Applying → Type 0
  ReadOf p a = Read (stored_after sector s l b a) (trace_lent_of sector s c b p a) (after_applying l (read_state s) a) (trace_of c (read_state s) p a)

  -- a list and a table left by applying
  stored_read : (p : Plan) (is : List Fields) (rs : List Row) → every fields_fit is ≡ true → ReadOf p (applied is rs)
  stored_read p is rs h =
      let i : take (length is * 70) _ ≡ flat_map encode is = laid-front encode 70 (omega arith) length-encode is (list_lent sector s l b) in
      let r : take (length rs * 5) _ ≡ flat_map row_numbers rs = laid-front row_numbers 5 (omega arith) (λ r. refl) rs (table_lent sector s l b) in
      let same : read_state (stored_after sector s l b (applied is rs)) ≡ after_applying l (read_state s) (applied is rs) =
      rw (i, r)
      (ap₂ (λ (f : List FileList) (t : List Row). record { files = f; rows = t }) (with_read l.number (flat_map encode is) s.files ∙ ap (λ (x : List Fields). with_list l.number x (map read_file s.files)) (items_back is h)) (rows_back rs)) in
      record {
        state = same;
        whole = rw (i, r) (record { lists = whole_with l.number (flat_map encode is) (flat_whole encode 70 (omega arith) length-encode is) (bytes-items is) s.files w.lists; rows = flat_whole row_numbers 5 (omega arith) (λ r. refl) rs });
        plans = ap (λ (x : State). record { call = c; plan = p; before = read_state s; after = x } ∷ []) same;
      }

  applied_read : (p : Plan) → every edit_fits p.edits ≡ true → ReadOf p (applying sector (read_state s) l p)
  applied_read p fits =
      apply_cases sector l.number (l.generation + 1) (list_of l.number (read_state s).files) (rows s.table) p l.room_items l.room_rows (ReadOf p)
      (λ n. record { state = refl; whole = w; plans = refl })
      (λ a. stored_read p _ _ (after_fits _ p.edits (rw (list_read l.number s.files) (records_fit (bytes_of l.number s.files) (whole_of l.number s.files w.lists).1)) fits))

-- the lemma: a step on the bytes decodes to the step of demand 3, with the plan that it applied, and what it leaves can be lent again
pub step_read : (sector : ℕ) (s : StoredState) (c : Call) (b : Buffers) → Whole s → Lendable s c b
    → Read (step_lent sector s c b) (step_trace_lent sector s c b (answer_lent sector s c)) (step sector (read_state s) c) (step_trace sector (read_state s) c (answer_of sector (read_state s) c))
step_read sector s c b w h = rw (← answer_read sector s w c) (go (answer_lent sector s c) refl)
  where
    go : (o : Outcome Plan) → answer_lent sector s c ≡ o → Read (step_lent_of sector s c b o) (step_trace_lent sector s c b o) (step_of sector (read_state s) c o) (step_trace sector (read_state s) c o)
    go (plan p) e =
        let fits = answer_fits sector s w c b p h e in
        rw (applying_read sector s c b p w h fits) (applied_read sector s c b w p fits)
    go nothing e = record { state = refl; whole = w; plans = refl }
    go (refused n) e = record { state = refl; whole = w; plans = refl }
