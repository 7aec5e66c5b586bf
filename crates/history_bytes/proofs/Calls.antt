-- From the contracts to demand 3: calls of which nothing is known but the contracts of the operations and of applying are the run on
-- bytes, so that the theorem speaks of them. Assumes nothing.
use mathlib.Core.Path.{◌≡◌, refl, ap₂, ◌∙◌, sym, subst}
use mathlib.Core.List.{List, [], ◌∷◌}
use Prim.Native.Nat.{ℕ, ◌+◌, ◌*◌, ◌/◌}
use lib.ListN.{length, take}
use Rattle.request.specs.declared.Numbers.{Numbers}
use Rattle.request.specs.Given.{Answer}
use Rattle.std.specs.Prelude.{Some, None, Ok, Err}
use Rattle.request.specs.Answers.{Outcome, plan, nothing, refused, said}
use Rattle.plan_def.specs.Plans.{Plan, numbers, told}
use Rattle.plan_def.specs.Outputs.{Rooms, Outs, rooms_of, left}
use Rattle.apply_def.specs.Apply.{Applying, applied, refusal}
use Rattle.apply_def.specs.Lent.{Parts, apply_lent}
use Rattle.apply.specs.Outcomes.{Applied, MetApplyingWith}
use Rattle.history_theorem.specs.Calls.{Call, Lent, lent_of}
use Rattle.history_bytes.specs.StoredState.{StoredState, Buffers, BytesCall, bytes_of, with_bytes, answer_from, list_lent, table_lent, applying_lent, stored_after, step_lent_of, step_lent, run_lent, Whole, AllLendable, OfBytes}
use Rattle.history_bytes.specs.Called.{parts_by, stored_by, AppliedBy, DoneWith, Called, AllCalled}
use Rattle.history_bytes.proofs.Runs.{demand3_of_bytes}

module _ (sector : ℕ) (s : StoredState) (l : Lent) (b : Buffers) where
  -- what is stored by applying's counts is what the run on bytes stores
  stored_same : (a : Applying) (r : Applied) (list table : List ℕ) → MetApplyingWith a r (list_lent sector s l b) list (table_lent sector s l b) table → stored_by s l r list table ≡ stored_after sector s l b a
  stored_same (applied is rs) (Ok z) list table m =
      let i : z.items ≡ length is = cc m.answer in
      let j : z.rows ≡ length rs = cc m.answer in
      ap₂ (λ (f t : List ℕ). record { files = with_bytes l.number f s.files; table = t }) (ap₂ (λ (n : ℕ) (x : List ℕ). take (n * 70) x) i m.bytes) (ap₂ (λ (n : ℕ) (x : List ℕ). take (n * 5) x) j m.numbers)
  stored_same (applied is rs) (Err n) list table m = absurd (cc m.answer)
  stored_same (refusal n) (Ok z) list table m = absurd (cc m.answer)
  stored_same (refusal n) (Err k) list table m = refl

  -- a plan's lines, found by the answer's counts, are its lines
  done-same : (p : Plan) (n : Numbers) (o : Outs) (t : StoredState) → n ≡ numbers p → o ≡ left l.number (plan p) b.outputs → AppliedBy sector s l b n o t → t ≡ stored_after sector s l b (applying_lent sector s l b p)
  done-same p n o t e q d =
      d.stored
      ∙ stored_same (applying_lent sector s l b p) d.answer d.list d.table
      (subst
      (λ (x : Parts).
      MetApplyingWith
      (apply_lent sector l.number (l.generation + 1) (length (bytes_of l.number s.files) / 70) (length s.table / 5) (list_lent sector s l b) (table_lent sector s l b) x)
      d.answer (list_lent sector s l b) d.list (table_lent sector s l b) d.table)
      (ap₂ parts_by e q)
      d.met)

-- one call is a step of the run on bytes
pub called_step : (sector : ℕ) (s : StoredState) (c : Call) (b : Buffers) (t : StoredState) → Called sector s c b t → t ≡ step_lent sector s c b
called_step sector s c b t h =
    subst (λ (r : Rooms). t ≡ step_lent_of sector s c b (answer_from sector s c r)) (sym h.lendable.outputs)
    (go h.answer (answer_from sector s c (rooms_of b.outputs)) h.outputs h.met.answer h.met.outputs h.done)
  where
    go : (a : Answer) (o : Outcome Plan) (outs : Outs) → said a ≡ told o → outs ≡ left (lent_of c).number o b.outputs → DoneWith sector s (lent_of c) b outs t a → t ≡ step_lent_of sector s c b o
    go (Ok (Some n)) (plan p) outs e q d = done-same sector s (lent_of c) b p n outs t (cc) q d
    go (Ok (Some n)) nothing outs e q d = absurd (cc)
    go (Ok (Some n)) (refused m) outs e q d = absurd (cc)
    go (Ok None) (plan p) outs e q d = absurd (cc)
    go (Ok None) nothing outs e q d = d
    go (Ok None) (refused m) outs e q d = absurd (cc)
    go (Err e') (plan p) outs e q d = absurd (cc)
    go (Err e') nothing outs e q d = absurd (cc)
    go (Err e') (refused m) outs e q d = d

-- calls one behind the other are the run
pub called_run : (sector : ℕ) (s : StoredState) (cs : List BytesCall) (t : StoredState) → AllCalled sector s cs t → (t ≡ run_lent sector s cs) × AllLendable sector s cs
unfolding run_lent
called_run sector s [] t h = (h, tt)
called_run sector s (c ∷ cs) t h =
    let e = called_step sector s c.call c.buffers h.0 h.1 in
    let r = called_run sector h.0 cs t h.2 in
    (subst (λ (m : StoredState). t ≡ run_lent sector m cs) e r.0, (h.1.lendable, subst (λ (m : StoredState). AllLendable sector m cs) e r.1))

-- demand 3 of such calls, whatever the code did: what they leave is what the run leaves of which it speaks
pub demand3_of_calls : (sector : ℕ) (s : StoredState) (cs : List BytesCall) (t : StoredState) → Whole s → AllCalled sector s cs t → OfBytes sector s cs × (t ≡ run_lent sector s cs)
demand3_of_calls sector s cs t w h = let r = called_run sector s cs t h in (demand3_of_bytes sector s cs w r.1, r.0)
