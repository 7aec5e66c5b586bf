-- Demand 3 of the bytes: every run of calls on them decodes to a run of the definitions. Assumes nothing.
use mathlib.Core.Path.{◌≡◌, refl, ap, ap₂, ◌∙◌}
use mathlib.Core.List.{List, [], ◌∷◌, ◌++◌, map, map-append}
use Prim.Native.Nat.{ℕ}
use Rattle.history_theorem.specs.States.{State}
use Rattle.history_theorem.specs.Calls.{Applied, run, trace}
use Rattle.history_theorem.proofs.Demand3.{demand3}
use Rattle.history_bytes.specs.StoredState.{StoredState, BytesCall, read_state, read_applied, answer_lent, step_trace_lent, step_lent, run_lent, trace_lent, Whole, AllLendable, OfBytes, calls_of}
use Rattle.history_bytes.proofs.Steps.{step_read}

pub run_read : (sector : ℕ) (s : StoredState) (cs : List BytesCall) → Whole s → AllLendable sector s cs → read_state (run_lent sector s cs) ≡ run sector (read_state s) (calls_of cs)
unfolding run_lent run
run_read sector s [] w h = refl
run_read sector s (c ∷ cs) w h =
    let t = step_read sector s c.call c.buffers w h.0 in
    run_read sector (step_lent sector s c.call c.buffers) cs t.whole h.1 ∙ ap (λ (x : State). run sector x (calls_of cs)) t.state

pub trace_read : (sector : ℕ) (s : StoredState) (cs : List BytesCall) → Whole s → AllLendable sector s cs → map read_applied (trace_lent sector s cs) ≡ trace sector (read_state s) (calls_of cs)
unfolding trace_lent trace
trace_read sector s [] w h = refl
trace_read sector s (c ∷ cs) w h =
    let t = step_read sector s c.call c.buffers w h.0 in
    map-append read_applied (step_trace_lent sector s c.call c.buffers (answer_lent sector s c.call)) _
    ∙ ap₂ (λ (x y : List Applied). x ++ y) t.plans
    (trace_read sector (step_lent sector s c.call c.buffers) cs t.whole h.1 ∙ ap (λ (x : State). trace sector x (calls_of cs)) t.state)

-- the theorem, and that the bytes and plans of the run are those that it speaks of
pub demand3_of_bytes : (sector : ℕ) (s : StoredState) (cs : List BytesCall) → Whole s → AllLendable sector s cs → OfBytes sector s cs
demand3_of_bytes sector s cs w h = record { claim = demand3 sector (read_state s) (calls_of cs); state = run_read sector s cs w h; plans = trace_read sector s cs w h }
