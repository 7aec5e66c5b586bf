-- The line at fault is the first that no right input goes on with: behind it every input has that line at fault, and
-- before it there are lines that make the input right. Assumes nothing.
use mathlib.Core.Path.{◌≡◌, refl, ◌∙◌}
use mathlib.Core.Bool.{Bool, true}
use mathlib.Core.List.{List, [], ◌∷◌}
use Prim.Native.Nat.{ℕ, zero, suc, ◌<◌, ◌≤◌}
use native.Mathlib.Omega.{arith}
use native.Mathlib.Nat.{add-zero}
use lib.Dec.{eqb, leb}
use lib.ListN.{get_or}
use borrow.Author.Tests.{eqb-true, leb-true}
use Rattle.records.specs.Stages.{every}
use Rattle.records.proofs.Tests.{both_left, both_right}
use Rattle.read_order.specs.Order.{next, order}
use Rattle.read_order.specs.Taking.{Numbers, taken_to, taken, fault}
use Rattle.read_order.specs.Run.{after}

-- what holds of each row of a table, and of none, holds of row k
each_row : (t : List ℕ → Bool) (rows : List (List ℕ)) → t [] ≡ true → every t rows ≡ true → (k : ℕ) → t (get_or rows k []) ≡ true
unfolding every
each_row t [] n e k = n
each_row t (r ∷ rows) n e zero = both_left (t r) (every t rows) e
each_row t (r ∷ rows) n e (suc k) = each_row t rows n (both_right (t r) (every t rows) e) k

-- no line leads on from a line at fault
pub next-none : (kind : ℕ) → next 0 kind ≡ 0
unfolding next every
next-none kind = eqb-true (get_or (get_or order kind []) 0 0) 0 (each_row (λ (r : List ℕ). eqb (get_or r 0 0) 0) order refl refl kind)

-- there are nine of what was read so far
each_most : (row : List ℕ) → every (λ (x : ℕ). leb x 8) row ≡ true → (p : ℕ) → get_or row p 0 ≤ 8
unfolding every
each_most [] e p = omega arith
each_most (x ∷ row) e zero = leb-true x 8 (both_left (leb x 8) _ e)
each_most (x ∷ row) e (suc p) = each_most row (both_right (leb x 8) _ e) p

next-most : (phase kind : ℕ) → next phase kind ≤ 8
unfolding next every
next-most phase kind = each_most (get_or order kind []) (each_row (λ (r : List ℕ). every (λ (x : ℕ). leb x 8) r) order refl refl kind) phase

module _ {L : Type 0} (kind : L → ℕ) (values : L → List ℕ) where
  pub phases : (r : Numbers) (ls : List L) → r.phase ≤ 8 → (after kind values r ls).phase ≤ 8
  unfolding after taken taken_to
  phases r [] h = h
  phases r (l ∷ ls) h = phases (taken r (kind l) (values l)) ls (next-most r.phase (kind l))

  stays : (r : Numbers) (ls : List L) (n : ℕ) → r.phase ≡ 0 → r.line ≡ n → fault (after kind values r ls) ≡ n
  unfolding after taken taken_to fault
  stays r [] n p e = rw p e
  stays r (l ∷ ls) n p e =
      let q : next r.phase (kind l) ≡ 0 = rw p (next-none (kind l)) in
      stays (taken r (kind l) (values l)) ls n q (rw q (add-zero r.line ∙ e))

  -- whatever comes behind a line at fault
  pub at-fault_for_good : (r : Numbers) (ls : List L) → r.phase ≡ 0 → fault (after kind values r ls) ≡ r.line
  at-fault_for_good r ls p = stays r ls r.line p refl

-- kinds of lines that make an input right, from each of what was read so far
abbrev ways : List (List ℕ)
ways = [] ∷ (1 ∷ 2 ∷ 6 ∷ []) ∷ (2 ∷ 6 ∷ []) ∷ (6 ∷ []) ∷ (8 ∷ []) ∷ (6 ∷ []) ∷ (8 ∷ []) ∷ (6 ∷ []) ∷ [] ∷ []

abbrev pub way : ℕ → List ℕ
way phase = get_or ways phase []

abbrev goes : Numbers → List ℕ → Numbers
goes r kinds = after (λ (k : ℕ). k) (λ (k : ℕ). []) r kinds

leads : ℕ → List ℕ → ℕ
leads p [] = p
leads p (k ∷ ks) = leads (next p k) ks

goes_phase : (r : Numbers) (ks : List ℕ) → (goes r ks).phase ≡ leads r.phase ks
unfolding after taken taken_to leads
goes_phase r [] = refl
goes_phase r (k ∷ ks) = goes_phase (taken r k []) ks

-- each way leads to a request
led : (p : ℕ) → 0 < p → p ≤ 8 → leads p (way p) ≡ 8
unfolding next leads
led zero h m = absurd (omega arith)
led (suc zero) h m = refl
led (suc (suc zero)) h m = refl
led (suc (suc (suc zero))) h m = refl
led (suc (suc (suc (suc zero)))) h m = refl
led (suc (suc (suc (suc (suc zero))))) h m = refl
led (suc (suc (suc (suc (suc (suc zero)))))) h m = refl
led (suc (suc (suc (suc (suc (suc (suc zero))))))) h m = refl
led (suc (suc (suc (suc (suc (suc (suc (suc zero)))))))) h m = refl
led (suc (suc (suc (suc (suc (suc (suc (suc (suc p))))))))) h m = absurd (omega arith)

-- where no line was at fault, lines of these kinds make the input right
pub right_so_far : (r : Numbers) → 0 < r.phase → r.phase ≤ 8 → fault (goes r (way r.phase)) ≡ 0
unfolding fault
right_so_far r h m =
    let e : (goes r (way r.phase)).phase ≡ 8 = goes_phase r (way r.phase) ∙ led r.phase h m in
    rw e refl
