-- What applying can still refuse of a plan that an operation made: 1 for an over-long result, and 3 for a net count; with a
-- true table only for a count over 2^64 - 1. Assumes nothing.
use mathlib.Core.Path.{◌≡◌, refl, ap, ◌∙◌}
use mathlib.Core.Bool.{Bool, true, ◌&&◌}
use mathlib.Core.List.{List, [], ◌∷◌, Memᴰ}
use Prim.Native.Nat.{ℕ, ◌+◌, ◌<◌, ◌≤◌}
use native.Mathlib.Omega.{arith}
use native.Mathlib.Decide.{dec_lt}
use lib.Dec.{eqb}
use borrow.Author.Tests.{le-leb, eqb-true}
use Rattle.std.specs.Prelude.{Some, None}
use Rattle.records.specs.Stages.{every}
use Rattle.records.proofs.Counts.{count-some}
use Rattle.table.specs.declared.Row.{Row}
use Rattle.table.specs.Rows.{table_kept, find}
use Rattle.cut_def.specs.Refs.{Ref}
use Rattle.plan_def.specs.Plans.{Plan, Add}
use Rattle.apply_def.specs.Apply.{gained, lost, net_sound}
use Rattle.apply_def.proofs.Rows.{kept_mem, adds_at}
use Rattle.history_theorem.specs.States.{State, total, TrueTable}
use Rattle.history_theorem.specs.Calls.{Call, lent_of}
use Rattle.history_theorem.specs.Claims.{count_fits}
use Rattle.history_theorem.proofs.Lawful.{Lawful}
use Rattle.history_theorem.proofs.Files.{total-one}

module _ (sector : ℕ) (s : State) (c : Call) (p : Plan) (law : Lawful sector s c p) (t : TrueTable s) (kept : table_kept s.rows ≡ true) where
  -- an extent with a row has no add
  no_add : (start k : ℕ) (row : Row) → find start s.rows ≡ Some (k, row) → adds_at start p ≡ 0
  no_add start k row e = go (dec_lt 0 (adds_at start p))
    where
      go : Dec (0 < adds_at start p) → adds_at start p ≡ 0
      go (no n) = omega arith
      go (yes n) =
          let a = count-some (λ (a : Add). eqb a.start start) p.adds n in
          let m : find start s.rows ≡ None = rw (eqb-true a.0.start start a.2) at (law.fresh a.0 a.1) in
          let z : ◌≡◌ {A = ℕ} 0 1 = cc in
          absurd (omega arith)

  -- no count falls below zero
  row_above : (k : ℕ) (row : Row) → find row.start s.rows ≡ Some (k, row) → lost p row.start ≤ row.references + gained p row.start
  row_above k row e =
      let st : ℕ = row.start in
      let b = law.balance (λ (q : Ref). eqb q.start st) in
      let n = no_add st k row e in
      let o = total-one (lent_of c).number st s.files in
      elim (dec_lt 0 (lost p st)) [
        | no z ↦ omega arith
        | yes z ↦
            (let some : 0 < total st s.files = elim (dec_lt 0 (gained p st)) [ yes g ↦ law.shared st g | no g ↦ omega arith ] in
            let r = t st some in
            let found : ◌≡◌ {A = ℕ × Row} (k, row) (r.0, r.1) = cc (e, r.2) in
            let same : row ≡ r.1 = ap (λ (o : ℕ × Row). o.1) found in
            let refs : row.references ≡ total st s.files = ap (λ (x : Row). x.references) same ∙ r.3 in
            omega arith)
      ]

  nets : (rs : List Row) → ((row : Row) → Memᴰ row rs → Memᴰ row s.rows) → every (net_sound p) rs ≡ every (count_fits p) rs
  unfolding every
  nets [] f = refl
  nets (row ∷ rs) f =
      let m = kept_mem s.rows kept row (f row (Memᴰ.head refl)) in
      rw (le-leb (lost p row.start) (row.references + gained p row.start) (row_above m.0 row m.1)) (ap (λ (b : Bool). count_fits p row && b) (nets rs (λ r x. f r (Memᴰ.tail x))))

  -- with a true table a net count leaves 64 bits only upwards
  pub nets_above : every (net_sound p) s.rows ≡ every (count_fits p) s.rows
  nets_above = nets s.rows (λ row m. m)
