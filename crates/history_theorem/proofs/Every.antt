-- Demand 3 over every list of calls, from the laws that every planned call obeys. Assumes nothing.
use mathlib.Core.Path.{◌≡◌, refl, sym}
use mathlib.Core.Bool.{Bool, true, false, cond}
use mathlib.Core.List.{List, [], ◌∷◌}
use Prim.Native.Nat.{ℕ, ◌+◌, ◌<◌}
use native.Mathlib.Omega.{arith}
use native.Mathlib.Decide.{ℕ_discrete, dec_lt}
use lib.Dec.{eqb}
use borrow.Author.Tests.{eqb-true, eqb-false}
use Rattle.std.specs.Prelude.{Some, None}
use Rattle.records.specs.Stages.{every}
use Rattle.records.proofs.Tests.{both_left, both_right}
use Rattle.records.proofs.Counts.{count-some}
use Rattle.item.specs.Items.{Fields}
use Rattle.table.specs.Rows.{Found, find}
use Rattle.table.specs.declared.Row.{Row}
use Rattle.lists.specs.Lists.{list_kept, well_kept}
use Rattle.request.specs.Answers.{Outcome, plan, nothing, refused}
use Rattle.cut_def.specs.Refs.{Ref, same_ref, referring}
use Rattle.plan_def.specs.Plans.{Plan, Add}
use Rattle.apply_def.specs.Apply.{gained, lost, rows_after}
use Rattle.apply_def.proofs.Rows.{Counted, Accepted, apply_cases, adds_at, adds-once, added-counted, moved-counted, missing-counts}
use Rattle.history_theorem.specs.States.{State, list_of, with_list, total, TrueTable}
use Rattle.history_theorem.specs.Calls.{Call, Applied, lent_of, answer_of, after_applying, trace_of, step_of, step_trace, step, run, trace}
use Rattle.history_theorem.specs.Claims.{StayKept, MappingsKept, Each, sum_for, plus, minus, Balanced, release_lines, ReleasedAtZero, unmarked, Demand3}
use Rattle.history_theorem.proofs.Lawful.{items_before, items_now, total_now, Lawful}
use Rattle.history_theorem.proofs.Files.{list_same, list-other, total_with, each_append, sum_append}

-- ---- a call

-- what a call has kept that leaves the state t, with the plans applied l
record Stepped (sector : ℕ) (s : State) (c : Call) (t : State) (l : List Applied) : Type 0 where
  kept : StayKept (well_kept sector) s t
  listed : StayKept list_kept s t
  mappings : Each (MappingsKept sector) l
  balanced : Balanced s t l
  counts : TrueTable s → unmarked c ≡ true → Each ReleasedAtZero l × TrueTable t

-- the state after a plan
abbrev after_plan : State → Call → Plan → State
after_plan s c p = record { files = with_list (lent_of c).number (items_now s c p) s.files; rows = rows_after ((lent_of c).generation + 1) p s.rows }

abbrev plan_applied : State → Call → Plan → Applied
plan_applied s c p = record { call = c; plan = p; before = s; after = after_plan s c p }

abbrev AcceptedOn : ℕ → State → Call → Plan → Type 0
AcceptedOn sector s c p = Accepted sector (lent_of c).number ((lent_of c).generation + 1) (items_before s c) s.rows p

-- what holds if nothing is applied, and of each plan applied, holds of a call
step_cases : (sector : ℕ) (s : State) (c : Call) (P : State → List Applied → Type 0) → P s []
    → ((p : Plan) → answer_of sector s c ≡ plan p → AcceptedOn sector s c p → P (after_plan s c p) (plan_applied s c p ∷ []))
    → P (step sector s c) (step_trace sector s c (answer_of sector s c))
step_cases sector s c P stays moves = go (answer_of sector s c) refl
  where
    go : (o : Outcome Plan) → answer_of sector s c ≡ o → P (step_of sector s c o) (step_trace sector s c o)
    go (plan p) e =
        apply_cases sector (lent_of c).number ((lent_of c).generation + 1) (items_before s c) s.rows p (lent_of c).room_items (lent_of c).room_rows
        (λ a. P (after_applying (lent_of c) s a) (trace_of c s p a)) (λ n. stays) (moves p e)
    go nothing e = stays
    go (refused n) e = stays

-- ---- a plan applied

unfound : {o : Found} {k : ℕ} {row : Row} → o ≡ Some (k, row) → o ≡ None → ⊥
unfound h m = let z : ◌≡◌ {A = ℕ} 0 1 = cc in omega arith

module _ (sector : ℕ) (s : State) (c : Call) (p : Plan) (law : Lawful sector s c p) (accepted : AcceptedOn sector s c p) where
  other-list : (n : ℕ) → (n ≡ (lent_of c).number → ⊥) → list_of n (after_plan s c p).files ≡ list_of n s.files
  other-list n e = list-other (lent_of c).number (items_now s c p) n e s.files

  -- a test that the changed file's new list passes
  stays : (test : ℕ → List Fields → Bool) → test (lent_of c).number (items_now s c p) ≡ true → StayKept test s (after_plan s c p)
  stays test now n h = elim (ℕ_discrete n (lent_of c).number) [ yes e ↦ rw (e, list_same) now | no e ↦ rw (other-list n e) h ]

  plan-mappings : MappingsKept sector (plan_applied s c p)
  plan-mappings = record { outside = λ o h. rw list_same (law.mappings o h); others = other-list }

  plan-balanced : Balanced s (after_plan s c p) (plan_applied s c p ∷ [])
  unfolding sum_for
  plan-balanced n r = go (eqb (lent_of c).number n) refl
    where
      go : (b : Bool) → eqb (lent_of c).number n ≡ b
          → referring r (list_of n (after_plan s c p).files) + (cond b (minus r p) 0 + 0) ≡ referring r (list_of n s.files) + (cond b (plus r p) 0 + 0)
      go true e = rw (← eqb-true (lent_of c).number n e, list_same) (omega (arith, law.balance (λ (q : Ref). same_ref q r)))
      go false e = rw (other-list n (λ x. eqb-false (lent_of c).number n e (sym x))) refl

  -- the total moves by what the plan says
  plan-total : (start : ℕ) → total_now s c p start + lost p start ≡ total start s.files + (gained p start + adds_at start p)
  plan-total start = omega (arith, total_with (lent_of c).number (items_now s c p) start s.files, law.balance (λ (q : Ref). eqb q.start start))

  module _ (t : TrueTable s) (u : unmarked c ≡ true) where
    module _ (start : ℕ) (h : 0 < total_now s c p start) where
      -- an extent that no add makes was named before, so it has a row, and no release names it
      old-counted : adds_at start p ≡ 0 → Counted start (total_now s c p start) (after_plan s c p).rows
      old-counted z =
          let e = plan-total start in
          let before : 0 < total start s.files = elim (dec_lt 0 (total start s.files)) [ yes b ↦ b | no b ↦ law.shared start (omega arith) ] in
          let none : release_lines start p ≡ 0 = elim (dec_lt 0 (release_lines start p)) [ yes b ↦ absurd (omega (arith, (law.only t u start b).1)) | no b ↦ omega arith ] in
          let row = t start before in
          let m = moved-counted accepted start row.0 row.1 row.2 none in
          (m.0, m.1, m.2, omega (arith, m.3, row.3))

      -- one that an add makes had no row: no item named it, no line does, and it is added once
      new-counted : 0 < adds_at start p → Counted start (total_now s c p start) (after_plan s c p).rows
      new-counted a =
          let x = count-some (λ (x : Add). eqb x.start start) p.adds a in
          let missing : find start s.rows ≡ None = rw (eqb-true x.0.start start x.2) at (law.fresh x.0 x.1) in
          let before : total start s.files ≡ 0 = elim (dec_lt 0 (total start s.files)) [ yes b ↦ absurd (unfound (t start b).2 missing) | no b ↦ omega arith ] in
          let m = added-counted accepted start a in
          (m.0, m.1, m.2, omega (arith, m.3, plan-total start, adds-once accepted start, missing-counts accepted start missing))

    plan-table : TrueTable (after_plan s c p)
    plan-table start h = elim (dec_lt 0 (adds_at start p)) [ yes a ↦ new-counted start h a | no a ↦ old-counted start h (omega arith) ]

  plan_stepped : Stepped sector s c (after_plan s c p) (plan_applied s c p ∷ [])
  plan_stepped =
      record {
        kept = stays (well_kept sector) accepted.items;
        listed = stays list_kept (both_left (list_kept (lent_of c).number (items_now s c p)) _ accepted.items);
        mappings = (plan-mappings, tt);
        balanced = plan-balanced;
        counts = λ t u. ((record { only = law.only t u; always = law.always t u }, tt), plan-table t u);
      }

-- ---- every list of calls

module _ (sector : ℕ) (laws : (s : State) (c : Call) (p : Plan) → answer_of sector s c ≡ plan p → Lawful sector s c p) where
  stepped : (s : State) (c : Call) → Stepped sector s c (step sector s c) (step_trace sector s c (answer_of sector s c))
  unfolding sum_for
  stepped s c =
      step_cases sector s c (Stepped sector s c) (record { kept = λ n h. h; listed = λ n h. h; mappings = tt; balanced = λ n r. refl; counts = λ t u. (tt, t) })
      (λ p e a. plan_stepped sector s c p (laws s c p e) a)

  -- one call, and then the others
  call-first : (s : State) (c : Call) (cs : List Call) → Demand3 sector (step sector s c) cs → Demand3 sector s (c ∷ cs)
  unfolding run trace every
  call-first s c cs rest =
      let one = stepped s c in
      let l : List Applied = step_trace sector s c (answer_of sector s c) in
      let m : List Applied = trace sector (step sector s c) cs in
      record {
        kept = λ n h. rest.kept n (one.kept n h);
        listed = λ n h. rest.listed n (one.listed n h);
        mappings = each_append (MappingsKept sector) l m one.mappings rest.mappings;
        counts = λ t u.
            let a = one.counts t (both_left (unmarked c) (every unmarked cs) u) in
            let b = rest.counts a.1 (both_right (unmarked c) (every unmarked cs) u) in
            record {
              balanced = λ n r. omega (arith, one.balanced n r, b.balanced n r, sum_append (minus r) n l m, sum_append (plus r) n l m);
              released = each_append ReleasedAtZero l m a.0 b.released;
              table = b.table;
            };
      }

  pub every-list : (s : State) (cs : List Call) → Demand3 sector s cs
  unfolding run trace sum_for
  every-list s [] = record { kept = λ n h. h; listed = λ n h. h; mappings = tt; counts = λ t u. record { balanced = λ n r. refl; released = tt; table = t } }
  every-list s (c ∷ cs) = call-first s c cs (every-list (step sector s c) cs)
