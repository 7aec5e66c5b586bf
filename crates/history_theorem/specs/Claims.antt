-- Demand 3, as one claim about the whole list of calls, and what applying may refuse of a call's plan.
use Rattle.std.specs.Prelude.{Bool, true, cond, ◌&&◌, not, List, [], ◌∷◌, ◌≡◌, ℕ, ◌+◌, ◌-◌, ◌≤◌, ◌<◌, ◌^◌, eqb, ltb}
use Rattle.records.specs.Stages.{unless, first, every}
use Rattle.records.specs.Select.{count}
use Rattle.item.specs.Items.{Fields}
use Rattle.table.specs.declared.Row.{Row}
use Rattle.table.specs.Rows.{few_rows}
use Rattle.lists.specs.Lists.{few_records, list_kept, well_kept}
use Rattle.cut_def.specs.Mappings.{mapping}
use Rattle.cut_def.specs.Refs.{Ref, same_ref, referring}
use Rattle.plan_def.specs.Plans.{Plan, Add}
use Rattle.apply_def.specs.Apply.{gained, lost, net_sound, list_after, rows_after, apply_refusal}
use Rattle.history_theorem.specs.States.{State, list_of, total, TrueTable}
use Rattle.history_theorem.specs.Calls.{Call, Offsets, Applied, lent_of, changes, origin, run, trace}

-- 1: "lists once well kept still are": each file's list that passed a test passes it still
abbrev pub StayKept : (test : (file : ℕ) → List Fields → Bool) → State → State → Type 0
StayKept test before after = (n : ℕ) → test n (list_of n before.files) ≡ true → test n (list_of n after.files) ≡ true

-- an offset outside what a call may change
abbrev pub Outside : ℕ → List Offsets → Type 0
Outside o [] = Unit {0}
Outside o (s ∷ ss) = (s.from ≤ o → o < s.to → ⊥) × Outside o ss

-- 2: "each plan applied has kept extent and position at all offsets outside both the changed range, widened to sectors, and
-- the old end's sector"; "other files keep all". How the bytes there are read (kind, compression, encoding) is kept too
pub record MappingsKept (sector : ℕ) (a : Applied) : Type 0 where
  pub outside : (o : ℕ) → Outside o (changes sector a.call) → mapping o (list_of (lent_of a.call).number a.after.files) ≡ mapping (origin a.call o) (list_of (lent_of a.call).number a.before.files)
  pub others : (n : ℕ) → (n ≡ (lent_of a.call).number → ⊥) → list_of n a.after.files ≡ list_of n a.before.files

-- for each plan applied
abbrev pub Each : (Applied → Type 0) → List Applied → Type 0
Each P [] = Unit {0}
Each P (a ∷ l) = P a × Each P l

-- lines of all plans applied to a file: "A plan's lines count for the file it changes, an add with its key as reference
-- offset"
abbrev pub add_ref : Add → Ref
add_ref a = record { start = a.start; offset = a.key }

abbrev pub plus : Ref → Plan → ℕ
plus r p = count (λ (q : Ref). same_ref q r) p.shares + count (λ (a : Add). same_ref (add_ref a) r) p.adds

abbrev pub minus : Ref → Plan → ℕ
minus r p = count (λ (q : Ref). same_ref q r) p.unrefs + count (λ (q : Ref). same_ref q r) p.releases

unfoldable pub sum_for : (Plan → ℕ) → ℕ → List Applied → ℕ
sum_for f n [] = 0
sum_for f n (a ∷ l) = cond (eqb (lent_of a.call).number n) (f a.plan) 0 + sum_for f n l

-- 3: "for each file, extent and reference offset, the file's items naming them are as many as in the starting lists, plus
-- shares and new extents, minus unrefs and releases, of all plans applied"
abbrev pub Balanced : State → State → List Applied → Type 0
Balanced before after l =
    (n : ℕ) (r : Ref)
    → referring r (list_of n after.files) + sum_for (minus r) n l ≡ referring r (list_of n before.files) + sum_for (plus r) n l

-- "and each of these released an extent exactly when it brought that total to zero"
abbrev pub release_lines : ℕ → Plan → ℕ
release_lines start p = count (λ (q : Ref). eqb q.start start) p.releases

pub record ReleasedAtZero (a : Applied) : Type 0 where
  pub only : (start : ℕ) → 0 < release_lines start a.plan → (0 < total start a.before.files) × (total start a.after.files ≡ 0)
  pub always : (start : ℕ) → 0 < total start a.before.files → total start a.after.files ≡ 0 → 0 < release_lines start a.plan

-- "no leaf was marked shared": "No leaf is marked shared if no shared byte lent is ever 1."
abbrev pub unmarked : Call → Bool
unmarked c = every (λ (b : ℕ). not (eqb b 1)) (lent_of c).shared

pub record CountsTrue (before after : State) (l : List Applied) : Type 0 where
  pub balanced : Balanced before after l
  pub released : Each ReleasedAtZero l
  pub table : TrueTable after

-- the claim; lists that were well kept but for their sectors stay so, too
pub record Demand3 (sector : ℕ) (s : State) (cs : List Call) : Type 0 where
  pub kept : StayKept (well_kept sector) s (run sector s cs)
  pub listed : StayKept list_kept s (run sector s cs)
  pub mappings : Each (MappingsKept sector) (trace sector s cs)
  pub counts : TrueTable s → every unmarked cs ≡ true → CountsTrue s (run sector s cs) (trace sector s cs)

-- ---- applying

-- a net count is not over 2^64 − 1
abbrev pub count_fits : Plan → Row → Bool
count_fits p row = ltb (row.references + gained p row.start - lost p row.start) (2 ^ 64)

module _ (sector : ℕ) (s : State) (c : Call) (p : Plan) where
  abbrev pub refused_with : ℕ
  refused_with = apply_refusal sector (lent_of c).number ((lent_of c).generation + 1) (list_of (lent_of c).number s.files) s.rows p

  -- "1 if the result is over-long"
  abbrev pub over_long : ℕ
  over_long =
      unless
      (few_records (list_after p (list_of (lent_of c).number s.files)) && few_rows (rows_after ((lent_of c).generation + 1) p s.rows))
      1

  -- of a call's plan applying refuses, beside too little room, only an over-long result and a net count that leaves 64 bits,
  -- with a true table only one over 2^64 − 1: no list, table, row or result that is broken
  pub record RefusedOnly : Type 0 where
    pub any : refused_with ≡ first over_long (unless (every (net_sound p) s.rows) 3)
    pub counted : TrueTable s → refused_with ≡ first over_long (unless (every (count_fits p) s.rows) 3)
