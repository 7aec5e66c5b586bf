-- What an operation shows of each plan that it makes, so that the theorem over every list of calls holds of it: an
-- operation that is added later joins by these laws. Assumes nothing.
use mathlib.Core.Bool.{Bool, true}
use mathlib.Core.List.{List, Memᴰ}
use mathlib.Core.Path.{◌≡◌}
use Prim.Native.Nat.{ℕ, ◌+◌, ◌<◌}
use Rattle.std.specs.Prelude.{None}
use Rattle.records.specs.Select.{count}
use Rattle.item.specs.Items.{Fields}
use Rattle.table.specs.Rows.{find}
use Rattle.cut_def.specs.Mappings.{mapping}
use Rattle.cut_def.specs.Pieces.{items_of}
use Rattle.cut_def.specs.Refs.{Ref, ref_passes}
use Rattle.cut_def.specs.Edits.{items_after}
use Rattle.plan_def.specs.Plans.{Plan, Add}
use Rattle.apply_def.specs.Apply.{lines_at}
use Rattle.history_theorem.specs.States.{State, list_of, with_list, total, TrueTable}
use Rattle.history_theorem.specs.Calls.{Call, lent_of, changes, origin}
use Rattle.history_theorem.specs.Claims.{Outside, add_ref, release_lines, unmarked}

-- the changed file's items before a plan and after it
abbrev pub items_before : State → Call → List Fields
items_before s c = list_of (lent_of c).number s.files

abbrev pub items_now : State → Call → Plan → List Fields
items_now s c p = items_of (items_after (items_before s c) p.edits)

-- an extent's total after a plan
abbrev pub total_now : State → Call → Plan → ℕ → ℕ
total_now s c p start = total start (with_list (lent_of c).number (items_now s c p) s.files)

pub record Lawful (sector : ℕ) (s : State) (c : Call) (p : Plan) : Type 0 where
  -- outside what the call may change, every offset shows what its origin showed
  pub mappings : (o : ℕ) → Outside o (changes sector c) → mapping o (items_now s c p) ≡ mapping (origin c o) (items_before s c)
  -- for every test on references: items + unrefs + releases = items before + shares + adds
  pub balance :
      (q : Ref → Bool)
      → count (ref_passes q) (items_now s c p) + (count q p.unrefs + count q p.releases)
      ≡ count (ref_passes q) (items_before s c) + (count q p.shares + count (λ (a : Add). q (add_ref a)) p.adds)
  -- a new extent has no row yet
  pub fresh : (a : Add) → Memᴰ a p.adds → find a.start s.rows ≡ None
  -- what is shared was named before
  pub shared : (start : ℕ) → 0 < lines_at start p.shares → 0 < total start s.files
  -- with a true table and no leaf marked shared: released exactly when the total falls to zero
  pub only : TrueTable s → unmarked c ≡ true → (start : ℕ) → 0 < release_lines start p → (0 < total start s.files) × (total_now s c p start ≡ 0)
  pub always : TrueTable s → unmarked c ≡ true → (start : ℕ) → 0 < total start s.files → total_now s c p start ≡ 0 → 0 < release_lines start p
