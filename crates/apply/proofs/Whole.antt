-- Applying as a whole: refused, or both changed. Assumes nothing.
use mathlib.Core.Path.{◌≡◌, refl, ap, ap₂, ◌∙◌, sym}
use mathlib.Core.Bool.{Bool, true, false, ◌&&◌, not}
use mathlib.Core.List.{List, ◌++◌}
use Prim.Native.Nat.{ℕ, zero, suc, ◌*◌, ◌/◌, ◌≤◌}
use native.Mathlib.Omega.{arith}
use lib.Dec.{leb}
use lib.IntN.{ℤ, pos}
use lib.ListN.{length, take, replicate, length-replicate, get_or-replicate}
use borrow.Author.Tests.{leb-true}
use Rattle.std.specs.Prelude.{Ok, Err, count_by}
use Rattle.records.specs.declared.refusal.Refusal.{Refusal}
use Rattle.records.specs.Refusals.{number as refusal_number}
use Rattle.records.specs.Stages.{unless, first, stage, every}
use Rattle.records.proofs.Tests.{first-zero, unless-zero, both_left, both_right}
use Rattle.item.specs.Items.{Fields, encode}
use Rattle.table.specs.declared.Row.{Row}
use Rattle.table.specs.Rows.{rows, table_kept, row_numbers}
use Rattle.lists.specs.Lists.{list_kept, whole_sectors}
use Rattle.plan_def.specs.Plans.{Plan}
use Rattle.plan_def.specs.Outputs.{laid}
use Rattle.plan_def.specs.ReadBack.{refs_in, adds_in}
use Rattle.apply_def.specs.declared.Parts.{Parts as Slices}
use Rattle.apply_def.specs.Apply.{list_after, rows_after, row_missing, net_sound, Applying, applied, refusal, or_applied}
use Rattle.apply_def.specs.Lent.{items_in, rows_in, lent, plan_lent}
use Rattle.apply_def.proofs.Whys.{positive}
use Rattle.apply_walk.specs.Checks.{items_now as listNow}
use Rattle.apply_counts.specs.declared.Marked.{Marked}
use Rattle.apply_counts.specs.Counts.{Counted, Zeros, nets}
use Rattle.apply_rows.specs.Places.{stay, rows_now as tableNow}
use Rattle.apply_rows.proofs.Rows.{rows-first}
use Rattle.apply_refusals.specs.declared.Sizes.{Sizes}
use Rattle.apply_refusals.specs.declared.Target.{Target}
use Rattle.apply_refusals.specs.Stages.{result_refusal, counted_refusal, Stands}
use Rattle.apply_refusals.proofs.Results.{items_now_lem, rows_now_lem, nets_fit, result_staged}
use Rattle.apply.specs.Outcomes.{done, Applied, MetApplyingWith}
use Rattle.apply.specs.Raw.{ReadyFor, apply_to}
use Rattle.apply.proofs.Accepted.{lent_facts, lent_rows, apply-is}

-- a refusal that is due
pub met-refused : (o a : Applying) (e : Refusal) (list table : List ℕ) → o ≡ or_applied (refusal_number e) a → MetApplyingWith o (Err e) list list table table
met-refused o a e list table q = rw (q ∙ refused (refusal_number e) (positive e)) (record { answer = refl; bytes = refl; numbers = refl })
  where
    refused : (n : ℕ) → (n ≡ 0 → ⊥) → or_applied n a ≡ refusal n
    refused zero h = absurd (h refl)
    refused (suc n) h = refl

-- ---- a plan's lines are counted, and what is refused then

module _
    (t : Target) (list table : List ℕ) (q : Slices) (r : ReadyFor t list table q) (m : Marked) (missing : ℕ) (same : rows m.table.numbers.now ≡ rows_in t.sizes.rows table)
    (lines : missing ≡ stage (row_missing (rows_in t.sizes.rows table)) (refs_in q.shares.now ++ (refs_in q.unrefs.now ++ refs_in q.releases.now)))
    (counted : Counted (plan_lent (lent q)) (rows_in t.sizes.rows table) m.counts.changes.now m.counts.gone.now)
    (room : Sizes) (fit : room ≡ record { items = length list / 70; rows = length table / 5 }) (why : ℕ)
    (told : why ≡ counted_refusal t.sector t.number room.items room.rows (take (t.sizes.items * 70) list) q.edits.now q.adds.now (rows m.table.numbers.now) m.counts.changes.now m.counts.gone.now (count_by not (take m.counts.rows m.counts.gone.now)) missing) where
  abbrev p : Plan
  p = plan_lent (lent q)

  abbrev fs : List Fields
  fs = items_in t.sizes.items list

  abbrev rs : List Row
  rs = rows_in t.sizes.rows table

  abbrev old : List Row
  old = take m.counts.rows (rows table)

  abbrev ds : List ℤ
  ds = m.counts.changes.now

  abbrev gs : List Bool
  gs = m.counts.gone.now

  abbrev due : ℕ
  due = result_refusal t.sector t.number t.generation (length list / 70) (length table / 5) fs rs p

  abbrev rule_items : List Fields
  rule_items = list_after p fs

  abbrev rule_rows : List Row
  rule_rows = rows_after t.generation p rs

  -- the arrays have a place for each row
  long : length rs ≡ m.counts.rows
  long = ap length (sym same) ∙ m.each_row

  hd : length rs ≤ length ds
  hd = omega (arith, long, m.counts.each_changes)

  hg : length rs ≤ length gs
  hg = omega (arith, long, m.counts.each_gone)

  counted_rows : m.counts.rows ≡ t.sizes.rows
  counted_rows = sym long ∙ lent_rows t.number t.sector t.sizes.items t.sizes.rows list table q.edits.now r

  -- the first rows
  same_rows : rs ≡ old
  same_rows = rows-first t.sizes.rows table r.inside.tabled ∙ ap (λ (n : ℕ). take n (rows table)) (sym counted_rows)

  tabled : table_kept rs ≡ true
  tabled = (lent_facts t.number t.sector t.sizes.items t.sizes.rows list table q.edits.now r).tabled

  stands : Stands q.edits.now q.adds.now rs ds gs missing p
  stands = record { edited = refl; added = refl; counted = counted; lines = lines }

  hw : why ≡ due
  hw =
      told
      ∙ ap₂ (λ (z : Sizes) (l : List Row). counted_refusal t.sector t.number z.items z.rows (take (t.sizes.items * 70) list) q.edits.now q.adds.now l ds gs (count_by not (take m.counts.rows gs)) missing) fit same
      ∙ result_staged q.edits.now q.adds.now rs ds gs missing p stands t.sector t.number t.generation (take (t.sizes.items * 70) list) hd hg (length list / 70) (length table / 5) m.counts.rows (sym long) tabled

  apply_now : apply_to t list table p ≡ or_applied why (applied rule_items rule_rows)
  apply_now = apply-is t.number t.sector t.sizes.items t.sizes.rows list table q.edits.now r t.generation (length list / 70) (length table / 5) p refl ∙ ap (λ (x : ℕ). or_applied x (applied rule_items rule_rows)) (sym hw)

  pub result_refused : (e : Refusal) → why ≡ refusal_number e → MetApplyingWith (apply_to t list table p) (Err e) list list table table
  result_refused e h = met-refused (apply_to t list table p) (applied rule_items rule_rows) e list table (apply_now ∙ ap (λ (x : ℕ). or_applied x (applied rule_items rule_rows)) h)

  -- the result as the code has it
  abbrev items_then : List Fields
  items_then = listNow (take (t.sizes.items * 70) list) q.edits.now

  abbrev rows_then : List Row
  rows_then = tableNow t.generation (adds_in q.adds.now) (stay ds gs old)

  list_now : rule_items ≡ items_then
  list_now = items_now_lem q.edits.now q.adds.now rs ds gs missing p stands t.sector t.number t.generation (take (t.sizes.items * 70) list) hd hg

  table_now : rule_rows ≡ rows_then
  table_now = rows_now_lem q.edits.now q.adds.now rs ds gs missing p stands t.sector t.number t.generation (take (t.sizes.items * 70) list) hd hg ∙ ap (λ (x : List Row). tableNow t.generation (adds_in q.adds.now) (stay ds gs x)) same_rows

  module _ (z : why ≡ 0) where
    none : due ≡ 0
    none = sym hw ∙ z

    behind : first (unless (every (net_sound p) rs) 3) (first (unless (list_kept t.number rule_items && every (whole_sectors t.sector) rule_items) 2) (first (unless (table_kept rule_rows) 3) (unless (leb (length rule_items) (length list / 70) && leb (length rule_rows) (length table / 5)) 27))) ≡ 0
    behind = (first-zero (stage (row_missing rs) (p.shares ++ (p.unrefs ++ p.releases))) _ (first-zero (unless (leb (length rule_items) 65536 && leb (length rule_rows) 65536) 1) _ none).1).1

    nets_due : (unless (every (net_sound p) rs) 3 ≡ 0) × (first (unless (list_kept t.number rule_items && every (whole_sectors t.sector) rule_items) 2) (first (unless (table_kept rule_rows) 3) (unless (leb (length rule_items) (length list / 70) && leb (length rule_rows) (length table / 5)) 27)) ≡ 0)
    nets_due = first-zero (unless (every (net_sound p) rs) 3) _ behind

    last : (unless (table_kept rule_rows) 3 ≡ 0) × (unless (leb (length rule_items) (length list / 70) && leb (length rule_rows) (length table / 5)) 27 ≡ 0)
    last = first-zero (unless (table_kept rule_rows) 3) _ (first-zero (unless (list_kept t.number rule_items && every (whole_sectors t.sector) rule_items) 2) _ nets_due.1).1

    roomy : (leb (length rule_items) (length list / 70) && leb (length rule_rows) (length table / 5)) ≡ true
    roomy = unless-zero (leb (length rule_items) (length list / 70) && leb (length rule_rows) (length table / 5)) 27 last.1 (λ e. omega arith)

    -- what both changes ask
    pub items_fit : length items_then ≤ length list / 70
    items_fit = leb-true (length items_then) (length list / 70) (rw (sym list_now) (both_left (leb (length rule_items) (length list / 70)) (leb (length rule_rows) (length table / 5)) roomy))

    pub rows_fit : (m.counts.rows ≤ length table / 5) × (nets ds old ≡ true) × (table_kept rows_then ≡ true) × (length rows_then ≤ length table / 5)
    rows_fit = (
      omega (arith, counted_rows, r.inside.tabled),
      ap (nets ds) (sym same_rows)
          ∙ nets_fit q.edits.now q.adds.now rs ds gs missing p stands t.sector t.number t.generation (take (t.sizes.items * 70) list) hd hg
          ∙ unless-zero (every (net_sound p) rs) 3 nets_due.0 (λ e. omega arith),
      ap table_kept (sym table_now) ∙ unless-zero (table_kept rule_rows) 3 last.0 (λ e. omega arith),
      leb-true (length rows_then) (length table / 5) (rw (sym table_now) (both_right (leb (length rule_items) (length list / 70)) (leb (length rule_rows) (length table / 5)) roomy)),
    )

    pub result_done : (a b : ℕ) (list' table' : List ℕ) → (a ≡ length items_then) × (list' ≡ laid encode items_then list) → (b ≡ length rows_then) × (table' ≡ laid row_numbers rows_then table) → MetApplyingWith (apply_to t list table p) (Ok (record { items = a; rows = b })) list list' table table'
    result_done a b list' table' l k =
        rw (apply_now ∙ ap (λ (x : ℕ). or_applied x (applied rule_items rule_rows)) z)
        (record {
          answer = ap₂ (λ (x y : ℕ). done x y) (l.0 ∙ ap length (sym list_now)) (k.0 ∙ ap length (sym table_now));
          bytes = l.1 ∙ ap (λ (x : List Fields). laid encode x list) (sym list_now);
          numbers = k.1 ∙ ap (λ (x : List Row). laid row_numbers x table) (sym table_now);
        })

-- ---- arrays of zeros

pub zeroed : (n k : ℕ) → k ≤ n → Zeros k (replicate n (pos 0)) (replicate n false)
zeroed n k h =
    record {
      moves = rw (length-replicate {A = ℤ} n (pos 0)) h;
      leaves = rw (length-replicate {A = Bool} n false) h;
      zero = λ y m. (get_or-replicate {A = ℤ} n y (pos 0) (pos 0) (omega arith), get_or-replicate {A = Bool} n y false false (omega arith));
    }

-- what is met by a definition that says the same
pub met-same : (o o' : Applying) (r : Applied) (list list' table table' : List ℕ) → o ≡ o' → MetApplyingWith o' r list list' table table' → MetApplyingWith o r list list' table table'
met-same o o' r list list' table table' e m = rw e m
