-- Refusals of the result, from what was counted by row. Assumes nothing.
use mathlib.Core.Path.{◌≡◌, ap, ap₂, ◌∙◌, sym}
use mathlib.Core.Bool.{Bool, true, ◌&&◌, not}
use mathlib.Core.List.{List, ◌++◌, map}
use Prim.Native.Nat.{ℕ, ◌+◌, ◌/◌, ◌≤◌}
use native.Mathlib.Nat.{add_comm}
use native.Mathlib.Omega.{arith}
use lib.Dec.{leb}
use lib.IntN.{ℤ}
use lib.ListN.{length, take, length-take, length-map}
use Rattle.std.specs.Prelude.{count_by}
use Rattle.std.proofs.lemmas.List.Sums.{count_by-le-length}
use Rattle.records.specs.Select.{keep}
use Rattle.records.specs.Stages.{unless, first, stage, every}
use Rattle.records.proofs.Loops.{records-length}
use Rattle.item.specs.Items.{Fields, items}
use Rattle.table.specs.declared.Row.{Row}
use Rattle.table.specs.Rows.{table_kept}
use Rattle.cut_def.specs.Pieces.{items_of}
use Rattle.cut_def.specs.Edits.{Edit, items_after}
use Rattle.plan_def.specs.Plans.{Plan, Add}
use Rattle.apply_def.specs.Apply.{goes, moved, row_of_add, insert_rows, rows_after, row_missing, net_sound, list_after}
use Rattle.plan_def.specs.ReadBack.{add_in, adds_in}
use Rattle.apply_def.proofs.Table.{left-kept}
use Rattle.apply_walk.specs.Checks.{items_now as listNow, result_sound}
use Rattle.apply_counts.specs.Counts.{nets}
use Rattle.apply_counts.proofs.Nets.{nets_sound, stays_many}
use Rattle.apply_rows.specs.Places.{stay, rows_now as tableNow}
use Rattle.apply_rows.proofs.Stays.{stays_moved}
use Rattle.apply_rows.proofs.Placings.{now_long}
use Rattle.apply_clear.specs.Clear.{adds_fit}
use Rattle.apply_clear.proofs.Kept.{fits_kept}
use Rattle.apply_refusals.specs.Stages.{result_refusal, counted_refusal, Stands}

module _ (edits adds : List ℕ) (rs : List Row) (ds : List ℤ) (gs : List Bool) (missing : ℕ) (p : Plan) (s : Stands edits adds rs ds gs missing p) (sector number generation : ℕ) (list : List ℕ) (hd : length rs ≤ length ds) (hg : length rs ≤ length gs) where
  abbrev fs : List Fields
  fs = items list

  abbrev staying : List Row
  staying = stay ds gs rs

  abbrev rule_items : List Fields
  rule_items = list_after p fs

  abbrev rule_rows : List Row
  rule_rows = rows_after generation p rs

  stays : staying ≡ map (moved p) (keep (λ (r : Row). not (goes p r)) rs)
  stays = stays_moved p rs ds gs hd hg s.counted

  -- the result as the code has it
  pub items_now_lem : rule_items ≡ listNow list edits
  items_now_lem = ap (λ (es : List Edit). items_of (items_after fs es)) s.edited

  pub rows_now_lem : rule_rows ≡ tableNow generation (adds_in adds) staying
  unfolding rows_after
  rows_now_lem = ap₂ (λ (x : List Add) (y : List Row). insert_rows (map (row_of_add generation) x) y) s.added (sym stays)

  rows_fit : table_kept rs ≡ true → adds_fit gs rs (adds_in adds) ≡ table_kept rule_rows
  rows_fit k = fits_kept generation ds gs rs hd hg (rw stays (left-kept generation p rs k)) (adds_in adds) ∙ ap table_kept (sym rows_now_lem)

  pub nets_fit : nets ds rs ≡ every (net_sound p) rs
  nets_fit = nets_sound p rs ds gs s.counted hd

  -- how many rows there are
  rows_long : count_by not (take (length rs) gs) + length adds / 3 ≡ length rule_rows
  rows_long =
      let y : length staying ≡ count_by not (take (length rs) gs) = ap length stays ∙ length-map (keep (λ (r : Row). not (goes p r)) rs) (moved p) ∙ sym (stays_many p rs ds gs s.counted hg) in
      sym (ap length rows_now_lem ∙ now_long generation (adds_in adds) staying ∙ ap₂ (λ (a b : ℕ). a + b) (records-length add_in 3 adds) y ∙ add_comm (length adds / 3) (count_by not (take (length rs) gs)))

  -- the stages of the definition are those that the code has
  pub result_staged : (room space n : ℕ) → n ≡ length rs → table_kept rs ≡ true
      → counted_refusal sector number room space list edits adds rs ds gs (count_by not (take n gs)) missing ≡ result_refusal sector number generation room space fs rs p
  result_staged room space n e k =
      let m : count_by not (take n gs) + length adds / 3 ≡ length rule_rows = ap (λ (j : ℕ). count_by not (take j gs) + length adds / 3) e ∙ rows_long in
      ap₂ (λ (x : List Fields) (b : ℕ). first (unless (leb (length x) 65536 && leb b 65536) 1) (first missing (first (unless (nets ds rs) 3) (first (unless (result_sound number sector x) 2) (first (unless (adds_fit gs rs (adds_in adds)) 3) (unless (leb (length x) room && leb b space) 27)))))) (sym items_now_lem) m
      ∙ ap₂ (λ (a : ℕ) (b : Bool). first over (first a (first (unless b 3) (first (unless (result_sound number sector rule_items) 2) (first (unless (adds_fit gs rs (adds_in adds)) 3) last))))) s.lines nets_fit
      ∙ ap (λ (b : Bool). first over (first (stage (row_missing rs) (p.shares ++ (p.unrefs ++ p.releases))) (first (unless (every (net_sound p) rs) 3) (first (unless (result_sound number sector rule_items) 2) (first (unless b 3) last))))) (rows_fit k)
    where
      over : ℕ
      over = unless (leb (length rule_items) 65536 && leb (length rule_rows) 65536) 1

      last : ℕ
      last = unless (leb (length rule_items) room && leb (length rule_rows) space) 27

-- what the code counts is not more than the rows
pub staying_few : (k : ℕ) (gs : List Bool) (z : ℕ) → z ≡ count_by not (take k gs) → z ≤ k
staying_few k gs z e = omega (arith, count_by-le-length not (take k gs), length-take k gs)
