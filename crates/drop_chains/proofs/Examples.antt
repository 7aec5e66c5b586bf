-- Drops chained by row, computed. Assumes nothing.
use mathlib.Core.Path.{◌≡◌, refl}
use mathlib.Core.Bool.{Bool}
use mathlib.Core.List.{List, [], ◌∷◌}
use Prim.Native.Nat.{ℕ, zero, suc, ◌<◌}
use native.Mathlib.Omega.{arith}
use lib.Dec.{eqb}
use lib.ListN.{get_or, drop}
use Rattle.records.specs.Select.{keep}
use Rattle.item.specs.Items.{Fields}
use Rattle.item.proofs.Samples.{sample}
use Rattle.table.specs.declared.Row.{Row}
use Rattle.table.proofs.Samples.{sample_row}
use Rattle.ref_def.specs.Drops.{InLeaf}
use Rattle.drop_chains.specs.Chains.{along, number_behind, From}
use Rattle.drop_chains.specs.Links.{drop_at, Links, Chained}

-- an item of the row's extent that stays, and one that is dropped
abbrev leaf_at : (key : ℕ) → InLeaf
leaf_at key = record { item = sample 1 key 0 4096; shared = 0 }

abbrev both : List InLeaf
both = leaf_at 0 ∷ leaf_at 8192 ∷ []

abbrev table : List Row
table = sample_row 1 ∷ []

abbrev dropped : Fields → Bool
dropped f = eqb f.key 8192

-- what stands at the item that stays is any number: no chain reads it
abbrev chained : Links
chained = record { heads = 2 ∷ []; nexts = 7 ∷ 0 ∷ []; span = record { start = 0; end = 1 } }

pub any_number : Chained dropped table both 0 chained
unfolding number_behind along keep
any_number =
    record {
      few = omega arith;
      row_room = omega arith;
      room = omega arith;
      starts = starts;
      ended = ended;
      those = those;
      low = omega arith;
      high = omega arith;
      before = λ k h. absurd (omega arith);
      behind = λ k h m. absurd (omega arith);
    }
  where
    starts : (k : ℕ) → k < 1 → From 0 2 (get_or (2 ∷ []) k 0)
    starts zero h z = (omega arith, omega arith)
    starts (suc k) h z = absurd (omega arith)

    ended : (k : ℕ) → k < 1 → number_behind (7 ∷ 0 ∷ []) 0 (get_or (2 ∷ []) k 0) both ≡ 0
    ended zero h = refl
    ended (suc k) h = absurd (omega arith)

    those : (k : ℕ) (e : Row) → k < 1 → along (7 ∷ 0 ∷ []) 0 (get_or (2 ∷ []) k 0) both ≡ keep (drop_at dropped (get_or table k e).start) (drop 0 both)
    those zero e h = refl
    those (suc k) e h = absurd (omega arith)
