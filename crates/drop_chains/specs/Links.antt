-- For the code only: drops chained by row: a head for each row, and at each drop the number of the next of its row.
use Rattle.std.specs.Prelude.{Bool, ◌&&◌, List, ◌≡◌, ℕ, ◌+◌, ◌≤◌, ◌<◌, min, max, eqb, length, get_or, set, drop, Some, None}
use Rattle.records.specs.Select.{keep}
use Rattle.item.specs.Items.{Fields}
use Rattle.table.specs.declared.Row.{Row}
use Rattle.table.specs.Rows.{Found}
use Rattle.ref_def.specs.Drops.{InLeaf}
use Rattle.std.specs.declared.ops.Range.{Range}
use Rattle.drop_chains.specs.declared.Chains.{Chains}
use Rattle.drop_chains.specs.Chains.{along, number_behind, From, Onward}

-- the drops among a list's items, where `dropped` says which are, and those of the extent at `start`
abbrev pub drops_by : (Fields → Bool) → List InLeaf → List InLeaf
drops_by dropped ds = keep (λ (d : InLeaf). dropped d.item) ds

abbrev pub drop_at : (Fields → Bool) → ℕ → InLeaf → Bool
drop_at dropped start d = dropped d.item && eqb d.item.extent_start start

-- what the arrays hold, and the range of rows
pub record Links : Type 0 where
  pub heads : List ℕ
  pub nexts : List ℕ
  pub span : Range ℕ

abbrev pub links : Chains → Links
links c = record { heads = c.heads.now; nexts = c.nexts.now; span = c.span }

-- item i put before the chain of the row that was found, if one was
abbrev pub linked : Found → ℕ → Links → Links
linked (Some (k, r)) i l = record { heads = set l.heads k (i + 1); nexts = set l.nexts i (get_or l.heads k 0); span = record { start = min l.span.start k; end = max l.span.end (k + 1) } }
linked None i l = l

-- arrays with room for a chain of each row, and no head
pub record Headless (rs : List Row) (ds : List InLeaf) (l : Links) : Type 0 where
  pub few : length ds ≤ 65536
  pub row_room : length rs ≤ length l.heads
  pub room : length ds ≤ length l.nexts
  pub none : (k : ℕ) → k < length rs → get_or l.heads k 0 ≡ 0
  pub low : l.span.start ≡ length rs
  pub high : l.span.end ≡ 0

-- the same, and nothing at any item
pub record Blank (rs : List Row) (ds : List InLeaf) (l : Links) : Type 0 where
  pub few : length ds ≤ 65536
  pub row_room : length rs ≤ length l.heads
  pub room : length ds ≤ length l.nexts
  pub none : (k : ℕ) → k < length rs → get_or l.heads k 0 ≡ 0
  pub ends : (j : ℕ) → j < length ds → get_or l.nexts j 0 ≡ 0
  pub low : l.span.start ≡ length rs
  pub high : l.span.end ≡ 0

-- the drops from index i on are chained by row, and rows outside the range have none; at other items any number may stand
pub record Chained (dropped : Fields → Bool) (rs : List Row) (ds : List InLeaf) (i : ℕ) (l : Links) : Type 0 where
  pub few : length ds ≤ 65536
  pub row_room : length rs ≤ length l.heads
  pub room : length ds ≤ length l.nexts
  pub starts : (k : ℕ) → k < length rs → From i (length ds) (get_or l.heads k 0)
  pub ended : (k : ℕ) → k < length rs → number_behind l.nexts 0 (get_or l.heads k 0) ds ≡ 0
  pub those : (k : ℕ) (e : Row) → k < length rs → along l.nexts 0 (get_or l.heads k 0) ds ≡ keep (drop_at dropped (get_or rs k e).start) (drop i ds)
  pub low : l.span.start ≤ length rs
  pub high : l.span.end ≤ length rs
  pub before : (k : ℕ) → k < l.span.start → get_or l.heads k 0 ≡ 0
  pub behind : (k : ℕ) → l.span.end ≤ k → k < length rs → get_or l.heads k 0 ≡ 0

-- the same, and each number at any item leads onward
pub record Linked (dropped : Fields → Bool) (rs : List Row) (ds : List InLeaf) (i : ℕ) (l : Links) : Type 0 where
  pub few : length ds ≤ 65536
  pub row_room : length rs ≤ length l.heads
  pub room : length ds ≤ length l.nexts
  pub starts : (k : ℕ) → k < length rs → From i (length ds) (get_or l.heads k 0)
  pub onward : Onward (length ds) l.nexts
  pub those : (k : ℕ) (e : Row) → k < length rs → along l.nexts 0 (get_or l.heads k 0) ds ≡ keep (drop_at dropped (get_or rs k e).start) (drop i ds)
  pub low : l.span.start ≤ length rs
  pub high : l.span.end ≤ length rs
  pub before : (k : ℕ) → k < l.span.start → get_or l.heads k 0 ≡ 0
  pub behind : (k : ℕ) → l.span.end ≤ k → k < length rs → get_or l.heads k 0 ≡ 0
