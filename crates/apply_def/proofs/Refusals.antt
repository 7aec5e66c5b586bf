-- What applying can still refuse of a plan that was accepted: an over-long result (1), or a net count that leaves 64 bits
-- (3). Assumes nothing.
use mathlib.Core.Path.{◌≡◌, ap}
use mathlib.Core.Bool.{true, ◌&&◌}
use mathlib.Core.List.{List, ◌++◌, map}
use Prim.Native.Nat.{ℕ}
use lib.Dec.{leb}
use lib.ListN.{length}
use Rattle.records.specs.Stages.{unless, first, first_of, stage, every, pairs}
use Rattle.records.proofs.Tests.{both, first_last}
use Rattle.item.specs.Items.{Fields}
use Rattle.table.specs.declared.Row.{Row}
use Rattle.table.specs.Rows.{row_sound, table_kept}
use Rattle.lists.specs.Lists.{list_kept, whole_sectors}
use Rattle.request.specs.Lent.{sector_sound}
use Rattle.plan_def.specs.Plans.{Plan}
use Rattle.apply_def.specs.Apply.{row_missing, net_sound, edits_rise, list_after, rows_after, row_of_add, apply_refusal}
use Rattle.apply_def.proofs.Table.{rows_clear, rows-kept}

-- what a plan that was accepted brings along
pub record Fit (sector number generation : ℕ) (fs : List Fields) (rs : List Row) (p : Plan) : Type 0 where
  pub items : leb (length fs) 65536 ≡ true
  pub rows : leb (length rs) 65536 ≡ true
  pub kept : list_kept number fs ≡ true
  pub rising : pairs edits_rise p.edits ≡ true
  pub table : table_kept rs ≡ true
  pub «sector-sound» : sector_sound sector ≡ true
  pub sectors : every (whole_sectors sector) fs ≡ true
  pub lines : stage (row_missing rs) (p.shares ++ (p.unrefs ++ p.releases)) ≡ 0
  pub «kept-now» : list_kept number (list_after p fs) ≡ true
  pub «sectors-now» : every (whole_sectors sector) (list_after p fs) ≡ true
  pub new : every row_sound (map (row_of_add generation) p.adds) ≡ true
  pub clear : every (λ x. every (rows_clear x) rs) (map (row_of_add generation) p.adds) ≡ true
  pub apart : pairs (λ x y. rows_clear y x) (map (row_of_add generation) p.adds) ≡ true

pub applying-refused :
    (sector number generation : ℕ) (fs : List Fields) (rs : List Row) (p : Plan)
    → Fit sector number generation fs rs p
    → apply_refusal sector number generation fs rs p
    ≡ first (unless (leb (length (list_after p fs)) 65536 && leb (length (rows_after generation p rs)) 65536) 1) (unless (every (net_sound p) rs) 3)
unfolding apply_refusal first_of first
applying-refused sector number generation fs rs p f =
    rw (f.items, f.rows, f.kept, f.rising, f.table, f.«sector-sound», f.sectors, f.lines, both (list_kept number (list_after p fs)) (every (whole_sectors sector) (list_after p fs)) f.«kept-now» f.«sectors-now», rows-kept generation p rs f.table f.new f.clear f.apart)
    (ap (first (unless (leb (length (list_after p fs)) 65536 && leb (length (rows_after generation p rs)) 65536) 1)) (first_last (unless (every (net_sound p) rs) 3)))
