-- A change as punch and fallocate ask for it, on a file that passed its checks: what the laws of `change_range` rest on.
-- Assumes nothing.
use mathlib.Core.Bool.{Bool, true, ◌&&◌, ◌||◌}
use mathlib.Core.List.{List}
use mathlib.Core.Path.{◌≡◌}
use Prim.Native.Nat.{◌+◌, ◌%◌, ◌≤◌, ◌^◌}
use lib.Dec.{eqb, leb}
use Rattle.records.specs.Stages.{every, pairs}
use Rattle.item.specs.Items.{Fields, ranged}
use Rattle.table.specs.Rows.{table_kept}
use Rattle.lists.specs.Lists.{whole_sectors}
use Rattle.lists.proofs.Laws.{Kept}
use Rattle.request.specs.Lent.{sector_sound}
use Rattle.cut_def.proofs.Kept.{clear}
use Rattle.change_def.specs.Preallocs.{Stretch}
use Rattle.change_def.specs.declared.Rewrite.{Rewrite}
use Rattle.change_def.specs.Rewrites.{Ground, leaf_items}
use Rattle.change_def.specs.Changes.{Change}

-- the file passed its checks
pub record Sound (g : Ground) : Type 0 where
  pub kept : Kept g.file (leaf_items g.in_leaves)
  pub ranges : every ranged (leaf_items g.in_leaves) ≡ true
  pub sector : sector_sound g.sector ≡ true
  pub sectors : every (whole_sectors g.sector) (leaf_items g.in_leaves) ≡ true
  pub table : table_kept g.rows ≡ true

-- a rewritten sector lies inside the cut, on whole sectors
abbrev pub rewrite_inside : Ground → Change → Rewrite → Bool
rewrite_inside g c r = eqb (r.sector % g.sector) 0 && (leb c.lo r.sector && leb (r.sector + g.sector) c.hi)

abbrev pub rewrites_rise : Ground → Rewrite → Rewrite → Bool
rewrites_rise g r t = leb (r.sector + g.sector) t.sector

-- a hole is some whole sectors below the limit, clear of the cut
abbrev pub hole_inside : Ground → Change → Stretch → Bool
hole_inside g c s =
    (eqb (s.start % g.sector) 0 && eqb (s.length % g.sector) 0)
    && ((leb 1 s.length && leb (s.start + s.length) (2 ^ 63)) && (leb (s.start + s.length) c.lo || leb c.hi s.start))

-- and of every item of the file
abbrev pub hole_free : List Fields → Stretch → Bool
hole_free fs s = every (clear s.start (s.start + s.length)) fs

abbrev pub holes_rise : Stretch → Stretch → Bool
holes_rise s t = leb (s.start + s.length) t.start

pub record Fair (g : Ground) (c : Change) : Type 0 where
  pub sound : Sound g
  pub lower : c.lo % g.sector ≡ 0
  pub upper : c.hi % g.sector ≡ 0
  pub order : c.lo ≤ c.hi
  pub limit : c.hi ≤ 2 ^ 63
  pub rewrites : every (rewrite_inside g c) c.rewrites ≡ true
  pub rising : pairs (rewrites_rise g) c.rewrites ≡ true
  pub holes : every (hole_inside g c) c.holes ≡ true
  pub free : every (hole_free (leaf_items g.in_leaves)) c.holes ≡ true
  pub apart : pairs holes_rise c.holes ≡ true
