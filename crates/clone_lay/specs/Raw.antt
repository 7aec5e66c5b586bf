-- For the code only: what laying a clone's plan asks, and the cut that it makes.
use Rattle.std.specs.Prelude.{◌≡◌, Bool, true, ◌&&◌, List, ◌<◌, ◌≤◌, leb, ltb, length}
use Rattle.records.specs.Stages.{every, pairs}
use Rattle.item.specs.Items.{Fields, ranged}
use Rattle.lists.specs.Lists.{rises}
use Rattle.lists.proofs.Laws.{Kept}
use Rattle.cut_def.specs.Pieces.{items_of}
use Rattle.drop_lines.specs.declared.Cut.{Cut}
use Rattle.clone_items.specs.declared.Copying.{Copying}
use Rattle.clone_items.specs.Copies.{clones}
use Rattle.clone_items.specs.Replacing.{top, pieces_now}

-- the range that is replaced; no extent is written in place
abbrev pub cut_for : Copying → Cut
cut_for c = record { lo = c.to; hi = top c; one = 0; two = 0 }

-- an item starts in the range that is replaced
abbrev pub starts_inside : Copying → Fields → Bool
starts_inside c f = leb c.to f.key && ltb f.key (top c)

-- what the lists of a clone that passed its checks are
pub record Placing (c : Copying) (before source : List Fields) : Type 0 where
  pub some : 0 < c.span
  pub rise : pairs rises (clones c source) ≡ true
  pub inside : every (starts_inside c) (clones c source) ≡ true
  pub kept : Kept c.number before
  pub ranges : every ranged before ≡ true
  pub «kept-now» : Kept c.number (items_of (pieces_now c before source))
  pub «ranges-now» : every ranged (items_of (pieces_now c before source)) ≡ true
  pub sized : length before ≤ 65536
  pub «source-sized» : length source ≤ 65536
