-- The sum of the holes that a fallocate fills. Assumes nothing.
use mathlib.Core.Path.{◌≡◌, ap, ◌∙◌, sym}
use mathlib.Core.Bool.{Bool, true}
use mathlib.Core.List.{List}
use Prim.Native.Nat.{ℕ, ◌≤◌, ◌<◌, ◌^◌}
use native.Mathlib.Omega.{arith}
use Rattle.item.specs.Items.{Fields}
use Rattle.request.specs.Lent.{sector_sound}
use Rattle.request.proofs.Stages.{sector-some}
use Rattle.cut_segment.specs.Segments.{Runs}
use Rattle.change_def.specs.Preallocs.{sum_of}
use Rattle.change_def.specs.declared.RangeChange.{RangeChange}
use Rattle.change_def.specs.declared.Fill.{Fill}
use Rattle.change_def.specs.Sweep.{sweep}
use Rattle.change_def.proofs.Rounding.{up_limit, sector-limit}
use Rattle.change_def.proofs.Sweep.{sum_some}
use Rattle.fallocate_def.specs.Fallocate.{holes_to_allocate}
use Rattle.fallocate_def.proofs.Holes.{holes_sum}
use Rattle.fallocate.specs.Raw.{end_change, fill_of}
use Rattle.fallocate.proofs.Sweep.{holes_swept}

module _
    (size sector offset stop : ℕ) (keep : Bool) (c : RangeChange) (w : Fill) (pc : c ≡ end_change size sector stop) (pw : w ≡ fill_of keep size sector offset stop)
    (sound : sector_sound sector ≡ true) (some : offset < stop) (fs : List Fields) (r : Runs 0 fs) where
  -- it is that of all stretches swept, the empty ones too
  pub sum_swept : sum_of (sweep c.lo c.hi w.from w.to fs) ≡ sum_of (holes_to_allocate size sector offset stop fs)
  sum_swept = rw (pc, pw) (sym (ap sum_of (holes_swept size sector offset stop (sector-some sector sound) some fs r) ∙ sum_some _))

  -- and it fits
  pub sum_limit : stop < 2 ^ 63 → sum_of (sweep c.lo c.hi w.from w.to fs) ≤ 2 ^ 63
  sum_limit l =
      let pos = sector-some sector sound in
      rw sum_swept (omega (arith, holes_sum size sector offset stop pos some fs, up_limit sector pos (sector-limit sector sound).1 stop l))
