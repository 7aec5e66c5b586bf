-- What the code refuses, and asks of a change, is what the definitions say. Assumes nothing.
use mathlib.Core.Path.{◌≡◌, refl, ap, ◌∙◌, sym}
use mathlib.Core.Bool.{Bool, true, false}
use mathlib.Core.List.{List, [], ◌++◌, append-nil}
use Prim.Native.Nat.{ℕ, ◌+◌, ◌<◌}
use Rattle.std.specs.Prelude.{option_to_list}
use Rattle.std.specs.Bool.{then_some}
use Rattle.records.specs.Select.{only}
use Rattle.item.specs.Items.{Fields}
use Rattle.cut_segment.specs.Segments.{Runs}
use Rattle.change_def.specs.Rounding.{round_down}
use Rattle.change_def.specs.Preallocs.{Stretch}
use Rattle.change_def.specs.declared.Rewrite.{Rewrite}
use Rattle.change_def.specs.Changes.{Change}
use Rattle.change_def.specs.Sweep.{filled_of}
use Rattle.fallocate_def.specs.Fallocate.{end_rewritten, end_sector, end_stop, new_size, fallocate_change}
use Rattle.fallocate.specs.Raw.{end_change, fill_of}
use Rattle.fallocate.proofs.Sweep.{holes_swept}

-- the structs of the code are the change that a fallocate makes
pub filled_is : (keep : Bool) (size sector offset stop : ℕ) → 0 < sector → offset < stop → (fs : List Fields) → Runs 0 fs
    → filled_of (end_change size sector stop) (fill_of keep size sector offset stop) fs ≡ fallocate_change keep fs size sector offset stop
filled_is keep size sector offset stop pos some fs r =
    ap (with (option_to_list (then_some t w) ++ [])) (sym (holes_swept size sector offset stop pos some fs r))
    ∙ ap (λ (ws : List Rewrite). with ws (fallocate_change keep fs size sector offset stop).holes) (append-nil (option_to_list (then_some t w)) ∙ one_or_none t w)
  where
    t : Bool
    t = end_rewritten sector size stop

    w : Rewrite
    w = record { sector = round_down sector size; first = size; end = round_down sector size + sector }

    one_or_none : (b : Bool) (r : Rewrite) → option_to_list (then_some b r) ≡ only b r
    one_or_none true r = refl
    one_or_none false r = refl

    with : List Rewrite → List Stretch → Change
    with ws hs = record { lo = end_sector size sector stop; hi = end_stop size sector stop; rewrites = ws; holes = hs; size = new_size keep size stop }
