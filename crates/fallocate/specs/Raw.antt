-- For the code only: what the structs and private functions of this crate say, in the terms of the definitions.
use Rattle.std.specs.Prelude.{Bool, None, cond, ℕ, ◌+◌, leb}
use Rattle.std.specs.Bool.{then_some}
use Rattle.records.specs.Stages.{first, stage, unless}
use Rattle.item.specs.Items.{items}
use Rattle.change_def.specs.Preallocs.{sum_of}
use Rattle.change_def.specs.Rounding.{round_down, round_up}
use Rattle.change_def.specs.declared.RangeChange.{RangeChange}
use Rattle.change_def.specs.declared.Fill.{Fill}
use Rattle.fallocate_def.specs.Fallocate.{end_rewritten, new_size, item_refusal, holes_to_allocate}
use Rattle.punch.specs.declared.range.FileRange.{FileRange}

-- the old end's sector, cut and rewritten if it has to be
abbrev pub end_change : (size sector stop : ℕ) → RangeChange
end_change size sector stop =
    record {
      lo = cond (end_rewritten sector size stop) (round_down sector size) 0;
      hi = cond (end_rewritten sector size stop) (round_down sector size + sector) 0;
      front = then_some (end_rewritten sector size stop) (record { sector = round_down sector size; first = size; end = round_down sector size + sector });
      back = None;
    }

-- the range rounded out, and the new size
abbrev pub fill_of : Bool → (size sector offset stop : ℕ) → Fill
fill_of keep size sector offset stop = record { from = round_down sector offset; to = round_up sector stop; size = new_size keep size stop }

-- refusals 10 to 12 of a range that passed 1 to 9
abbrev pub stages : FileRange → ℕ
stages r =
    let v = r.ground.volume in
    let size = r.ground.file.size in
    let fs = items r.ground.leaves.list.records.now in
    first
    (stage (item_refusal size (round_down v.sector r.start) (round_up v.sector r.stop)) fs)
    (unless (leb (sum_of (holes_to_allocate size v.sector r.start r.stop fs)) v.total) 12)
