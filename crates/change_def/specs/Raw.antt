-- For the code only: its structs as a change.
use Rattle.std.specs.Prelude.{[], ◌++◌, ℕ, option_to_list}
use Rattle.change_def.specs.declared.RangeChange.{RangeChange}
use Rattle.change_def.specs.Changes.{Change}

-- without holes
abbrev pub change_of : RangeChange → ℕ → Change
change_of c size =
    record {
      lo = c.lo;
      hi = c.hi;
      rewrites = option_to_list c.front ++ option_to_list c.back;
      holes = [];
      size = size;
    }
