-- `window_inside_extent` (write.rs), on numbers of any size.
use Rattle.std.specs.Prelude.{Bool, ◌&&◌, ◌||◌, not, ℕ, ◌+◌, ◌^◌, eqb, leb, ltb}
use Rattle.item.specs.Items.{Fields}
use Rattle.table.specs.declared.Row.{Row}

-- [logical, logical + len) lies in [extent_start, extent_start + extentLen), and neither sum leaves 64 bits. Of an item,
-- logical is its extent start + its position: where that sum leaves 64 bits, so does the window's end
-- ("17: an uncompressed window outside its extent, or its sums over 64 bits")
abbrev pub window_inside : (logical len extent_start extentLen : ℕ) → Bool
window_inside logical len extent_start extentLen =
    ltb (logical + len) (2 ^ 64)
    && ltb (extent_start + extentLen) (2 ^ 64)
    && leb extent_start logical
    && leb (logical + len) (extent_start + extentLen)

-- an uncompressed item's window lies inside its extent ("17: an uncompressed window outside its extent")
abbrev pub window_sound : Fields → Row → Bool
window_sound f row = not (eqb f.compression 0) || window_inside (f.extent_start + f.position) f.length f.extent_start row.length
