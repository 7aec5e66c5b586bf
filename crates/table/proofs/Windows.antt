-- The window of an item in its extent. Assumes nothing.
use mathlib.Core.Path.{◌≡◌, refl}
use mathlib.Core.Bool.{Bool, ◌||◌, not}
use Prim.Native.Nat.{ℕ, ◌+◌}
use lib.Dec.{eqb}
use Rattle.item.specs.Items.{Fields}
use Rattle.table.specs.declared.Row.{Row}
use Rattle.table.specs.Windows.{window_inside, window_sound}

-- a window's test, from the item's numbers
pub window_read : (f : Fields) (row : Row) (x s p l : ℕ) (t : Bool) → x ≡ f.compression → s ≡ f.extent_start → p ≡ f.position → l ≡ f.length → t ≡ window_inside (s + p) l s row.length → (not (eqb x 0) || t) ≡ window_sound f row
window_read f row x s p l t ex es ep el et = rw (et, ex, es, ep, el) refl
