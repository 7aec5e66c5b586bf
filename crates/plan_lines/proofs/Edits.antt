-- An edit read again: its record, and its first byte. Assumes nothing.
use mathlib.Core.Path.{◌≡◌, refl, ◌∙◌}
use mathlib.Core.List.{List}
use Prim.Native.Nat.{ℕ, ◌+◌, ◌-◌, ◌*◌}
use native.Mathlib.Omega.{arith}
use native.Mathlib.Nat.{add-zero}
use lib.ListN.{get_or, take, drop}
use lib.Seq.{drop-drop, get_or-drop}
use Rattle.item.specs.declared.Item.{Item}
use Rattle.item.specs.Items.{fields, item_of, decode}
use Rattle.item.proofs.Laws.{item-decode}
use Rattle.item.proofs.Widths.{decode-take}

pub edit_read : (r : Item) (s : List ℕ) (k : ℕ) → r ≡ item_of (drop (0 * 70) (take (k * 71 + 71 - (k * 71 + 1)) (drop (k * 71 + 1) s))) → fields r ≡ decode (drop 1 (drop (k * 71) s))
edit_read r s k e =
    let n : k * 71 + 71 - (k * 71 + 1) ≡ 70 = omega arith in
    item-decode r _ e ∙ rw (n, drop-drop) (decode-take (drop (k * 71 + 1) s))

pub tag_read : (s : List ℕ) (n : ℕ) → get_or (drop n s) 0 0 ≡ get_or s n 0
tag_read s n = rw (get_or-drop, add-zero) refl
