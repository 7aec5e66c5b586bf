-- A part of a list that is lent, from one record to another. Assumes nothing.
use mathlib.Core.Path.{◌≡◌, ap, ◌∙◌, sym}
use mathlib.Core.List.{List}
use Prim.Native.Nat.{ℕ, ◌-◌, ◌*◌, ◌/◌, ◌≤◌}
use native.Mathlib.Omega.{arith}
use native.Mathlib.Nat.{le-div_iff_mul-le, mul-div_cancel}
use lib.ListN.{length, take, drop, length-take, length-drop}
use Rattle.records.specs.Records.{records}
use Rattle.item.specs.Items.{decode, items}
use Rattle.records.proofs.Chunks.{chunks-cut, chunks-take, chunks-drop}
use Rattle.item.proofs.Widths.{decode-take}

pub items-part : (s : List ℕ) (from to : ℕ) → from ≤ to → to * 70 ≤ length s → items (take (to * 70 - from * 70) (drop (from * 70) s)) ≡ take (to - from) (drop from (items s))
unfolding items records
items-part s from to h l =
    let k : ℕ = to - from in
    let w : to * 70 - from * 70 ≡ k * 70 = omega arith in
    let n : length (take (k * 70) (drop (from * 70) s)) ≡ k * 70 = simp (length-take, length-drop) (omega arith) in
    let q : length (take (k * 70) (drop (from * 70) s)) / 70 ≡ k = rw n (mul-div_cancel k (omega arith)) in
    let t : to ≤ length s / 70 = (le-div_iff_mul-le {k = 70} {x = to} {y = length s} (omega arith)).1 l in
    rw (w, q)
    (chunks-cut decode 70 decode-take k (k * 70) (drop (from * 70) s) (omega arith)
    ∙ sym (ap (take k) (chunks-drop decode 70 from (length s / 70) s (omega arith)) ∙ chunks-take decode 70 k (length s / 70 - from) (drop (from * 70) s) (omega arith)))
