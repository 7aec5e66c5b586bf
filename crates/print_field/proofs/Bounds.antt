-- How long the line of an item that is put can be. Assumes nothing.
use mathlib.Core.Path.{◌≡◌}
use mathlib.Core.List.{[]}
use Prim.Native.Nat.{◌≤◌}
use native.Mathlib.Omega.{arith}
use lib.ListN.{length}
use Rattle.endian.specs.Le.{room}
use Rattle.read_field.specs.Words.{bytes as text}
use Rattle.print_field.specs.Text.{decimal}
use Rattle.print_field.specs.Added.{added}
use Rattle.print_field.proofs.Decimal.{length_64, length_16, length_8}
use Rattle.print_field.proofs.Parts.{length_parts, length_none, whole}
use Rattle.print_field.proofs.Laws.{length-field, length-pair, length-unless-zero}
use Rattle.item.specs.Items.{Fields, Sound}
use Rattle.print_field.specs.Puts.{item_fields, added_fields, put_line}

short_item : (f : Fields) → Sound f → length (item_fields f) ≤ 140
unfolding item_fields room
short_item f s =
    let a : length (decimal f.key) ≤ 20 = length_64 f.key s.key in
    let b : length (decimal f.kind) ≤ 3 = length_8 f.kind s.kind in
    let c : length (decimal f.extent_start) ≤ 20 = length_64 f.extent_start s.extent_start in
    let d : length (decimal f.extent_length) ≤ 20 = length_64 f.extent_length s.extent_length in
    let e : length (decimal f.position) ≤ 20 = length_64 f.position s.position in
    let g : length (decimal f.length) ≤ 20 = length_64 f.length s.length in
    simp (length_parts, length_none, length-field, length-pair) (omega arith)

short_added : (f : Fields) → Sound f → length (added_fields f) ≤ 110
unfolding added_fields room
short_added f s =
    let a : length (decimal f.generation) ≤ 20 = length_64 f.generation s.generation in
    let b : length (decimal f.ram) ≤ 20 = length_64 f.ram s.ram in
    let c : length (decimal f.compression) ≤ 3 = length_8 f.compression s.compression in
    let d : length (decimal f.encryption) ≤ 3 = length_8 f.encryption s.encryption in
    let e : length (decimal f.other) ≤ 5 = length_16 f.other s.other in
    simp (length_parts, length_none)
    (omega (
      arith,
      length-unless-zero (text "generation") f.generation,
      length-unless-zero (text "ram") f.ram,
      length-unless-zero (text "compression") f.compression,
      length-unless-zero (text "encryption") f.encryption,
      length-unless-zero (text "other") f.other,
    ))

-- with its end; an item of the largest numbers reaches it
pub put_whole : (f : Fields) → Sound f → put_line f ≡ added [] (put_line f)
unfolding put_line
put_whole f s = whole (put_line f) (simp (length_parts, length_none) (omega (arith, short_item f s, short_added f s)))
