-- One line of an output: what is read and printed, and that it is whole. Assumes nothing.
use mathlib.Core.Path.{◌≡◌, refl}
use mathlib.Core.Bool.{true, false}
use mathlib.Core.List.{List, []}
use Prim.Native.Nat.{ℕ, ◌+◌, ◌*◌}
use native.Mathlib.Nat.{add-zero}
use lib.Dec.{eqb}
use lib.ListN.{get_or, drop}
use lib.Seq.{get_or-drop}
use Rattle.endian.specs.Le.{Bytes}
use Rattle.endian.proofs.Fields.{bytes_drop}
use Rattle.item.specs.Items.{decode}
use Rattle.item.proofs.Runs.{decode-sound}
use Rattle.print_field.specs.Added.{added}
use Rattle.print_field.specs.Puts.{put_line}
use Rattle.print_field.proofs.Bounds.{put_whole}
use Rattle.plan_def.specs.ReadBack.{edit_in, ref_in, add_in, write_in}
use Rattle.print_line.specs.Lines.{delete_line, edit_line}

-- ---- lines of numbers, as the code reads them
module _ (s : List ℕ) (n : ℕ) where
  pub ref_read : ref_in (drop (n * 2) s) ≡ record { start = get_or s (n * 2) 0; offset = get_or s (n * 2 + 1) 0 }
  unfolding ref_in
  ref_read = rw (get_or-drop (n * 2) s 0 0, get_or-drop (n * 2) s 1 0, add-zero) refl

  pub add_read : add_in (drop (n * 3) s) ≡ record { start = get_or s (n * 3) 0; length = get_or s (n * 3 + 1) 0; key = get_or s (n * 3 + 2) 0 }
  unfolding add_in
  add_read = rw (get_or-drop (n * 3) s 0 0, get_or-drop (n * 3) s 1 0, get_or-drop (n * 3) s 2 0, add-zero) refl

  pub write_read : write_in (drop (n * 4) s) ≡ record { key = get_or s (n * 4) 0; at = get_or s (n * 4 + 1) 0; first = get_or s (n * 4 + 2) 0; end = get_or s (n * 4 + 3) 0 }
  unfolding write_in
  write_read = rw (get_or-drop (n * 4) s 0 0, get_or-drop (n * 4) s 1 0, get_or-drop (n * 4) s 2 0, get_or-drop (n * 4) s 3 0, add-zero) refl

-- ---- an edit, by its tag

module _ (s : List ℕ) where
  pub edit_put : eqb (get_or s 0 0) 1 ≡ true → edit_line (edit_in s) ≡ put_line (decode (drop 1 s))
  unfolding edit_in
  edit_put h = rw h refl

  pub edit_delete : eqb (get_or s 0 0) 1 ≡ false → edit_line (edit_in s) ≡ delete_line (decode (drop 1 s)).key
  unfolding edit_in
  edit_delete h = rw h refl

  -- its item's line is whole
  pub item_whole : Bytes s → put_line (decode (drop 1 s)) ≡ added [] (put_line (decode (drop 1 s)))
  item_whole b = put_whole (decode (drop 1 s)) (decode-sound (drop 1 s) (bytes_drop 1 s b))
