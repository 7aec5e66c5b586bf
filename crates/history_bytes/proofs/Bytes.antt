-- Records laid over bytes and read again; whole records before others. Assumes nothing.
use mathlib.Core.Path.{◌≡◌, refl}
use mathlib.Core.Bool.{true}
use mathlib.Core.List.{List, ◌++◌, flat_map}
use Prim.Native.Nat.{ℕ, ◌+◌, ◌*◌, ◌/◌, ◌%◌, ◌≤◌, ◌<◌}
use native.Mathlib.Omega.{arith}
use native.Mathlib.Nat.{mul-mod_left, div-add-mod', le-div_iff_mul-le}
use lib.ListN.{length, take, drop, length-append}
use lib.Seq.{take-append_seam}
use Rattle.endian.specs.Le.{put}
use Rattle.records.specs.Stages.{every}
use Rattle.records.proofs.Lists.{every_true}
use Rattle.item.specs.Items.{Fields, decode, encode, items}
use Rattle.item.proofs.Widths.{length-encode}
use Rattle.item.proofs.Runs.{decode-encode}
use Rattle.table.specs.declared.Row.{Row}
use Rattle.table.specs.Rows.{row_of, rows, row_numbers}
use Rattle.plan_def.specs.Outputs.{laid}
use Rattle.plan_lines.proofs.Laws.{length_flat}
use Rattle.plan_lines.proofs.Again.{lines_read}
use Rattle.plan_bounds.specs.Widths.{fields_fit}
use Rattle.plan_bounds.proofs.Tests.{fields-sound}

-- ---- lines of w numbers

module _ {A : Type 0} (f : A → List ℕ) (w : ℕ) (pos : 0 < w) (wide : (a : A) → length (f a) ≡ w) where
  -- laid over an output, they are its first numbers
  pub laid-front : (l : List A) (out : List ℕ) → take (length l * w) (laid f l out) ≡ flat_map f l
  unfolding put
  laid-front l out = rw (← length_flat f w pos wide l) (take-append_seam (flat_map f l) (drop (0 + length (flat_map f l)) out))

  pub flat_whole : (l : List A) → length (flat_map f l) % w ≡ 0
  flat_whole l = rw (length_flat f w pos wide l) (mul-mod_left (length l) w)

-- ---- whole records, before others

module _ (w : ℕ) (pos : 0 < w) (s t : List ℕ) (h : length s % w ≡ 0) where
  pub front : take (length s / w * w) (s ++ t) ≡ s
  front =
      let e : length s / w * w ≡ length s = omega (arith, div-add-mod' (length s) w) in
      rw e (take-append_seam s t)

  pub front_fits : length s / w ≤ length (s ++ t) / w
  front_fits = (le-div_iff_mul-le pos).1 (omega (arith, div-add-mod' (length s) w, length-append s t))

-- ---- the records of a list and the rows of a table

pub items_back : (fs : List Fields) → every fields_fit fs ≡ true → items (flat_map encode fs) ≡ fs
unfolding items
items_back fs h = lines_read encode 70 decode (omega arith) length-encode fields_fit (λ f k s. decode-encode f s (fields-sound f k)) fs h

pub rows_back : (rs : List Row) → rows (flat_map row_numbers rs) ≡ rs
unfolding rows row_of
rows_back rs = lines_read row_numbers 5 row_of (omega arith) (λ r. refl) (λ r. true) (λ r k s. refl) rs (every_true rs)
