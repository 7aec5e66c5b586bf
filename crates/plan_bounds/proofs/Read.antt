-- A plan's lines read again from the outputs that they were laid over. Assumes nothing.
use mathlib.Core.Path.{◌≡◌, refl, ap, ◌∙◌}
use mathlib.Core.Bool.{true}
use mathlib.Core.List.{List, ◌++◌, flat_map, append_assoc}
use Prim.Native.Nat.{ℕ, ◌<◌, ◌^◌}
use native.Mathlib.Omega.{arith}
use lib.ListN.{length, replicate, length-append}
use lib.Seq.{take_at, drop_at}
use borrow.Author.Tests.{ltb-true}
use Rattle.endian.specs.Le.{num, enc, room}
use Rattle.endian.proofs.Numbers.{length-enc, le-enc}
use Rattle.records.specs.Stages.{every}
use Rattle.item.specs.Items.{decode, item_of}
use Rattle.item.proofs.Runs.{decode-encode}
use Rattle.cut_def.specs.Edits.{Edit, put, delete}
use Rattle.plan_def.specs.Outputs.{edit_bytes}
use Rattle.plan_def.specs.ReadBack.{edit_in, edits_in}
use Rattle.plan_def.proofs.Leaving.{edit-length}
use Rattle.plan_lines.proofs.Again.{lines_read}
use Rattle.plan_bounds.specs.Widths.{edit_fits}
use Rattle.plan_bounds.proofs.Tests.{fields-sound}

-- the key in a delete's record
delete-key : (file k : ℕ) (s : List ℕ) → k < 2 ^ 64 → (decode (enc 8 file ++ enc 1 108 ++ enc 8 k ++ replicate 53 0 ++ s)).key ≡ k
unfolding decode item_of num
delete-key file k s h =
    let a : List ℕ = enc 8 file ++ enc 1 108 in
    let z : List ℕ = replicate 53 0 ++ s in
    let e : enc 8 file ++ enc 1 108 ++ enc 8 k ++ replicate 53 0 ++ s ≡ a ++ (enc 8 k ++ z) = ap (λ (l : List ℕ). l ++ s) (append_assoc a (enc 8 k) (replicate 53 0)) ∙ append_assoc a (enc 8 k ++ replicate 53 0) s ∙ ap (λ (l : List ℕ). a ++ l) (append_assoc (enc 8 k) (replicate 53 0) s) in
    let n : length a ≡ 9 = length-append (enc 8 file) (enc 1 108) ∙ rw (length-enc 8 file, length-enc 1 108) refl in
    rw (e, drop_at a (enc 8 k ++ z) 9 n, take_at (enc 8 k) z 8 (length-enc 8 k)) (le-enc 8 k (unfold room in h))

pub edit-back : (file : ℕ) (e : Edit) → edit_fits e ≡ true → (s : List ℕ) → edit_in (edit_bytes file e ++ s) ≡ e
unfolding edit_in
edit-back file (put f) h s = ap put (decode-encode f s (fields-sound f h))
edit-back file (delete k) h s = ap delete (delete-key file k s (ltb-true k (2 ^ 64) h))

-- all edits of a plan whose numbers fit
pub edits-back : (file : ℕ) (es : List Edit) → every edit_fits es ≡ true → edits_in (flat_map (edit_bytes file) es) ≡ es
edits-back file es h = lines_read (edit_bytes file) 71 edit_in (omega arith) (edit-length file) edit_fits (edit-back file) es h
