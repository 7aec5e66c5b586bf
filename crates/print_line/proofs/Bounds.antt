-- No line is too long, so each is whole: a number of 64 bits has at most 20 digits. Assumes nothing.
use mathlib.Core.Path.{◌≡◌}
use mathlib.Core.Bool.{Bool, true, false}
use mathlib.Core.List.{List, [], ◌∷◌}
use Prim.Native.Nat.{ℕ, ◌≤◌, ◌<◌, ◌^◌}
use native.Mathlib.Omega.{arith}
use lib.ListN.{length}
use Rattle.read_field.specs.Words.{bytes as text}
use Rattle.print_field.specs.Text.{decimal, joined}
use Rattle.print_field.specs.Added.{added}
use Rattle.print_field.specs.Fields.{spaced, field, pair, end}
use Rattle.print_field.proofs.Decimal.{length_64}
use Rattle.print_field.proofs.Parts.{length_parts, length_none, whole}
use Rattle.print_field.proofs.Laws.{length-spaced, length-field, length-pair}
use Rattle.cut_def.specs.Refs.{Ref}
use Rattle.plan_def.specs.Plans.{Add, Write}
use Rattle.print_line.specs.Lines.{mark, number_line, plan_line, delete_line, ref_line, add_line, write_line}

pub number_whole : (word : List ℕ) (n : ℕ) → length word ≤ 8 → n < 2 ^ 64 → number_line word n ≡ added [] (joined (word ∷ spaced n ∷ end ∷ []))
unfolding number_line
number_whole word n h a =
    let x : length (decimal n) ≤ 20 = length_64 n a in
    whole (number_line word n) (simp (length_parts, length_none, length-spaced) (omega arith))

mark_small : (b : Bool) → mark b < 2 ^ 64
mark_small true = omega arith
mark_small false = omega arith

pub plan_whole : (size bytes : ℕ) (prealloc : Bool) → size < 2 ^ 64 → bytes < 2 ^ 64 → plan_line size bytes prealloc ≡ added [] (joined (text "(plan" ∷ field (text "size") size ∷ field (text "bytes") bytes ∷ field (text "prealloc") (mark prealloc) ∷ end ∷ []))
unfolding plan_line
plan_whole size bytes prealloc a b =
    let x : length (decimal size) ≤ 20 = length_64 size a in
    let y : length (decimal bytes) ≤ 20 = length_64 bytes b in
    let z : length (decimal (mark prealloc)) ≤ 20 = length_64 (mark prealloc) (mark_small prealloc) in
    whole (plan_line size bytes prealloc) (simp (length_parts, length_none, length-field) (omega arith))

pub delete_whole : (key : ℕ) → key < 2 ^ 64 → delete_line key ≡ added [] (joined (text "(delete" ∷ field (text "key") key ∷ end ∷ []))
unfolding delete_line
delete_whole key a =
    let x : length (decimal key) ≤ 20 = length_64 key a in
    whole (delete_line key) (simp (length_parts, length_none, length-field) (omega arith))

-- behind a short word a reference fits
pub ref_fits : (word : List ℕ) (r : Ref) → length word ≤ 8 → r.start < 2 ^ 64 → r.offset < 2 ^ 64 → length (ref_line word r) ≤ 256
unfolding ref_line
ref_fits word r h a b =
    let x : length (decimal r.start) ≤ 20 = length_64 r.start a in
    let y : length (decimal r.offset) ≤ 20 = length_64 r.offset b in
    simp (length_parts, length_none, length-field) (omega arith)

pub ref_whole : (word : List ℕ) (r : Ref) → length (ref_line word r) ≤ 256 → ref_line word r ≡ added [] (joined (word ∷ field (text "at") r.start ∷ field (text "ref") r.offset ∷ end ∷ []))
unfolding ref_line
ref_whole word r h = whole (ref_line word r) h

pub add_whole : (n : Add) → n.start < 2 ^ 64 → n.length < 2 ^ 64 → n.key < 2 ^ 64 → add_line n ≡ added [] (joined (text "(add" ∷ field (text "at") n.start ∷ field (text "len") n.length ∷ field (text "key") n.key ∷ end ∷ []))
unfolding add_line
add_whole n a b c =
    let x : length (decimal n.start) ≤ 20 = length_64 n.start a in
    let y : length (decimal n.length) ≤ 20 = length_64 n.length b in
    let z : length (decimal n.key) ≤ 20 = length_64 n.key c in
    whole (add_line n) (simp (length_parts, length_none, length-field) (omega arith))

pub write_whole : (w : Write) → w.key < 2 ^ 64 → w.at < 2 ^ 64 → w.first < 2 ^ 64 → w.end < 2 ^ 64 → write_line w ≡ added [] (joined (text "(write" ∷ field (text "key") w.key ∷ field (text "at") w.at ∷ pair (text "zero") w.first w.end ∷ end ∷ []))
unfolding write_line
write_whole w a b c d =
    let x : length (decimal w.key) ≤ 20 = length_64 w.key a in
    let y : length (decimal w.at) ≤ 20 = length_64 w.at b in
    let z : length (decimal w.first) ≤ 20 = length_64 w.first c in
    let u : length (decimal w.end) ≤ 20 = length_64 w.end d in
    whole (write_line w) (simp (length_parts, length_none, length-field, length-pair) (omega arith))

-- what a line's being whole is proved by
pub ruleset wholes = (number_whole, plan_whole, delete_whole, ref_whole, add_whole, write_whole)
