-- What callers need: two extents of which one may be none, and lines read back as they were laid. Assumes nothing.
use mathlib.Core.Path.{◌≡◌, refl, ap, ◌∙◌}
use mathlib.Core.List.{List, [], ◌∷◌, map, flat_map}
use Prim.Native.Nat.{ℕ, ◌+◌, ◌*◌, ◌/◌, ◌≤◌}
use native.Mathlib.Omega.{arith}
use native.Mathlib.Nat.{zero-mul}
use lib.ListN.{length, take, drop}
use lib.Seq.{take_at}
use Rattle.endian.specs.Le.{put}
use Rattle.records.specs.Records.{chunks, records}
use Rattle.records.proofs.Picks.{keep_same}
use Rattle.item.specs.Items.{Fields}
use Rattle.cut_def.specs.Refs.{Ref, ref_of}
use Rattle.ref_def.specs.Compared.{among, sorted, refs_among}
use Rattle.ref_def.proofs.Among.{nonzero, among_nonzero}
use Rattle.plan_def.specs.Outputs.{ref_numbers}
use Rattle.plan_lines.specs.Lines.{lay}
use Rattle.plan_lines.proofs.Laws.{length_flat, lay-put}
use Rattle.ref_compare.specs.Next.{ref_line}

-- ---- extents that may be none

pub refs_nonzero : (one two : ℕ) (fs : List Fields) → refs_among (one ∷ two ∷ []) fs ≡ refs_among (nonzero one two) fs
refs_nonzero one two fs = ap (λ (l : List Fields). sorted (map ref_of l)) (keep_same (among (one ∷ two ∷ [])) (among (nonzero one two)) (among_nonzero one two) fs)

-- ---- lines read back

flat_chunks : (l : List Ref) → chunks ref_line 2 (length l) (flat_map ref_numbers l) ≡ l
unfolding chunks flat_map
flat_chunks [] = refl
flat_chunks (r ∷ l) = ap (λ (k : List Ref). r ∷ k) (flat_chunks l)

pub laid_read : (l : List Ref) (out : List ℕ) (k : ℕ) → length l ≤ length out / 2 → k ≡ 2 * length l → records ref_line 2 (take k (lay ref_numbers 2 0 l out)) ≡ l
unfolding records put
laid_read l out k h e =
    let c : length (flat_map ref_numbers l) ≡ length l * 2 = length_flat ref_numbers 2 (omega arith) (λ r. refl) l in
    let p : take k (lay ref_numbers 2 0 l out) ≡ flat_map ref_numbers l =
    ap (take k) (lay-put ref_numbers 2 (omega arith) (λ r. refl) 0 l out (omega arith) ∙ rw zero-mul refl)
    ∙ take_at (flat_map ref_numbers l) (drop (0 + length (flat_map ref_numbers l)) out) k (omega arith)
    in
    let n : length (flat_map ref_numbers l) / 2 ≡ length l = omega arith in
    rw (p, n) (flat_chunks l)
