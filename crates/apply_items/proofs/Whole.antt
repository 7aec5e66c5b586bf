-- The two passes together leave the list after the edits, laid over what was there. Assumes nothing.
use mathlib.Core.Path.{◌≡◌, ap, ap₂, ◌∙◌, sym}
use mathlib.Core.Bool.{true, not}
use mathlib.Core.List.{List, ◌++◌, map}
use Prim.Native.Nat.{ℕ, ◌+◌, ◌-◌, ◌*◌, ◌/◌, ◌≤◌, min}
use native.Mathlib.Omega.{arith}
use lib.ListN.{length, take, drop, length-take}
use lib.Seq.{drop-drop}
use Rattle.endian.specs.Le.{Bytes}
use Rattle.endian.proofs.Fields.{bytes_drop}
use Rattle.records.specs.Stages.{pairs}
use Rattle.records.proofs.Tests.{pairs-keep}
use Rattle.item.specs.Items.{Fields, decode, items, encode}
use Rattle.item.proofs.Laws.{items-length}
use Rattle.item.proofs.Runs.{encode-decode}
use Rattle.lists.specs.Lists.{rises}
use Rattle.cut_def.specs.Edits.{Edit, edited, items_after}
use Rattle.plan_def.specs.Outputs.{laid}
use Rattle.item.proofs.Widths.{decode-take, length-encode}
use Rattle.plan_def.specs.ReadBack.{edit_in, edits_in}
use Rattle.apply_def.proofs.Chunks.{records_read}
use Rattle.apply_walk.proofs.Merge.{edit_own}
use Rattle.std.specs.Simd.{first_chunks}
use Rattle.apply_def.specs.Lent.{items_in}
use Rattle.apply_def.specs.Buffers.{Same}
use Rattle.apply_def.proofs.Buffers.{records-take, same-done, same_then}
use Rattle.apply_walk.specs.Checks.{items_now}
use Rattle.apply_items.specs.Passes.{unnamed, puts_in, merged, Packed}
use Rattle.apply_items.proofs.Back.{merged-length}

-- the first n records
pub items-first : (n : ℕ) (s : List ℕ) → n ≤ length s / 70 → items_in n s ≡ take n (items s)
unfolding items
items-first n s h = records-take decode 70 (omega arith) decode-take n s h

-- a plan's edits are its lines, read one by one
pub edits_read : (edits : List ℕ) (lines : List (List ℕ)) → lines ≡ first_chunks 71 (length edits / 71) edits → map edit_in lines ≡ edits_in edits
edits_read edits lines e = ap (map edit_in) e ∙ records_read edit_in 71 edit_own edits

module _ (edits before : List ℕ) (n : ℕ) (h : n ≤ length before / 70) (es : List Edit) (q : es ≡ edits_in edits) where
  abbrev olds : List Fields
  olds = unnamed es (take n (items before))

  -- the list after the edits is a merge
  now_merged : items_now (take (n * 70) before) edits ≡ merged olds es
  unfolding items_after
  now_merged = ap₂ (λ (fs : List Fields) (es : List Edit). merged (unnamed es fs) es) (items-first n before h) (sym q)

  module _ (m : ℕ) (list : List ℕ) (p : Packed es before n m list) where
    pub packed_many : m ≡ length olds
    packed_many =
        let l : min m (length (items list)) ≡ m = omega (arith, items-length list, p.same.long, p.most) in
        sym (ap length (sym p.front) ∙ length-take m (items list) ∙ l)

    pub packed_rises : pairs rises (take n (items before)) ≡ true → pairs rises (take m (items list)) ≡ true
    packed_rises r = rw p.front (pairs-keep rises (λ (f : Fields). not (edited es f.key)) (take n (items before)) r)

    -- how many there are then
    pub now_many : m + length (puts_in es) ≡ length (items_now (take (n * 70) before) edits)
    now_many = ap (λ (k : ℕ). k + length (puts_in es)) packed_many ∙ sym (ap length now_merged ∙ merged-length olds es)

    pub after-done : (end : ℕ) (after : List ℕ) → end ≡ m + length (puts_in es) → end ≤ length before / 70 → Bytes before → Bytes after → Same 70 list after → items after ≡ merged (take m (items list)) es ++ drop end (items list)
        → after ≡ laid encode (items_now (take (n * 70) before) edits) before
    unfolding items
    after-done end after e l b c s i =
        let xs : List Fields = items_now (take (n * 70) before) edits in
        let many : length xs ≡ end = sym (e ∙ now_many) in
        let k : ℕ = end - m in
        let t : m + k ≡ end = omega arith in
        let d : drop end (items list) ≡ drop end (items before) = rw t at (sym (drop-drop k m (items list)) ∙ ap (drop k) p.behind ∙ drop-drop k m (items before)) in
        same-done decode encode 70 (omega arith) length-encode Bytes bytes_drop encode-decode before after xs (same_then 70 before list after p.same s) b c (omega arith)
        (i ∙ ap₂ (λ (x y : List Fields). x ++ y) (ap (λ (fs : List Fields). merged fs es) p.front ∙ sym now_merged) (d ∙ ap (λ (j : ℕ). drop j (items before)) (sym many)))
