use mathlib.Core.Path.{◌∙◌, ap}
use Prim.Native.Nat.{ℕ, ◌+◌}
use Rattle.apply_items.proofs.Whole.{items-first, edits_read, packed_rises, now_many, after-done}
use mir.Val.{Fits}
use mir.Syntax.{w8}
use lib.ListN.{get_or}
use Rattle.endian.specs.Le.{Bytes}
use Rattle.std.proofs.Common.{rules}
use native.Mathlib.Omega.{arith}
use Rattle.apply_items.proofs.items_after.Goals as goal

pub invariant_of-edits : goal.invariant_of-edits
invariant_of-edits c = let a = c.args in
    let q = edits_read a.edits.now _ c.as_chunks.ensures.front in
    record { rise = rw q c.requires.1.news }

pub pack-kept-requires : goal.pack-kept-requires
pack-kept-requires c = let a = c.args in
    (c.requires.0, rw (items-first a.n a.list.now c.requires.0) at c.requires.1.olds)

pub fill-requires : goal.fill-requires
fill-requires c = let a = c.args in
    let p = c.pack-kept.ensures in
    let q = edits_read a.edits.now _ c.as_chunks.ensures.front in
    let m = now_many a.edits.now a.list.now a.n c.requires.0 _ q _ _ p in
    (omega (arith, c.count_puts-puts.ensures, m, p.same.long, c.requires.2), c.count_puts-puts.ensures, packed_rises a.edits.now a.list.now a.n c.requires.0 _ q _ _ p (rw (items-first a.n a.list.now c.requires.0) at c.requires.1.olds))

pub overflow_add-result : goal.overflow_add-result
overflow_add-result c = let a = c.args in
    omega (arith, now_many a.edits.now a.list.now a.n c.requires.0 _ (edits_read a.edits.now _ c.as_chunks.ensures.front) _ _ c.pack-kept.ensures, c.count_puts-puts.ensures, c.requires.2, c.well_formed)

pub returns : goal.returns
returns c = let a = c.args in
    let p = c.pack-kept.ensures in
    let q = edits_read a.edits.now _ c.as_chunks.ensures.front in
    let e = ap (λ (k : ℕ). c.pack-kept.result + k) c.count_puts-puts.ensures in
    let m = now_many a.edits.now a.list.now a.n c.requires.0 _ q _ _ p in
    let b : Bytes a.list.now = λ i. (let f : Fits w8 (get_or a.list.now i 0) = search rules in f.fits) in
    (e ∙ m, after-done a.edits.now a.list.now a.n c.requires.0 _ q _ _ p _ _ e (omega (arith, e, m, c.requires.2)) b (λ i. (c.type_inv.list i).fits) c.fill.ensures.0 c.fill.ensures.1)
