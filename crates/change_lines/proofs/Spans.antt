-- What is lent of a list with its segment made anew: that it rises, and how many lines it can give. Assumes nothing.
use mathlib.Core.Path.{◌≡◌, refl}
use mathlib.Core.Bool.{true}
use mathlib.Core.List.{List, [], ◌∷◌, map}
use Prim.Native.Nat.{ℕ, ◌-◌, ◌≤◌, ◌<◌}
use native.Mathlib.Omega.{arith}
use lib.ListN.{length, take, drop, length-take, length-drop, length-map, take-append-drop}
use borrow.Author.Tests.{lt-ltb}
use Rattle.records.specs.Select.{keep}
use Rattle.records.specs.Stages.{every, pairs}
use Rattle.records.proofs.Tests.{both}
use Rattle.records.proofs.Lists.{pairs_parts, pairs-drop}
use Rattle.item.specs.Items.{Fields, items, end}
use Rattle.lists.specs.Lists.{rises}
use Rattle.cut_def.specs.Cuts.{split}
use Rattle.cut_def.specs.Refs.{ref_of}
use Rattle.cut_splits.specs.Splits.{elsewhere}
use Rattle.cut_segment.specs.declared.remade.Remade.{Remade}
use Rattle.cut_segment.specs.Segments.{Runs}
use Rattle.cut_segment.specs.Remade.{taken_of, made_of}
use Rattle.change_def.proofs.Drafts.{keep-most}

-- ---- records that run one behind the other rise

runs_past : (e : Fields) (b : ℕ) (fs : List Fields) → Runs b fs → e.key < b → every (rises e) fs ≡ true
unfolding every
runs_past e b [] r h = refl
runs_past e b (f ∷ fs) r h = both (rises e f) (every (rises e) fs) (lt-ltb e.key f.key (omega (arith, r.0))) (runs_past e (end f) fs r.4 (omega (arith, r.0)))

runs_rise : (b : ℕ) (fs : List Fields) → Runs b fs → pairs rises fs ≡ true
unfolding pairs
runs_rise b [] r = refl
runs_rise b (f ∷ fs) r = both (every (rises f) fs) (pairs rises fs) (runs_past f (end f) fs r.4 (omega (arith, r.1))) (runs_rise (end f) fs r.4)

pub taken-rises : (m : Remade) → pairs rises (taken_of m) ≡ true
taken-rises m =
    let fs : List Fields = items m.list.records.now in
    let d : List Fields = drop m.segment.from fs in
    let n : ℕ = m.segment.to - m.segment.from in
    (pairs_parts rises (take n d) (drop n d) (rw (take-append-drop n d) (pairs-drop rises m.segment.from fs (runs_rise 0 fs m.list.runs)))).0

-- ---- how many

pub taken-most : (m : Remade) → length (taken_of m) ≤ length (items m.list.records.now)
taken-most m = rw (length-take, length-drop) (omega arith)

pub made-most : (m : Remade) → length (made_of m) ≤ m.segment.count
made-most m = rw length-take (omega arith)

pub splits_most : (lo hi : ℕ) (extents : List ℕ) (fs : List Fields) → length (keep (elsewhere extents) (map ref_of (keep (split lo hi) fs))) ≤ length fs
splits_most lo hi extents fs =
    let k : List Fields = keep (split lo hi) fs in
    omega (arith, keep-most (elsewhere extents) (map ref_of k), length-map k ref_of, keep-most (split lo hi) fs)
