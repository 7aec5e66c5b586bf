-- The refusals of a change, stage by stage. Assumes nothing.
use mathlib.Core.Path.{◌≡◌, refl, ap, ap₂, ◌∙◌, sym}
use mathlib.Core.Bool.{Bool}
use mathlib.Core.List.{List, ◌++◌, map}
use Prim.Native.Nat.{ℕ, ◌*◌, ◌≤◌}
use native.Mathlib.Omega.{arith}
use lib.ListN.{length, take}
use borrow.Author.Tests.{ne_eqb}
use Rattle.std.specs.Prelude.{Option, Some, None, option_to_list}
use Rattle.records.specs.Records.{records}
use Rattle.records.specs.Stages.{whenever, first, first_of, stage}
use Rattle.records.specs.Select.{keep}
use Rattle.records.proofs.Tests.{first_go, first_last}
use Rattle.item.specs.Items.{Fields, items}
use Rattle.table.specs.declared.Row.{Row}
use Rattle.table.specs.Rows.{one_more_reference}
use Rattle.request.specs.declared.Volume.{Volume}
use Rattle.request.specs.declared.File.{File}
use Rattle.cut_def.specs.Cuts.{split}
use Rattle.cut_def.specs.Refs.{Ref, ref_of}
use Rattle.cut_segment.specs.declared.Running.{Running}
use Rattle.cut_segment.specs.declared.remade.Remade.{Remade}
use Rattle.cut_segment.specs.Remade.{taken_of, made_of}
use Rattle.ref_def.specs.Drops.{in_leaves, drops_refusal}
use Rattle.ref_def.proofs.Drops.{leaves-items}
use Rattle.drop_lines.specs.declared.Cut.{Cut}
use Rattle.drop_lines.specs.Dropped.{drops_in}
use Rattle.plan_def.specs.Outputs.{ref_numbers}
use Rattle.plan_lines.specs.Lines.{Laid}
use Rattle.ref_compare.specs.Next.{ref_line}
use Rattle.ref_compare.proofs.Laws.{laid_read}
use Rattle.change_def.specs.declared.RangeChange.{RangeChange}
use Rattle.change_def.specs.Rewrites.{Ground, ground_of as ground_from, leaf_items, rewrite_refusal}
use Rattle.change_def.specs.Changes.{Change, shares_compared, drops, change_refusal}
use Rattle.change_def.specs.Raw.{change_of}
use Rattle.change_ground.specs.Lent.{items_in, leaves_in, rows_in}
use Rattle.change_segment.specs.declared.Parts.{Parts}
use Rattle.change_segment.specs.Raw.{Parting, MadeOf}
use Rattle.change_segment.specs.Sides.{joined_pieces, cut_of, middle, compared_of}
use Rattle.change_segment.proofs.Planned.{shares-most, shared_same, drops_same}
use Rattle.change_lines.proofs.Spans.{made-most}
use Rattle.change_lay.specs.declared.Begun.{Begun}
use Rattle.change_lay.specs.Laid.{ground_of, change_in}

-- ---- the two sides, each if it is there

pub sides_stage : {A : Type 0} (t : A → ℕ) (a b : Option A) → stage t (option_to_list a ++ option_to_list b) ≡ first (stage t (option_to_list a)) (stage t (option_to_list b))
unfolding stage first
sides_stage t (Some x) b = ap (λ (n : ℕ). first n (stage t (option_to_list b))) (sym (first_last (t x)))
sides_stage t None b = refl

-- refusals 14 and 15 of references: none may have one more
abbrev one_more : List Row → List Ref → ℕ
one_more rows = stage (λ (q : Ref). one_more_reference q.start rows)

-- ---- shares, read from their lines

module _ (v : Volume) (c : RangeChange) (p : Parts) (list : Running) where
  abbrev those : List Fields
  those = items list.records.now

  module _ (m : Remade) (made : MadeOf (joined_pieces v c p those) c.lo c.hi 4 list m) (k : Cut) where
    abbrev compared : List Ref
    compared = compared_of k (taken_of m) (made_of m)

    shares-few : length compared ≤ 4
    shares-few = omega (arith, shares-most k (items m.list.records.now) (made_of m) m.segment, made-most m, made.made.few)

    module _ (out : List ℕ) (n : ℕ) (out' : List ℕ) (e : Laid ref_numbers 2 0 compared out n out') where
      -- all lines find room in 8 numbers
      pub lines-few : n ≤ 4
      lines-few = omega (arith, e.lines, shares-few)

      shares_read : length out ≡ 8 → records ref_line 2 (take (n * 2) out') ≡ compared
      shares_read room =
          rw e.output
          (laid_read compared out (n * 2) (omega (arith, shares-few)) (omega (arith, e.lines)))

      pub shares-told :
          length out ≡ 8 → k ≡ cut_of c p
          → (rows : List Row) (f : File) (shared : List ℕ) → Parting (in_leaves those shared) c p → length shared ≡ length those
          → one_more rows (records ref_line 2 (take (n * 2) out')) ≡ one_more rows (shares_compared (ground_from v f those shared rows) (change_of c f.size))
      shares-told room ek rows f shared part one =
          let list_is : items m.list.records.now ≡ those = ap (λ l. items l.records.now) made.list in
          ap (one_more rows)
          (shares_read room
          ∙ ap₂ (λ (q : Cut) (f : List Fields). compared_of q (middle f m.segment) (made_of m)) ek list_is
          ∙ sym (shared_same v f c p those shared rows part one m.segment (made_of m) m.good.order made.made.same))

-- ---- all

module _ (b : Begun) where
  abbrev fs : List Fields
  fs = items_in b.base

  abbrev shared : List ℕ
  shared = b.base.leaves.shared.now

  abbrev more : List Ref → ℕ
  more = one_more (rows_in b.base)

  abbrev g : Ground
  g = ground_of b

  abbrev ch : Change
  ch = change_in b

  -- 13
  pub change_last : b.base.volume.generation ≡ 18446744073709551615 → 13 ≡ change_refusal g ch
  unfolding change_refusal first_of first
  change_last e = rw e refl

  -- and all others, in their order
  pub change-stages : (b.base.volume.generation ≡ 18446744073709551615 → ⊥)
      → first (more (map ref_of (keep (split b.range.lo b.range.hi) fs))) (first (stage (rewrite_refusal g) ch.rewrites) (first (more (shares_compared g ch)) (drops_refusal (rows_in b.base) (drops_in (cut_of b.range b.parts) fs shared))))
      ≡ change_refusal g ch
  unfolding change_refusal first_of
  change-stages n =
      let splits : more (map ref_of (keep (split b.range.lo b.range.hi) fs)) ≡ more (map ref_of (keep (split b.range.lo b.range.hi) (leaf_items (leaves_in b.base)))) = ap (λ (fs : List Fields). more (map ref_of (keep (split b.range.lo b.range.hi) fs))) (sym (leaves-items fs shared b.base.leaves.one_each)) in
      let last : drops_refusal (rows_in b.base) (drops_in (cut_of b.range b.parts) fs shared) ≡ first (drops_refusal (rows_in b.base) (drops g ch)) 0 =
      ap (drops_refusal (rows_in b.base)) (sym (drops_same b.base.volume b.base.file b.range b.parts fs shared (rows_in b.base) b.parting)) ∙ sym (first_last _) in
      ap₂ first splits (ap (λ (n : ℕ). first (stage (rewrite_refusal g) ch.rewrites) (first (more (shares_compared g ch)) n)) last)
      ∙ sym (first_go _ _ (ap (λ (t : Bool). whenever t 13) (ne_eqb b.base.volume.generation 18446744073709551615 n)))
