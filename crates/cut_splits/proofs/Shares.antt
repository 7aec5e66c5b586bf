-- The shares of a cut's splits, but for those of extents that are written in place. Assumes nothing.
use mathlib.Core.Path.{◌≡◌, ap, ◌∙◌}
use mathlib.Core.Bool.{Bool, true, not, ◌&&◌}
use mathlib.Core.List.{List, [], ◌∷◌, map}
use Prim.Native.Nat.{ℕ}
use lib.Dec.{eqb, ltb}
use borrow.Author.Tests.{not-true}
use Rattle.std.specs.List.{filter}
use Rattle.records.specs.Select.{keep}
use Rattle.records.specs.Stages.{stage}
use Rattle.records.proofs.Tests.{both_right, every_map}
use Rattle.records.proofs.Lists.{every-mapped}
use Rattle.records.proofs.Picks.{keep_where, keep-mapped, keep-keep, every-kept, stage-kept}
use Rattle.item.specs.Items.{Fields, hole, end}
use Rattle.table.specs.declared.Row.{Row}
use Rattle.table.specs.Rows.{one_more_reference}
use Rattle.cut_def.specs.Cuts.{split}
use Rattle.cut_def.specs.Refs.{Ref, ref_of}
use Rattle.ref_def.proofs.Among.{nonzero, any_nonzero}
use Rattle.plan_lines.proofs.Filtered.{keep_filter}
use Rattle.cut_splits.specs.Splits.{split_refusal, elsewhere, shared}

-- their refusals, item by item
pub splits_stage : (lo hi : ℕ) (rs : List Row) (fs : List Fields)
    → stage (λ (q : Ref). one_more_reference q.start rs) (map ref_of (keep (split lo hi) fs)) ≡ stage (split_refusal lo hi rs) fs
splits_stage lo hi rs fs = stage-kept (split lo hi) ref_of (λ (q : Ref). one_more_reference q.start rs) fs

-- they are the references of the items that are shared
pub split_refs : (lo hi one two : ℕ) (fs : List Fields) → keep (elsewhere (one ∷ two ∷ [])) (map ref_of (keep (split lo hi) fs)) ≡ map ref_of (filter (shared lo hi one two) fs)
split_refs lo hi one two fs =
    keep-mapped (elsewhere (one ∷ two ∷ [])) ref_of (keep (split lo hi) fs)
    ∙ ap (map ref_of) (keep-keep (λ (f : Fields). elsewhere (one ∷ two ∷ []) (ref_of f)) (split lo hi) fs ∙ keep_filter (shared lo hi one two) fs)

-- an item that is split names an extent
split-named : (lo hi : ℕ) (f : Fields) → split lo hi f ≡ true → not (eqb f.extent_start 0) ≡ true
split-named lo hi f h = both_right (ltb f.key lo && ltb hi (end f)) (not (hole f)) (both_right (ltb lo hi) ((ltb f.key lo && ltb hi (end f)) && not (hole f)) h)

-- so of two extents one that is 0 is none
pub two-extents :
    (lo hi one two : ℕ) (fs : List Fields)
    → keep (elsewhere (one ∷ two ∷ [])) (map ref_of (keep (split lo hi) fs)) ≡ keep (elsewhere (nonzero one two)) (map ref_of (keep (split lo hi) fs))
two-extents lo hi one two fs =
    let named : Ref → Bool = λ q. not (eqb q.start 0) in
    keep_where named (elsewhere (one ∷ two ∷ [])) (elsewhere (nonzero one two))
    (λ q h. ap not (any_nonzero (eqb q.start) (not-true (eqb q.start 0) h) one two))
    (map ref_of (keep (split lo hi) fs))
    (rw (every-mapped named ref_of (keep (split lo hi) fs)) (every_map (split lo hi) (λ (f : Fields). not (eqb f.extent_start 0)) (split-named lo hi) (keep (split lo hi) fs) (every-kept (split lo hi) fs)))
