-- What a cut touches lies between two searches. Assumes nothing.
use mathlib.Core.Path.{◌≡◌, refl}
use mathlib.Core.Bool.{true, and-false}
use mathlib.Core.List.{List}
use Prim.Native.Nat.{ℕ, ◌-◌, ◌≤◌, ◌<◌}
use native.Mathlib.Omega.{arith}
use lib.Dec.{ltb}
use lib.ListN.{take, drop}
use borrow.Author.Tests.{leb-true, ltb-true, le-leb, le-ltb}
use Rattle.records.specs.Stages.{every}
use Rattle.records.proofs.Tests.{every_map}
use Rattle.records.proofs.Lists.{at_every}
use Rattle.item.specs.Items.{Fields, end}
use Rattle.cut_segment.specs.Segments.{nothing, leading, ends_by, starts_by, starts_past, untouched, Runs, Touching}
use Rattle.cut_segment.proofs.Cutting.{leading-most, every-leading}
use Rattle.cut_segment.proofs.Halves.{leading-on}
use Rattle.cut_segment.proofs.Segments.{past-leading}

module _ (lo hi : ℕ) (fs : List Fields) where
  -- an empty range touches nothing
  pub touching_none : hi ≤ lo → Touching lo hi fs (record { start = 0; «end» = 0 })
  touching_none h =
      record {
        order = omega arith;
        inside = omega arith;
        before = unfold every in refl;
        behind = at_every (untouched lo hi) nothing fs (λ i l. rw (le-ltb lo hi h) refl);
        none = λ e. (refl, refl);
        first = λ l. absurd (omega arith);
        last = λ l. absurd (omega arith);
      }

  pub touching-some :
      (from to : ℕ) → lo < hi → Runs 0 fs → from ≡ leading (ends_by lo) fs → to ≡ leading (starts_by (hi - 1)) fs
      → Touching lo hi fs (record { start = from; «end» = to })
  touching-some from to some r hf ht =
      let on = leading-on (ends_by lo) (starts_by (hi - 1)) (λ f e. le-leb f.key (hi - 1) (omega (arith, leb-true (end f) lo e))) fs in
      let ended : (f : Fields) → ends_by lo f ≡ true → untouched lo hi f ≡ true = λ f e. rw (le-ltb lo (end f) (leb-true (end f) lo e), and-false (ltb lo hi)) refl in
      let past : (f : Fields) → starts_past (hi - 1) f ≡ true → untouched lo hi f ≡ true =
      λ f e. (let l = ltb-true (hi - 1) f.key e in rw (le-ltb f.key hi (omega arith), and-false (ltb lo (end f)), and-false (ltb lo hi)) refl) in
      record {
        order = omega (arith, on);
        inside = omega (arith, leading-most (starts_by (hi - 1)) fs);
        before = rw hf (every_map (ends_by lo) (untouched lo hi) ended (take (leading (ends_by lo) fs) fs) (every-leading (ends_by lo) fs));
        behind = rw ht (every_map (starts_past (hi - 1)) (untouched lo hi) past (drop (leading (starts_by (hi - 1)) fs) fs) (past-leading (hi - 1) (hi - 1) 0 fs r (omega arith)));
        none = λ e. absurd (omega arith);
        first = λ l. hf;
        last = λ l. ht;
      }
