-- What the calls that lay a clone's plan give together. Assumes nothing.
use mathlib.Core.Path.{◌≡◌, ap, sym}
use mathlib.Core.List.{List, [], ◌∷◌, ◌++◌, map}
use Prim.Native.Nat.{ℕ, ◌+◌, ◌<◌, ◌^◌}
use native.Mathlib.Omega.{arith}
use lib.ListN.{length}
use Rattle.records.specs.Select.{keep}
use Rattle.item.specs.Items.{Fields, items}
use Rattle.table.specs.declared.Row.{Row}
use Rattle.cut_def.specs.Cuts.{split}
use Rattle.cut_def.specs.Refs.{Ref, ref_of}
use Rattle.ref_def.specs.Drops.{releases, unrefs}
use Rattle.plan_def.specs.Outputs.{Outs, ref_numbers, write_numbers}
use Rattle.plan_lines.specs.Lines.{Laid}
use Rattle.plan_lines.proofs.Laws.{laid_none, laid_append}
use Rattle.plan_lines.proofs.Loops.{laid_same}
use Rattle.drop_lines.specs.declared.Cut.{Cut}
use Rattle.drop_lines.specs.Dropped.{drops_in}
use Rattle.drop_lines.proofs.Cuts.{drops-plain}
use Rattle.cut_splits.specs.Splits.{elsewhere}
use Rattle.change_lines.proofs.Spans.{splits_most}
use Rattle.change_lay.specs.declared.RefCounts.{RefCounts}
use Rattle.change_lay.specs.declared.Edited.{Edited}
use Rattle.change_lay.specs.Laid.{RefsLaid, EditsLaid, PlanLaid}
use Rattle.clone_items.specs.declared.Copying.{Copying}
use Rattle.clone_items.specs.Copies.{clones}
use Rattle.clone_items.specs.Replacing.{clone_splits, clone_drops, plan_for}
use Rattle.clone_lay.specs.Raw.{cut_for, Placing}
use Rattle.clone_lay.proofs.Placed.{splits_plain}

module _ (c : Copying) (k : Cut) (e : k ≡ cut_for c) where
  abbrev kept_splits : List Fields → List Ref
  kept_splits fs = keep (elsewhere (k.one ∷ k.two ∷ [])) (map ref_of (keep (split k.lo k.hi) fs))

  splits_all : (fs : List Fields) → clone_splits c fs ≡ kept_splits fs
  splits_all fs = rw e (sym (splits_plain (cut_for c).lo (cut_for c).hi fs))

  -- the shares: splits, then copies
  pub shares-room : (list source : List ℕ) (n : ℕ) (out out' : List ℕ) → Placing c (items list) (items source) → Laid ref_numbers 2 0 (kept_splits (items list)) out n out' → n + length (items source) < 2 ^ 64
  shares-room list source n out out' h l =
      let m = splits_most k.lo k.hi (k.one ∷ k.two ∷ []) (items list) in
      let a = h.sized in
      let b = h.«source-sized» in
      omega (arith, l.lines)

  pub shares-laid :
      (fs source : List Fields) (n m : ℕ) (out out' out'' : List ℕ) → Laid ref_numbers 2 0 (kept_splits fs) out n out' → Laid ref_numbers 2 n (map ref_of (clones c source)) out' m out''
      → Laid ref_numbers 2 0 (clone_splits c fs ++ map ref_of (clones c source)) out m out''
  shares-laid fs source n m out out' out'' a b = laid_append ref_numbers 2 0 n m (clone_splits c fs) (map ref_of (clones c source)) out out' out'' (laid_same ref_numbers 2 0 (clone_splits c fs) (kept_splits fs) out n out' (splits_all fs) a) b

  drops_all : (fs : List Fields) (bs : List ℕ) → clone_drops c fs bs ≡ drops_in k fs bs
  drops_all fs bs = rw e (drops-plain (cut_for c).lo (cut_for c).hi fs bs)

  pub refs-laid :
      (fs : List Fields) (bs : List ℕ) (source : List Fields) (rs : List Row) (size : ℕ) (x y z : ℕ) (s u r s' u' r' : List ℕ)
      → Laid ref_numbers 2 0 (clone_splits c fs ++ map ref_of (clones c source)) s x s'
      → Laid ref_numbers 2 0 (unrefs rs (drops_in k fs bs)) u y u'
      → Laid ref_numbers 2 0 (releases rs (drops_in k fs bs)) r z r'
      → RefsLaid (plan_for c fs bs source rs size) (record { shares = x; unrefs = y; releases = z }) s u r s' u' r'
  refs-laid fs bs source rs size x y z s u r s' u' r' ls lu lr =
      record {
        shares = ls;
        unrefs = laid_same ref_numbers 2 0 (unrefs rs (clone_drops c fs bs)) (unrefs rs (drops_in k fs bs)) u y u' (ap (unrefs rs) (drops_all fs bs)) lu;
        releases = laid_same ref_numbers 2 0 (releases rs (clone_drops c fs bs)) (releases rs (drops_in k fs bs)) r z r' (ap (releases rs) (drops_all fs bs)) lr;
      }

-- with the edits; nothing is written
pub plan-laid :
    (c : Copying) (fs : List Fields) (bs : List ℕ) (source : List Fields) (rs : List Row) (size : ℕ) (n : RefCounts) (e : Edited) (before after : Outs)
    → RefsLaid (plan_for c fs bs source rs size) n before.shares before.unrefs before.releases after.shares after.unrefs after.releases
    → EditsLaid c.number (plan_for c fs bs source rs size).edits (plan_for c fs bs source rs size).bytes e before.edits after.edits
    → after.writes ≡ before.writes
    → after.adds ≡ before.adds
    → PlanLaid c.number (plan_for c fs bs source rs size) (plan_for c fs bs source rs size).edits (record { refs = n; edits = e; writes = 0 }) before after
plan-laid c fs bs source rs size n e before after lr le w a =
    record {
      refs = record { shares = lr.shares; unrefs = lr.unrefs; releases = lr.releases };
      edits = le;
      writes = rw w (laid_none write_numbers 4 0 before.writes);
      adds = a;
    }
