-- The steps of the merge, from what its calls ensure. Assumes nothing.
use mathlib.Core.Path.{◌≡◌, refl}
use mathlib.Core.List.{List, [], ◌∷◌, flat_map}
use Prim.Native.Nat.{ℕ, ◌+◌, ◌/◌, ◌<◌, ◌≤◌}
use Rattle.std.specs.Prelude.{Option, None}
use Rattle.std.proofs.Common.{inl, inr}
use native.Mathlib.Omega.{arith}
use lib.ListN.{length}
use Rattle.cut_def.specs.Edits.{Edit, edits}
use Rattle.plan_def.specs.Outputs.{edit_bytes}
use Rattle.plan_lines.specs.Lines.{Laid}
use Rattle.plan_lines.proofs.Laws.{Going, going-turn, going_done}
use Rattle.edit_merge.specs.Merge.{GoesOn, Merging}
use Rattle.edit_merge.proofs.News.{from_nil}
use Rattle.edit_merge.proofs.Steps.{left-rises}
use Rattle.edit_merge.specs.declared.Next.{Next}
use Rattle.edit_merge.specs.declared.MergeCursor.{MergeCursor}
use Rattle.edit_lines.specs.Merge.{news, edits_from, IsNext, Ready, Stepped}
use Rattle.edit_lines.proofs.News.{news-none}

-- ---- a step

-- an old item is left where no new one is
pub old-left :
    (file generation : ℕ) (t p s : List ℕ) (at : MergeCursor) (next : Option Next)
    → Ready file generation t p s at → IsNext file generation t p at.j at.k next → next ≡ None → at.i < length s / 70
old-left file generation t p s at next r x u = let z = x.none u in omega (arith, r.some, z.0, z.1)

pub stepped :
    (file generation : ℕ) (t p s : List ℕ) (at : MergeCursor) (next : Option Next) (out : List ℕ) (to : MergeCursor) (out' : List ℕ)
    → Ready file generation t p s at → IsNext file generation t p at.j at.k next → Merging file s at next out to out' → Stepped file generation t p s at out to out'
stepped file generation t p s at next out to out' r x g =
    let l = by g.on in
    record {
      edit = g.edit;
      first = g.first (news file generation t p) x.heads r.news;
      news = left-rises (news file generation t p) at next to x.heads g.on r.news;
      laid = g.laid;
      on = l.0;
      i = g.most;
      j = l.1;
      k = l.2;
    }
  where
    by : GoesOn at next to → (at.i + (at.j + at.k) < to.i + (to.j + to.k)) × (to.j ≤ length t / 70) × (to.k ≤ length p / 3)
    by (inl q) = (omega (arith, q.0, q.1, q.2), omega (arith, q.0, r.j), omega (arith, q.1, r.k))
    by (inr q) = let z = x.there q.0 q.1 in (omega (arith, q.2, q.3, z.0, g.least), omega (arith, q.2, z.1), omega (arith, q.3, z.2))

-- ---- the loop

module _ (file generation : ℕ) (t p s : List ℕ) where
  edits-done : (at : MergeCursor) → length s / 70 ≤ at.i → length t / 70 ≤ at.j → length p / 3 ≤ at.k → edits_from file generation t p s at ≡ []
  unfolding edits flat_map
  edits-done at h k l = rw (from_nil s at.i h, news-none file generation t p at.j at.k k l) refl

  module _ (n₀ : ℕ) (all : List Edit) (out₀ : List ℕ) where
    -- a turn of the loop, and its end
    pub edits-turn :
        (at to : MergeCursor) (out out' : List ℕ)
        → Going (edit_bytes file) 71 n₀ all out₀ at.n (edits_from file generation t p s at) out → Stepped file generation t p s at out to out'
        → Going (edit_bytes file) 71 n₀ all out₀ to.n (edits_from file generation t p s to) out'
    edits-turn at to out out' g q = going-turn (edit_bytes file) 71 n₀ all out₀ at.n (q.edit ∷ []) (edits_from file generation t p s to) out to.n out' (rw q.first at g) q.laid

    pub edits-end :
        (at : MergeCursor) (out : List ℕ) → length s / 70 ≤ at.i → length t / 70 ≤ at.j → length p / 3 ≤ at.k
        → Going (edit_bytes file) 71 n₀ all out₀ at.n (edits_from file generation t p s at) out → Laid (edit_bytes file) 71 n₀ all out₀ at.n out
    edits-end at out h k l g = going_done (edit_bytes file) 71 n₀ all out₀ at.n out (rw (edits-done at h k l) at g)
