-- The steps of a merge with copies, from what its calls ensure. Assumes nothing.
use mathlib.Core.Path.{◌≡◌, refl, ◌∙◌, sym}
use mathlib.Core.Bool.{Bool, true, false}
use mathlib.Core.List.{List, [], ◌∷◌}
use Prim.Native.Nat.{ℕ, ◌+◌, ◌*◌, ◌/◌, ◌<◌, ◌≤◌}
use Rattle.std.specs.Prelude.{Option, Some}
use Rattle.std.proofs.Common.{inl, inr}
use native.Mathlib.Omega.{arith}
use lib.ListN.{length, drop}
use Rattle.records.specs.Stages.{pairs}
use Rattle.item.specs.declared.Item.{Item}
use Rattle.item.specs.Items.{Fields, decode, items, fields}
use Rattle.lists.specs.Lists.{rises}
use Rattle.cut_def.specs.Pieces.{built, insert_all}
use Rattle.cut_def.specs.Edits.{Edit}
use Rattle.plan_def.specs.Outputs.{edit_bytes}
use Rattle.plan_lines.specs.Lines.{Laid}
use Rattle.plan_lines.proofs.Laws.{Going, going-turn}
use Rattle.edit_merge.specs.declared.Next.{Next}
use Rattle.edit_merge.specs.declared.MergeCursor.{MergeCursor}
use Rattle.edit_merge.specs.Merge.{from, together, comes_first, GoesOn, Merging, FromSegment}
use Rattle.edit_merge.proofs.News.{from_cons, from_nil, first-new, first-other}
use Rattle.edit_merge.proofs.Steps.{left-rises, merge_end}
use Rattle.clone_items.specs.declared.Copying.{Copying}
use Rattle.clone_items.specs.Copies.{clone_item, clones}
use Rattle.clone_copies.specs.Walk.{Settled, Sought, news, IsNext, edits_from, Good, Ready, Stepped}
use Rattle.clone_copies.proofs.Walk.{walk_copied, walk_end, copy_gone, copies-rise}

-- no new items are left
news-none : (c : Copying) (s t : List ℕ) (j k : ℕ) → length t / 70 ≤ j → length s / 70 ≤ k → news c s t j k ≡ []
unfolding insert_all
news-none c s t j k h l = rw (from_nil t j h, walk_end c s k l) refl

-- ---- the next new item

module _ (c : Copying) (s t : List ℕ) (j k : ℕ) (r : pairs rises (clones c (items s)) ≡ true) (hj : j ≤ length t / 70) (w : Settled c s k) (b : Bool) (e : b ≡ comes_first (clones c (from s k)) (from t j)) where
  pub next_copy :
      (item : Item) (next : ℕ) → b ≡ true → k < length s / 70 → fields item ≡ clone_item c (decode (drop (k * 70) s)) → Sought c s (k + 1) next
      → IsNext c s t j k (Some (record { item = item; j = j; k = next }))
  next_copy item next h l f q =
      record {
        heads = record { there = λ x z. (let y : record { item = item; j = j; k = next } ≡ x = cc in rw (← y) (go (clones c (from s k)) (walk_copied c s k l (w.there l)) (sym e ∙ h) (copies-rise c s k r))); none = λ z. cc };
        none = λ z. cc;
        there = λ x z. (let y : record { item = item; j = j; k = next } ≡ x = cc in rw (← y) (omega (arith, q.least), hj, q.settled));
      }
    where
      go : (ys : List Fields) → ys ≡ clone_item c (decode (drop (k * 70) s)) ∷ clones c (from s (k + 1)) → comes_first ys (from t j) ≡ true → pairs rises ys ≡ true → together ys (from t j) ≡ built (fields item) ∷ news c s t j next
      go ys x h u = rw (x, f, q.same) (first-new (clone_item c (decode (drop (k * 70) s))) (clones c (from s (k + 1))) (from t j) (rw x at h) (rw x at u))

  -- none is left, or the segment's next one
  pub next-rest : (next : Option Next) → b ≡ false → FromSegment t j k next → IsNext c s t j k next
  next-rest next h q =
      record {
        heads = record { there = λ x z. there x z; none = λ z. news-none c s t j k (q.none z) (copy_gone c s t j k w b e h (q.none z)) };
        none = λ z. (q.none z, copy_gone c s t j k w b e h (q.none z));
        there = λ x z. (let y = q.there x z in (omega (arith, y.2), omega (arith, y.0, y.2), rw y.3 w));
      }
    where
      behind : (gs : List Fields) → gs ≡ decode (drop (j * 70) t) ∷ from t (j + 1) → comes_first (clones c (from s k)) gs ≡ false → together (clones c (from s k)) gs ≡ built (decode (drop (j * 70) t)) ∷ news c s t (j + 1) k
      behind gs x h = rw x (first-other (clones c (from s k)) (decode (drop (j * 70) t)) (from t (j + 1)) (rw x at h) (copies-rise c s k r))

      there : (x : Next) → next ≡ Some x → news c s t j k ≡ built (fields x.item) ∷ news c s t x.j x.k
      there x z = let y = q.there x z in rw (y.1, y.2, y.3) (behind (from t j) (from_cons t j y.0) (sym e ∙ h))

-- ---- a step

pub stepped :
    (c : Copying) (s t o : List ℕ) (at : MergeCursor) (next : Option Next) (out : List ℕ) (to : MergeCursor) (out' : List ℕ)
    → Ready c s t o at → IsNext c s t at.j at.k next → Merging c.number o at next out to out' → Stepped c s t o at out to out'
stepped c s t o at next out to out' r x g =
    let l = by g.on in
    record {
      edit = g.edit;
      first = g.first (news c s t) x.heads r.good.news;
      laid = g.laid;
      on = l.0;
      good = record { news = left-rises (news c s t) at next to x.heads g.on r.good.news; i = g.most; j = l.1; settled = l.2 };
    }
  where
    by : GoesOn at next to → (at.i + (at.j + at.k) < to.i + (to.j + to.k)) × (to.j ≤ length t / 70) × Settled c s to.k
    by (inl q) = (omega (arith, q.0, q.1, q.2), omega (arith, q.0, r.good.j), rw q.1 r.good.settled)
    by (inr q) = let z = x.there q.0 q.1 in (omega (arith, q.2, q.3, z.0, g.least), omega (arith, q.2, z.1), rw q.3 z.2)

-- ---- the loop

module _ (c : Copying) (s t o : List ℕ) where
  module _ (all : List Edit) (out₀ : List ℕ) where
    pub steps-turn :
        (at to : MergeCursor) (out out' : List ℕ)
        → Going (edit_bytes c.number) 71 0 all out₀ at.n (edits_from c s t o at) out → Stepped c s t o at out to out'
        → Going (edit_bytes c.number) 71 0 all out₀ to.n (edits_from c s t o to) out'
    steps-turn at to out out' g q = going-turn (edit_bytes c.number) 71 0 all out₀ at.n (q.edit ∷ []) (edits_from c s t o to) out to.n out' (rw q.first at g) q.laid

    pub steps-end :
        (at : MergeCursor) (out : List ℕ) → Good c s t o at → length o / 70 + (length t / 70 + length s / 70) ≤ at.i + (at.j + at.k)
        → Going (edit_bytes c.number) 71 0 all out₀ at.n (edits_from c s t o at) out → Laid (edit_bytes c.number) 71 0 all out₀ at.n out
    steps-end at out d h g =
        let a = d.i in
        let b = d.j in
        let e = d.settled.most in
        merge_end c.number o 0 all out₀ at.i at.n (news c s t at.j at.k) out (omega arith) (news-none c s t at.j at.k (omega arith) (omega arith)) g
