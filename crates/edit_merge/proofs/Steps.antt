-- The steps of a merge, from what its calls ensure. Assumes nothing.
use mathlib.Core.Path.{◌≡◌, refl, ap, ◌∙◌, sym}
use mathlib.Core.Bool.{true, false, false≢true}
use mathlib.Core.List.{List, [], ◌∷◌, flat_map}
use Prim.Native.Nat.{ℕ, zero, suc, ◌+◌, ◌*◌, ◌/◌, ◌<◌, ◌≤◌}
use Rattle.std.specs.Prelude.{Option, Some, None}
use Rattle.std.proofs.Common.{inl, inr}
use native.Mathlib.Omega.{arith}
use native.Mathlib.Decide.{dec_lt}
use lib.ListN.{length, drop, replicate}
use borrow.Author.Tests.{eq-eqb}
use Rattle.records.specs.Stages.{every, pairs}
use Rattle.records.proofs.Tests.{both_right}
use Rattle.records.proofs.Lists.{pairs-drop}
use Rattle.endian.specs.Le.{Bytes}
use Rattle.item.specs.declared.Item.{Item}
use Rattle.item.specs.Items.{Fields, decode, items, fields, encode}
use Rattle.item.specs.Raw.{blank}
use Rattle.item.proofs.Runs.{key-and_data}
use Rattle.lists.specs.Lists.{rises}
use Rattle.cut_def.specs.Pieces.{Piece, built, items_of}
use Rattle.cut_def.specs.Edits.{Edit, put, delete, edits}
use Rattle.cut_def.proofs.Cases.{edits-gone}
use Rattle.plan_def.specs.Outputs.{edit_bytes}
use Rattle.plan_lines.specs.Lines.{Laid}
use Rattle.plan_lines.proofs.Laws.{Going, going_done}
use Rattle.edit_merge.specs.declared.Next.{Next}
use Rattle.edit_merge.specs.declared.MergeCursor.{MergeCursor}
use Rattle.edit_merge.specs.Merge.{gone, behind, from, Heads, GoesOn, Merging, FromSegment}
use Rattle.edit_merge.proofs.Cases.{merge_gone, merge_put}
use Rattle.edit_merge.proofs.News.{from_cons, from_nil, first_read, none-read}

-- ---- whether the old list's head goes

module _ (s : List ℕ) (i : ℕ) where
  -- an old item that goes is there
  pub gone-some : (key : Option ℕ) → true ≡ gone key (from s i) → i < length s / 70
  gone-some key e =
      elim (dec_lt i (length s / 70)) [
        | yes l ↦ l
        | no m ↦ absurd (false≢true (sym (e ∙ ap (gone key) (from_nil s i (omega arith)))))
      ]

-- a key that is put passes the old item that has it
pub behind-same : (s : List ℕ) (i k : ℕ) (f : Fields) (fs : List Fields) → from s i ≡ f ∷ fs → f.key ≡ k → (from s (i + 1) ≡ behind k (from s i)) × (i ≤ i + 1) × (i + 1 ≤ length s / 70)
behind-same s i k f fs e q =
    let r = first_read s i f fs e in
    (sym (rw (e, eq-eqb f.key k q) r.2), omega arith, omega (arith, r.0))

-- the one new item that is next
pub next_gone : (s : List ℕ) (i : ℕ) (next : Option Next) (y x : Next) → next ≡ Some y → next ≡ Some x → gone (Some y.item.key) (from s i) ≡ true → gone (Some x.item.key) (from s i) ≡ true
next_gone s i next y x d e h = let q : y ≡ x = cc in rw q at h

-- ---- a delete's bytes

zeros_bytes : (n : ℕ) → Bytes (replicate n 0)
zeros_bytes zero i = omega arith
zeros_bytes (suc n) zero = omega arith
zeros_bytes (suc n) (suc i) = zeros_bytes n i

-- a delete's record is that of an item without data
pub delete-bytes : (file key : ℕ) (item : Item) → item ≡ blank file key → 2 ∷ encode (fields item) ≡ edit_bytes file (delete key)
delete-bytes file key item e = rw e (ap (λ (s : List ℕ). 2 ∷ s) (sym (key-and_data (blank file key) (zeros_bytes 53) refl)))

-- ---- a step

module _ (file : ℕ) (s : List ℕ) (at : MergeCursor) (next : Option Next) (out out' : List ℕ) (m : ℕ) where
  -- an old item goes: it comes before the new one, if there is one
  pub merging_gone :
      (f : Fields) → at.i < length s / 70 → f ≡ decode (drop (at.i * 70) s)
      → ((x : Next) → next ≡ Some x → gone (Some x.item.key) (from s at.i) ≡ true)
      → Laid (edit_bytes file) 71 at.n (delete f.key ∷ []) out m out' → Merging file s at next out (record { i = at.i + 1; j = at.j; k = at.k; n = m }) out'
  merging_gone f l d q h =
      record {
        edit = delete f.key;
        first = λ news heads r. go next refl (news at.j at.k) news (λ x e. heads.there x e) heads.none r;
        laid = h;
        on = inl (refl, refl, omega arith);
        least = omega arith;
        most = omega arith;
      }
    where
      cons : from s at.i ≡ f ∷ from s (at.i + 1)
      cons = from_cons s at.i l ∙ rw d refl

      go :
          (o : Option Next) → next ≡ o → (ps : List Piece) (news : ℕ → ℕ → List Piece)
          → ((x : Next) → next ≡ Some x → ps ≡ built (fields x.item) ∷ news x.j x.k) → (next ≡ None → ps ≡ [])
          → pairs rises (items_of ps) ≡ true → edits (from s at.i) ps ≡ delete f.key ∷ edits (from s (at.i + 1)) ps
      go None e ps news t n r = rw (cons, n e) (edits-gone f (from s (at.i + 1)) [] (unfold every in refl))
      go (Some x) e ps news t n r =
          let u = t x e in
          rw (cons, u) (merge_gone f (from s (at.i + 1)) (fields x.item) (news x.j x.k) (rw cons at (q x e)) (rw u at r))

  -- the new item is put
  pub merging-put :
      (x : Next) (k : ℕ) → next ≡ Some x → gone (Some x.item.key) (from s at.i) ≡ false → pairs rises (items s) ≡ true
      → (from s k ≡ behind x.item.key (from s at.i)) × (at.i ≤ k) × (k ≤ length s / 70)
      → Laid (edit_bytes file) 71 at.n (put (fields x.item) ∷ []) out m out'
      → Merging file s at next out (record { i = k; j = x.j; k = x.k; n = m }) out'
  merging-put x k e h o q l =
      record {
        edit = put (fields x.item);
        first = λ news heads r. let u = heads.there x e in rw (u, q.0) (merge_put (from s at.i) (fields x.item) (news x.j x.k) h (pairs-drop rises at.i (items s) o) (rw u at r));
        laid = l;
        on = inr (x, e, refl, refl);
        least = q.1;
        most = q.2;
      }

-- what is left rises still
pub rest-rises : (g : Fields) (gs : List Fields) → pairs rises (g ∷ gs) ≡ true → pairs rises gs ≡ true
unfolding pairs
rest-rises g gs h = both_right (every (rises g) gs) (pairs rises gs) h

pub left-rises : (news : ℕ → ℕ → List Piece) (at : MergeCursor) (next : Option Next) (to : MergeCursor) → Heads news at.j at.k next → GoesOn at next to
    → pairs rises (items_of (news at.j at.k)) ≡ true → pairs rises (items_of (news to.j to.k)) ≡ true
left-rises news at next to h (inl q) r = rw (q.0, q.1) r
left-rises news at next to h (inr q) r = let x = q.0 in rw (q.2, q.3) (rest-rises (fields x.item) (items_of (news x.j x.k)) (rw (h.there x q.1) at r))

-- ---- the end of a loop

module _ (file : ℕ) (s : List ℕ) (n₀ : ℕ) (all : List Edit) (out₀ : List ℕ) where
  pub merge_end : (i n : ℕ) (ps : List Piece) (out : List ℕ) → length s / 70 ≤ i → ps ≡ [] → Going (edit_bytes file) 71 n₀ all out₀ n (edits (from s i) ps) out → Laid (edit_bytes file) 71 n₀ all out₀ n out
  unfolding edits flat_map
  merge_end i n ps out h e g = going_done (edit_bytes file) 71 n₀ all out₀ n out (rw (from_nil s i h, e) at g)

-- ---- the next item of a segment

pub segment_none : (t : List ℕ) (j k : ℕ) (next : Option Next) → next ≡ None → from t j ≡ [] → FromSegment t j k next
segment_none t j k next e h = record { there = λ x z. cc; none = λ z. none-read t j h }

pub segment_some : (t : List ℕ) (j k : ℕ) (item : Item) (fs : List Fields) → from t j ≡ fields item ∷ fs → FromSegment t j k (Some (record { item = item; j = j + 1; k = k }))
segment_some t j k item fs e =
    let r = first_read t j (fields item) fs e in
    record { there = λ x z. (let y : record { item = item; j = j + 1; k = k } ≡ x = cc in rw (← y) (r.0, r.1, refl, refl)); none = λ z. cc }
