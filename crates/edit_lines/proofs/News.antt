-- The new items, the lowest key first. Assumes nothing.
use mathlib.Core.Path.{◌≡◌, refl, ◌∙◌, sym}
use mathlib.Core.Bool.{Bool, true, false, false≢true}
use mathlib.Core.List.{List, [], ◌∷◌, map}
use Prim.Native.Nat.{ℕ, ◌+◌, ◌*◌, ◌/◌, ◌<◌, ◌≤◌}
use Rattle.std.specs.Prelude.{Option, Some}
use native.Mathlib.Omega.{arith}
use native.Mathlib.Decide.{dec_lt}
use native.Mathlib.Nat.{add-zero}
use native.Mathlib.Numerals.{add-one}
use lib.ListN.{length, get_or, drop, drop_of_length-le}
use lib.Seq.{drop-cons, get_or-drop}
use Rattle.records.specs.Stages.{pairs}
use Rattle.records.proofs.Lists.{pairs-mapped, pairs-drop}
use Rattle.records.proofs.Loops.{chunks-length, chunks-at}
use Rattle.records.specs.Records.{records}
use Rattle.item.specs.declared.Item.{Item}
use Rattle.item.specs.Items.{Fields, decode, fields, regular_item, of_kind}
use Rattle.lists.specs.Lists.{rises}
use Rattle.cut_def.specs.Pieces.{built, insert_all}
use Rattle.plan_def.specs.Plans.{Add}
use Rattle.edit_merge.specs.declared.Next.{Next}
use Rattle.edit_merge.specs.Merge.{from, together, comes_first, FromSegment}
use Rattle.edit_merge.proofs.News.{from_cons, from_nil, first-new, first-other}
use Rattle.plan_def.specs.ReadBack.{add_in, adds_in}
use Rattle.edit_lines.specs.Pieced.{piece_item, piece_items}
use Rattle.edit_lines.specs.Merge.{piece_first, news, IsNext}

-- ---- what a loop reads next, and the end

-- the pieces
adds-length : (s : List ℕ) → length (adds_in s) ≡ length s / 3
unfolding records
adds-length s = chunks-length add_in 3 (length s / 3) s

adds-at : (s : List ℕ) (k : ℕ) (e : Add) → k < length s / 3 → get_or (adds_in s) k e ≡ add_in (drop (k * 3) s)
unfolding records
adds-at s k e h = chunks-at add_in 3 (length s / 3) s k e h

pub adds_cons : (s : List ℕ) (k : ℕ) → k < length s / 3 → drop k (adds_in s) ≡ add_in (drop (k * 3) s) ∷ drop (k + 1) (adds_in s)
adds_cons s k h =
    let l : k < length (adds_in s) = omega (arith, adds-length s) in
    rw (add-one, drop-cons (adds_in s) k (add_in s) l, adds-at s k (add_in s) h) refl

adds_nil : (s : List ℕ) (k : ℕ) → length s / 3 ≤ k → drop k (adds_in s) ≡ []
adds_nil s k h = drop_of_length-le (adds_in s) {i = k} (omega (arith, adds-length s))

-- a piece's numbers
pub piece_read : (file generation : ℕ) (s : List ℕ) (k : ℕ) → of_kind (regular_item file (get_or s (k + 2) 0) generation (get_or s k 0) (get_or s (k + 1) 0)) 2 ≡ piece_item file generation (add_in (drop k s))
unfolding add_in
piece_read file generation s k = simp (get_or-drop, add-zero)

pub piece_key : (s : List ℕ) (k : ℕ) → get_or s (k + 2) 0 ≡ (add_in (drop k s)).key
unfolding add_in
piece_key s k = simp (get_or-drop)

-- ---- whether the next new item is a piece

module _ (t p : List ℕ) (j k : ℕ) where
  abbrev first : Bool
  first = piece_first (from t j) (drop k (adds_in p))

  pub piece_none : length p / 3 ≤ k → false ≡ first
  piece_none h = rw (adds_nil p k h) refl

  piece_last : k < length p / 3 → length t / 70 ≤ j → true ≡ first
  piece_last h l = rw (adds_cons p k h, from_nil t j l) refl

  -- a piece that comes first is there
  pub piece_some : (b : Bool) → b ≡ first → b ≡ true → k < length p / 3
  piece_some b e h =
      elim (dec_lt k (length p / 3)) [
        | yes l ↦ l
        | no m ↦ absurd (false≢true (piece_none (omega arith) ∙ sym e ∙ h))
      ]

  piece_gone : (b : Bool) → b ≡ first → b ≡ false → length t / 70 ≤ j → length p / 3 ≤ k
  piece_gone b e h l =
      elim (dec_lt k (length p / 3)) [
        | yes m ↦ absurd (false≢true (sym (piece_last m l ∙ sym e ∙ h)))
        | no m ↦ omega arith
      ]

-- ---- the first of the new items

module _ (file generation : ℕ) where
  abbrev piece : Add → Fields
  piece = piece_item file generation

  -- by a piece's key, or by its item's
  first-same : (adds : List Add) (gs : List Fields) → comes_first (map piece adds) gs ≡ piece_first gs adds
  first-same [] [] = refl
  first-same [] (g ∷ gs) = refl
  first-same (a ∷ adds) [] = refl
  first-same (a ∷ adds) (g ∷ gs) = refl

  -- the pieces from one on rise
  rise-from : (p : List ℕ) (k : ℕ) → pairs rises (piece_items file generation p) ≡ true → pairs rises (map piece (drop k (adds_in p))) ≡ true
  rise-from p k r =
      rw (pairs-mapped rises piece (drop k (adds_in p)))
      (pairs-drop (λ (a b : Add). rises (piece a) (piece b)) k (adds_in p) (sym (pairs-mapped rises piece (adds_in p)) ∙ r))

  -- no new items are left
  pub news-none : (t p : List ℕ) (j k : ℕ) → length t / 70 ≤ j → length p / 3 ≤ k → news file generation t p j k ≡ []
  unfolding insert_all
  news-none t p j k h l = rw (from_nil t j h, adds_nil p k l) refl

  -- ---- what `next_new` answers

  module _ (t p : List ℕ) (j k : ℕ) (r : pairs rises (piece_items file generation p) ≡ true) (hj : j ≤ length t / 70) (hk : k ≤ length p / 3) (b : Bool) (e : b ≡ piece_first (from t j) (drop k (adds_in p))) where
    pub next_piece : (item : Item) → b ≡ true → fields item ≡ piece (add_in (drop (k * 3) p)) → IsNext file generation t p j k (Some (record { item = item; j = j; k = k + 1 }))
    next_piece item h f =
        let l = piece_some t p j k b e h in
        record {
          heads = record { there = λ x s. (let q : record { item = item; j = j; k = k + 1 } ≡ x = cc in rw (← q) (go (drop k (adds_in p)) (adds_cons p k l) (sym e ∙ h) (rise-from p k r))); none = λ s. cc };
          none = λ s. cc;
          there = λ x s. (let q : record { item = item; j = j; k = k + 1 } ≡ x = cc in rw (← q) (omega arith, hj, omega arith));
        }
      where
        go : (adds : List Add) → adds ≡ add_in (drop (k * 3) p) ∷ drop (k + 1) (adds_in p) → piece_first (from t j) adds ≡ true → pairs rises (map piece adds) ≡ true → together (map piece adds) (from t j) ≡ built (fields item) ∷ news file generation t p j (k + 1)
        go adds q h r = rw (q, f) (first-new (piece (add_in (drop (k * 3) p))) (map piece (drop (k + 1) (adds_in p))) (from t j) (first-same (add_in (drop (k * 3) p) ∷ drop (k + 1) (adds_in p)) (from t j) ∙ rw q at h) (rw q at r))

    -- none is left, or the segment's next one
    pub next-rest : (next : Option Next) → b ≡ false → FromSegment t j k next → IsNext file generation t p j k next
    next-rest next h s =
        record {
          heads = record { there = λ x z. there x z; none = λ z. news-none t p j k (s.none z) (piece_gone t p j k b e h (s.none z)) };
          none = λ z. (s.none z, piece_gone t p j k b e h (s.none z));
          there = λ x z. (let q = s.there x z in (omega (arith, q.2), omega (arith, q.0, q.2), omega (arith, q.3)));
        }
      where
        behind : (gs : List Fields) → gs ≡ decode (drop (j * 70) t) ∷ from t (j + 1) → piece_first gs (drop k (adds_in p)) ≡ false → together (map piece (drop k (adds_in p))) gs ≡ built (decode (drop (j * 70) t)) ∷ news file generation t p (j + 1) k
        behind gs q h = rw q (first-other (map piece (drop k (adds_in p))) (decode (drop (j * 70) t)) (from t (j + 1)) (first-same (drop k (adds_in p)) (decode (drop (j * 70) t) ∷ from t (j + 1)) ∙ rw q at h) (rise-from p k r))

        there : (x : Next) → next ≡ Some x → news file generation t p j k ≡ built (fields x.item) ∷ news file generation t p x.j x.k
        there x z = let q = s.there x z in rw (q.1, q.2, q.3) (behind (from t j) (from_cons t j q.0) (sym e ∙ h))
