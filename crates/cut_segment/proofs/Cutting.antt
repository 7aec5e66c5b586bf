-- What a cut leaves of a list is a segment of at most two items. Assumes nothing.
use mathlib.Core.Path.{◌≡◌, refl, ap, ◌∙◌, sym}
use mathlib.Core.Bool.{Bool, true, false, cond, and-false}
use mathlib.Core.List.{List, [], ◌∷◌, ◌++◌, map, flat_map, map-append, append_assoc, append-nil}
use Prim.Native.Nat.{ℕ, zero, suc, ◌+◌, ◌-◌, ◌≤◌, ◌<◌}
use Rattle.std.specs.Prelude.{Option, Some, None, MatchOption, unwrap_or}
use native.Mathlib.Omega.{arith}
use native.Mathlib.Nat.{zero-add, suc-add}
use lib.Dec.{ltb}
use lib.ListN.{length, get_or, take, drop, length-take, length-drop}
use lib.Seq.{get_or-take, get_or-drop}
use borrow.Author.Tests.{leb-true, leb-false, ltb-true, lt-leb, lt-ltb, le-ltb}
use Rattle.records.specs.Stages.{every}
use Rattle.records.specs.Select.{only}
use Rattle.records.proofs.Tests.{both}
use Rattle.item.specs.Items.{Fields, end}
use Rattle.cut_def.specs.Cuts.{front, back, cut, touched}
use Rattle.cut_def.specs.Pieces.{Piece, built, kept, cut_pieces}
use Rattle.cut_segment.specs.Segments.{nothing, leading, ends_by, starts_by, Runs}

-- ---- how many items lead

-- as many as pass in front of the first that does not
pub leading_is : (p : Fields → Bool) (l : List Fields) (i : ℕ)
    → i ≤ length l → ((k : ℕ) → k < i → p (get_or l k nothing) ≡ true) → (i < length l → p (get_or l i nothing) ≡ false) → i ≡ leading p l
unfolding leading
leading_is p [] i h a b = omega arith
leading_is p (f ∷ l) zero h a b = rw (b (omega arith)) refl
leading_is p (f ∷ l) (suc i) h a b =
    let e : i ≡ leading p l = leading_is p l i (omega arith) (λ k q. a (suc k) (omega arith)) (λ q. b (omega arith)) in
    rw (a 0 (omega arith), ← e) refl

-- the same from number `start` on, of the first n
pub leading-from : (p : Fields → Bool) (l : List Fields) (start n i : ℕ) → n ≤ length l
    → start ≤ i → i ≤ n → ((k : ℕ) → start ≤ k → k < i → p (get_or l k nothing) ≡ true) → (i < n → p (get_or l i nothing) ≡ false)
    → i ≡ start + leading p (drop start (take n l))
leading-from p l start n i w h m a b =
    let e : start + (i - start) ≡ i = omega arith in
    let part : (k : ℕ) → start + k < n → p (get_or (drop start (take n l)) k nothing) ≡ p (get_or l (start + k) nothing) =
    λ k q. ap p (get_or-drop start (take n l) k nothing ∙ get_or-take n l (start + k) nothing q) in
    let long : length (drop start (take n l)) ≡ n - start = simp (length-drop, length-take) (omega arith) in
    omega (
      arith,
      leading_is p (drop start (take n l)) (i - start) (omega arith)
          (λ k q. part k (omega arith) ∙ a (start + k) (omega arith) (omega arith))
          (λ q. part (i - start) (omega arith) ∙ rw e (b (omega arith))),
    )

-- what `find` gives of the numbers from `start` up to n, and n where it finds none
pub leading-found : (p : Fields → Bool) (l : List Fields) (start n i : ℕ) (r : Option ℕ) → (start ≤ n) × (n ≤ length l)
    → MatchOption r ((k : ℕ) → start ≤ k → k < n → p (get_or l k nothing) ≡ true)
    (λ m. (start ≤ m) × (m < n) × (p (get_or l m nothing) ≡ false) × ((k : ℕ) → start ≤ k → k < m → p (get_or l k nothing) ≡ true))
    → i ≡ unwrap_or r n → i ≡ start + leading p (drop start (take n l))
leading-found p l start n i None h w e = e ∙ leading-from p l start n n h.1 h.0 (omega arith) w (λ q. absurd (omega arith))
leading-found p l start n i (Some m) h w e = e ∙ leading-from p l start n m h.1 w.0 (omega (arith, w.1)) w.3 (λ q. w.2)

pub leading-most : (p : Fields → Bool) (l : List Fields) → leading p l ≤ length l
unfolding leading
leading-most p [] = omega arith
leading-most p (f ∷ l) = go (p f) (leading-most p l)
  where
    go : (b : Bool) → leading p l ≤ length l → cond b (suc (leading p l)) 0 ≤ suc (length l)
    go true h = omega arith
    go false h = omega arith

pub every-leading : (p : Fields → Bool) (l : List Fields) → every p (take (leading p l) l) ≡ true
unfolding leading every
every-leading p [] = refl
every-leading p (f ∷ l) = go (p f) refl (every-leading p l)
  where
    go : (b : Bool) → p f ≡ b → every p (take (leading p l) l) ≡ true → every p (take (cond b (suc (leading p l)) 0) (f ∷ l)) ≡ true
    go true e h = both (p f) (every p (take (leading p l) l)) e h
    go false e h = refl

-- ---- the cut

module _ (lo hi : ℕ) where
  cut_cons : (f : Fields) (fs : List Fields) → cut_pieces lo hi (f ∷ fs) ≡ cond (touched lo hi f) (map built (cut lo hi f)) (kept f ∷ []) ++ cut_pieces lo hi fs
  unfolding cut_pieces flat_map
  cut_cons f fs = refl

  cut_nil : cut_pieces lo hi [] ≡ []
  unfolding cut_pieces flat_map
  cut_nil = refl

  cut-kept : (f : Fields) (fs : List Fields) → touched lo hi f ≡ false → cut_pieces lo hi (f ∷ fs) ≡ kept f ∷ cut_pieces lo hi fs
  cut-kept f fs e = rw (cut_cons, e) refl

  -- an empty range touches nothing
  pub cut_empty : hi ≤ lo → (fs : List Fields) → cut_pieces lo hi fs ≡ map kept fs
  cut_empty h [] = cut_nil
  cut_empty h (f ∷ fs) = cut-kept f fs (rw (le-ltb lo hi h) refl) ∙ ap (λ (ps : List Piece). kept f ∷ ps) (cut_empty h fs)

  module _ (some : lo < hi) where
    -- what starts before hi starts at most at hi - 1
    abbrev q : Fields → Bool
    q f = starts_by (hi - 1) f

    -- behind the range nothing is touched
    cut-past : (b : ℕ) (fs : List Fields) → Runs b fs → hi ≤ b → cut_pieces lo hi fs ≡ map kept fs
    cut-past b [] r h = cut_nil
    cut-past b (f ∷ fs) r h =
        cut-kept f fs (rw (le-ltb f.key hi (omega (arith, r.0)), and-false (ltb lo (end f)), and-false (ltb lo hi)) refl)
        ∙ ap (λ (ps : List Piece). kept f ∷ ps) (cut-past (end f) fs r.4 (omega (arith, r.0)))

    leading-past : (b : ℕ) (fs : List Fields) → Runs b fs → hi ≤ b → leading q fs ≡ 0
    unfolding leading
    leading-past b [] r h = refl
    leading-past b (f ∷ fs) r h = rw (lt-leb f.key (hi - 1) (omega (arith, r.0))) refl

    -- what the last of k items leaves behind the range
    abbrev behind_of : List Fields → ℕ → List Fields
    behind_of fs zero = []
    behind_of fs (suc k) = only (ltb hi (end (get_or fs k nothing))) (back hi (get_or fs k nothing))

    behind-next : (f : Fields) (fs : List Fields) (k : ℕ) → ltb hi (end f) ≡ false → behind_of (f ∷ fs) (suc k) ≡ behind_of fs k
    behind-next f fs zero e = rw e refl
    behind-next f fs (suc k) e = refl

    -- what a touched item leaves, with those behind it
    step : (b : ℕ) (f : Fields) (fs : List Fields)
        → Runs b (f ∷ fs) → lo < end f → f.key < hi
        → cut_pieces lo hi fs ≡ map built (behind_of fs (leading q fs)) ++ map kept (drop (leading q fs) fs)
        → cut_pieces lo hi (f ∷ fs) ≡ map built (only (ltb f.key lo) (front lo f) ++ behind_of (f ∷ fs) (suc (leading q fs))) ++ map kept (drop (leading q fs) fs)
    step b f fs r l k ih =
        let t : touched lo hi f ≡ true = rw (lt-ltb lo hi some, lt-ltb lo (end f) l, lt-ltb f.key hi k) refl in
        rw (cut_cons, t, ih)
        (sym (append_assoc (map built (cut lo hi f)) (map built (behind_of fs n)) (map kept (drop n fs)))
        ∙ ap (λ (ps : List Piece). ps ++ map kept (drop n fs)) (sym (map-append built (cut lo hi f) (behind_of fs n)) ∙ ap (map built) (append_assoc F B (behind_of fs n) ∙ ap (λ (xs : List Fields). F ++ xs) (go (ltb hi (end f)) refl))))
      where
        n : ℕ
        n = leading q fs

        F : List Fields
        F = only (ltb f.key lo) (front lo f)

        B : List Fields
        B = only (ltb hi (end f)) (back hi f)

        go : (t : Bool) → ltb hi (end f) ≡ t → only (ltb hi (end f)) (back hi f) ++ behind_of fs n ≡ behind_of (f ∷ fs) (suc n)
        go true e =
            let z : n ≡ 0 = leading-past (end f) fs r.4 (omega (arith, ltb-true hi (end f) e)) in
            rw (z, append-nil) refl
        go false e = rw e (sym (behind-next f fs n e))

    -- items that start at lo or later: only the last that is touched leaves something
    cut-behind : (b : ℕ) (fs : List Fields) → Runs b fs → lo ≤ b → cut_pieces lo hi fs ≡ map built (behind_of fs (leading q fs)) ++ map kept (drop (leading q fs) fs)
    unfolding leading
    cut-behind b [] r h = cut_nil
    cut-behind b (f ∷ fs) r h = go (q f) refl (cut-behind (end f) fs r.4 (omega (arith, r.0)))
      where
        go : (t : Bool) → q f ≡ t → cut_pieces lo hi fs ≡ map built (behind_of fs (leading q fs)) ++ map kept (drop (leading q fs) fs)
            → cut_pieces lo hi (f ∷ fs) ≡ map built (behind_of (f ∷ fs) (cond t (suc (leading q fs)) 0)) ++ map kept (drop (cond t (suc (leading q fs)) 0) (f ∷ fs))
        go true e ih =
            let k = leb-true f.key (hi - 1) e in
            step b f fs r (omega (arith, r.0, r.1)) (omega arith) ih ∙ rw (le-ltb f.key lo (omega (arith, r.0))) refl
        go false e ih = let k = leb-false f.key (hi - 1) e in cut-past f.key (f ∷ fs) (omega arith, r.1, r.2, r.3, r.4) (omega arith)

    -- ---- the whole list: what is built, and where

    -- of k items from number `from` on, the first one's front and the last one's back
    abbrev pub leaves : List Fields → ℕ → List Fields
    leaves fs zero = []
    leaves fs (suc k) = only (ltb (get_or fs 0 nothing).key lo) (front lo (get_or fs 0 nothing)) ++ behind_of fs (suc k)

    cut-first : (b : ℕ) (f : Fields) (fs : List Fields) → Runs b (f ∷ fs) → lo < end f → cut_pieces lo hi (f ∷ fs) ≡ map built (leaves (f ∷ fs) (leading q (f ∷ fs))) ++ map kept (drop (leading q (f ∷ fs)) (f ∷ fs))
    unfolding leading
    cut-first b f fs r h = go (q f) refl
      where
        go : (t : Bool) → q f ≡ t → cut_pieces lo hi (f ∷ fs) ≡ map built (leaves (f ∷ fs) (cond t (suc (leading q fs)) 0)) ++ map kept (drop (cond t (suc (leading q fs)) 0) (f ∷ fs))
        go true e = let k = leb-true f.key (hi - 1) e in step b f fs r h (omega arith) (cut-behind (end f) fs r.4 (omega arith))
        go false e = let k = leb-false f.key (hi - 1) e in cut-past f.key (f ∷ fs) (omega arith, r.1, r.2, r.3, r.4) (omega arith)

    -- how many end before the range, and how many are touched
    abbrev pub first_of : List Fields → ℕ
    first_of fs = leading (ends_by lo) fs

    abbrev pub touched_of : List Fields → ℕ
    touched_of fs = leading q (drop (first_of fs) fs)

    pub cut_whole : (b : ℕ) (fs : List Fields) → Runs b fs
        → cut_pieces lo hi fs ≡ map kept (take (first_of fs) fs) ++ (map built (leaves (drop (first_of fs) fs) (touched_of fs)) ++ map kept (drop (first_of fs + touched_of fs) fs))
    unfolding leading
    cut_whole b [] r = cut_nil
    cut_whole b (f ∷ fs) r = go (ends_by lo f) refl (cut_whole (end f) fs r.4)
      where
        go : (t : Bool) → ends_by lo f ≡ t
            → cut_pieces lo hi fs ≡ map kept (take (first_of fs) fs) ++ (map built (leaves (drop (first_of fs) fs) (touched_of fs)) ++ map kept (drop (first_of fs + touched_of fs) fs))
            → (let n = cond t (suc (first_of fs)) 0 in
            cut_pieces lo hi (f ∷ fs) ≡ map kept (take n (f ∷ fs)) ++ (map built (leaves (drop n (f ∷ fs)) (leading q (drop n (f ∷ fs)))) ++ map kept (drop (n + leading q (drop n (f ∷ fs))) (f ∷ fs))))
        go true e ih =
            let k = leb-true (end f) lo e in
            cut-kept f fs (rw (le-ltb lo (end f) k, and-false (ltb lo hi)) refl) ∙ rw suc-add (ap (λ (ps : List Piece). kept f ∷ ps) ih)
        go false e ih = rw zero-add (cut-first b f fs r (leb-false (end f) lo e))
