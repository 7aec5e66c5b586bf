-- New items put in at keys that are not there: the edits are the same, and their puts are among them. Assumes nothing.
use mathlib.Core.Path.{◌≡◌, refl, ap, ◌∙◌}
use mathlib.Core.Bool.{Bool, true, false, cond, ◌&&◌, not}
use mathlib.Core.List.{List, [], ◌∷◌, ◌++◌, flat_map}
use Prim.Native.Nat.{ℕ, suc, ◌+◌, ◌<◌, ◌≤◌}
use native.Mathlib.Omega.{arith}
use native.Mathlib.Decide.{dec_lt}
use lib.Dec.{eqb, leb, ltb}
use lib.ListN.{length}
use borrow.Author.Tests.{ltb-true, leb-true, lt-ltb, le-ltb, ne_eqb, eqb-false, not-true}
use Rattle.records.specs.Select.{only}
use Rattle.records.specs.Stages.{every, pairs}
use Rattle.records.proofs.Tests.{both, both_left, both_right, every_map, every_both}
use Rattle.records.proofs.Lists.{every_true}
use Rattle.item.specs.Items.{Fields}
use Rattle.lists.specs.Lists.{rises}
use Rattle.cut_def.specs.Pieces.{Piece, built, items_of, insert, insert_all}
use Rattle.cut_def.specs.Edits.{Edit, put, delete, edits, key_of}
use Rattle.cut_def.proofs.Cases.{puts_of, edits-gone, edits-first, edits-same}
use Rattle.cut_def.proofs.Kept.{every-insert}
use Rattle.cut_def.proofs.Applied.{ItemsUp, EditsUp, up_rising, items-past, pieces-past, Merged, done, gone, first, same, merged_up, between}

-- a put before the first edit of a larger key, and several
unfoldable pub place_edit : Fields → List Edit → List Edit
place_edit x [] = put x ∷ []
place_edit x (e ∷ es) = cond (ltb x.key (key_of e)) (put x ∷ e ∷ es) (e ∷ place_edit x es)

unfoldable pub place_edits : List Fields → List Edit → List Edit
place_edits [] es = es
place_edits (x ∷ xs) es = place_edits xs (place_edit x es)

-- an item whose key none of these has
abbrev pub fresh : List Fields → Fields → Bool
fresh fs x = every (λ (f : Fields). not (eqb f.key x.key)) fs

fresh_head : (f : Fields) (fs : List Fields) (x : Fields) → fresh (f ∷ fs) x ≡ true → f.key ≡ x.key → ⊥
unfolding every
fresh_head f fs x h = eqb-false f.key x.key (not-true (eqb f.key x.key) (both_left (not (eqb f.key x.key)) (fresh fs x) h))

fresh_tail : (f : Fields) (fs : List Fields) (x : Fields) → fresh (f ∷ fs) x ≡ true → fresh fs x ≡ true
unfolding every
fresh_tail f fs x h = both_right (not (eqb f.key x.key)) (fresh fs x) h

-- before all others, and behind the first
insert-before : (x : Fields) (ps : List Piece) → ItemsUp (suc x.key) (items_of ps) → insert x ps ≡ built x ∷ ps
unfolding insert
insert-before x [] u = refl
insert-before x (p ∷ ps) u = rw (lt-ltb x.key p.item.key u.0) refl

insert-behind : (x : Fields) (p : Piece) (ps : List Piece) → p.item.key ≤ x.key → insert x (p ∷ ps) ≡ p ∷ insert x ps
unfolding insert
insert-behind x p ps l = rw (le-ltb x.key p.item.key l) refl

-- one more, and several more
insert-length : (x : Fields) (ps : List Piece) → length (insert x ps) ≡ suc (length ps)
unfolding insert
insert-length x [] = refl
insert-length x (p ∷ ps) = go (ltb x.key p.item.key) (insert-length x ps)
  where
    go : (b : Bool) → length (insert x ps) ≡ suc (length ps) → length (cond b (built x ∷ p ∷ ps) (p ∷ insert x ps)) ≡ suc (suc (length ps))
    go true h = refl
    go false h = ap suc h

pub insert_all-length : (xs : List Fields) (ps : List Piece) → length (insert_all xs ps) ≡ length xs + length ps
unfolding insert_all
insert_all-length [] ps = omega arith
insert_all-length (x ∷ xs) ps = omega (arith, insert_all-length xs (insert x ps), insert-length x ps)

-- several behind one
pub insert_all-behind : (p : Piece) (ys : List Fields) (ps : List Piece) → every (λ (y : Fields). leb p.item.key y.key) ys ≡ true → insert_all ys (p ∷ ps) ≡ p ∷ insert_all ys ps
unfolding insert_all every
insert_all-behind p [] ps h = refl
insert_all-behind p (y ∷ ys) ps h =
    let t : Fields → Bool = λ y. leb p.item.key y.key in
    rw (insert-behind y p ps (leb-true p.item.key y.key (both_left (t y) (every t ys) h))) (insert_all-behind p ys (insert y ps) (both_right (t y) (every t ys) h))

place_before : (x : Fields) (es : List Edit) → EditsUp (suc x.key) es → place_edit x es ≡ put x ∷ es
unfolding place_edit
place_before x [] u = refl
place_before x (e ∷ es) u = rw (lt-ltb x.key (key_of e) u.0) refl

place_behind : (x : Fields) (e : Edit) (es : List Edit) → key_of e ≤ x.key → place_edit x (e ∷ es) ≡ e ∷ place_edit x es
unfolding place_edit
place_behind x e es l = rw (le-ltb x.key (key_of e) l) refl

place_puts : (x : Fields) (p : Piece) (es : List Edit) → p.item.key ≤ x.key → place_edit x (puts_of p ++ es) ≡ puts_of p ++ place_edit x es
place_puts x p es l = go p.built
  where
    go : (t : Bool) → place_edit x (only t (put p.item) ++ es) ≡ only t (put p.item) ++ place_edit x es
    go true = place_behind x (put p.item) es l
    go false = refl

-- ---- one more piece of a merge

merged-before : (x : Fields) {b : ℕ} {fs : List Fields} {ps : List Piece} {es : List Edit} → b ≤ x.key → Merged (suc x.key) fs ps es → Merged b fs (insert x ps) (place_edit x es)
merged-before x {b} {fs} {ps} {es} l m =
    let u = merged_up m in
    rw (insert-before x ps u.1, place_before x es u.2) (first l m)

merged-insert : (x : Fields) {b : ℕ} {fs : List Fields} {ps : List Piece} {es : List Edit} → Merged b fs ps es → b ≤ x.key → fresh fs x ≡ true → fresh (items_of ps) x ≡ true → Merged b fs (insert x ps) (place_edit x es)
merged-insert x done l h k = merged-before x l done
merged-insert x (gone {f} {fs} {ps} {es} o m) l h k =
    elim (dec_lt x.key f.key) [
      | yes t ↦ merged-before x l (gone t m)
      | no n ↦
          let t : f.key < x.key = let d = fresh_head f fs x h in omega arith in
          rw (place_behind x (delete f.key) es (omega arith)) (gone o (merged-insert x m t (fresh_tail f fs x h) k))
    ]
merged-insert x (first {fs} {p} {ps} {es} o m) l h k =
    elim (dec_lt x.key p.item.key) [
      | yes t ↦ merged-before x l (first t m)
      | no n ↦
          let t : p.item.key < x.key = let d = fresh_head p.item (items_of ps) x k in omega arith in
          rw (insert-behind x p ps (omega arith), place_puts x p es (omega arith)) (first o (merged-insert x m t h (fresh_tail p.item (items_of ps) x k)))
    ]
merged-insert x (same {f} {fs} {p} {ps} {es} o e m) l h k =
    elim (dec_lt x.key p.item.key) [
      | yes t ↦ merged-before x l (same t e m)
      | no n ↦
          let t : p.item.key < x.key = let d = fresh_head p.item (items_of ps) x k in omega arith in
          rw (insert-behind x p ps (omega arith), place_puts x p es (omega arith)) (same o e (merged-insert x m t (fresh_tail f fs x h) (fresh_tail p.item (items_of ps) x k)))
    ]

-- several: the others are fresh still
fresh_insert : (x : Fields) (ys : List Fields) (ps : List Piece) → every (rises x) ys ≡ true → every (fresh (items_of ps)) ys ≡ true → every (fresh (items_of (insert x ps))) ys ≡ true
fresh_insert x ys ps r h =
    every_map (λ (y : Fields). rises x y && fresh (items_of ps) y) (fresh (items_of (insert x ps)))
    (λ y e.
    let l = ltb-true x.key y.key (both_left (rises x y) (fresh (items_of ps) y) e) in
    every-insert (λ (f : Fields). not (eqb f.key y.key)) x ps (rw (ne_eqb x.key y.key (λ q. omega arith)) refl) (both_right (rises x y) (fresh (items_of ps) y) e))
    ys (every_both (rises x) (fresh (items_of ps)) ys r h)

merged_inserts : (ys : List Fields) {fs : List Fields} {ps : List Piece} {es : List Edit} → Merged 0 fs ps es → pairs rises ys ≡ true → every (fresh fs) ys ≡ true → every (fresh (items_of ps)) ys ≡ true → Merged 0 fs (insert_all ys ps) (place_edits ys es)
unfolding insert_all place_edits every pairs
merged_inserts [] m r h k = m
merged_inserts (y ∷ ys) {fs} {ps} m r h k =
    merged_inserts ys
    (merged-insert y m (omega arith) (both_left (fresh fs y) (every (fresh fs) ys) h) (both_left (fresh (items_of ps) y) (every (fresh (items_of ps)) ys) k))
    (both_right (every (rises y) ys) (pairs rises ys) r)
    (both_right (fresh fs y) (every (fresh fs) ys) h)
    (fresh_insert y ys ps (both_left (every (rises y) ys) (pairs rises ys) r) (both_right (fresh (items_of ps) y) (every (fresh (items_of ps)) ys) k))

-- a merge's edits are the edits
merged-edits : {b : ℕ} {fs : List Fields} {ps : List Piece} {es : List Edit} → Merged b fs ps es → edits fs ps ≡ es
merged-edits done = unfold edits flat_map in refl
merged-edits (gone {f} {fs} {ps} l m) =
    let u = merged_up m in
    edits-gone f fs ps (pieces-past f.key ps u.1) ∙ ap (λ (es : List Edit). delete f.key ∷ es) (merged-edits m)
merged-edits (first {fs} {p} {ps} l m) =
    let u = merged_up m in
    edits-first fs p ps (items-past p.item.key fs u.0) ∙ ap (λ (es : List Edit). puts_of p ++ es) (merged-edits m)
merged-edits (same {f} {fs} {p} {ps} l e m) =
    let u = merged_up m in
    edits-same f fs p ps e (rw e (pieces-past p.item.key ps u.1))
    ∙ edits-first fs p ps (items-past p.item.key fs u.0)
    ∙ ap (λ (es : List Edit). puts_of p ++ es) (merged-edits m)

-- ---- what they are, how many, and that the pieces rise

place_length : (x : Fields) (es : List Edit) → length (place_edit x es) ≡ suc (length es)
unfolding place_edit
place_length x [] = refl
place_length x (e ∷ es) = go (ltb x.key (key_of e)) (place_length x es)
  where
    go : (b : Bool) → length (place_edit x es) ≡ suc (length es) → length (cond b (put x ∷ e ∷ es) (e ∷ place_edit x es)) ≡ suc (suc (length es))
    go true i = refl
    go false i = ap suc i

places-length : (ys : List Fields) (es : List Edit) → length (place_edits ys es) ≡ length ys + length es
unfolding place_edits
places-length [] es = omega arith
places-length (y ∷ ys) es = omega (arith, places-length ys (place_edit y es), place_length y es)

module _ (fs : List Fields) (ps : List Piece) (ys : List Fields) (hf : pairs rises fs ≡ true) (hp : pairs rises (items_of ps) ≡ true) (hy : pairs rises ys ≡ true) (h : every (fresh fs) ys ≡ true) (k : every (fresh (items_of ps)) ys ≡ true) where
  pub edits-placed : edits fs (insert_all ys ps) ≡ place_edits ys (edits fs ps)
  edits-placed = merged-edits (merged_inserts ys (between fs ps hf hp) hy h k)

  pub edits-count : length (edits fs (insert_all ys ps)) ≡ length ys + length (edits fs ps)
  edits-count = ap length edits-placed ∙ places-length ys (edits fs ps)

pub inserted_rises : (ps : List Piece) (ys : List Fields) → pairs rises (items_of ps) ≡ true → pairs rises ys ≡ true → every (fresh (items_of ps)) ys ≡ true → pairs rises (items_of (insert_all ys ps)) ≡ true
inserted_rises ps ys hp hy k =
    let h : every (fresh []) ys ≡ true = unfold every in every_true ys in
    up_rising (λ (f : Fields). f.key) 0 (items_of (insert_all ys ps)) (merged_up (merged_inserts ys (between [] ps (unfold pairs in refl) hp) hy h k)).1

-- ---- back: where all rise once they are put in, they were fresh

insert-every : (q : Fields → Bool) (x : Fields) (ps : List Piece) → every q (items_of (insert x ps)) ≡ true → (q x ≡ true) × (every q (items_of ps) ≡ true)
unfolding insert every
insert-every q x [] h = (both_left (q x) true h, refl)
insert-every q x (p ∷ ps) h = go (ltb x.key p.item.key) h (insert-every q x ps)
  where
    go : (b : Bool) → every q (items_of (cond b (built x ∷ p ∷ ps) (p ∷ insert x ps))) ≡ true → (every q (items_of (insert x ps)) ≡ true → (q x ≡ true) × (every q (items_of ps) ≡ true)) → (q x ≡ true) × ((q p.item && every q (items_of ps)) ≡ true)
    go true h i = (both_left (q x) (q p.item && every q (items_of ps)) h, both_right (q x) (q p.item && every q (items_of ps)) h)
    go false h i =
        let r = i (both_right (q p.item) (every q (items_of (insert x ps))) h) in
        (r.0, both (q p.item) (every q (items_of ps)) (both_left (q p.item) (every q (items_of (insert x ps))) h) r.1)

insert_fresh : (x : Fields) (ps : List Piece) → pairs rises (items_of (insert x ps)) ≡ true → (fresh (items_of ps) x ≡ true) × (pairs rises (items_of ps) ≡ true)
unfolding insert every pairs
insert_fresh x [] h = (refl, refl)
insert_fresh x (p ∷ ps) h = go (ltb x.key p.item.key) refl h (insert_fresh x ps)
  where
    go : (b : Bool) → ltb x.key p.item.key ≡ b → pairs rises (items_of (cond b (built x ∷ p ∷ ps) (p ∷ insert x ps))) ≡ true
        → (pairs rises (items_of (insert x ps)) ≡ true → (fresh (items_of ps) x ≡ true) × (pairs rises (items_of ps) ≡ true)) → (fresh (p.item ∷ items_of ps) x ≡ true) × (pairs rises (p.item ∷ items_of ps) ≡ true)
    go true e h i =
        let fs : List Fields = p.item ∷ items_of ps in
        (every_map (rises x) (λ (f : Fields). not (eqb f.key x.key)) (λ f l. let l' = ltb-true x.key f.key l in rw (ne_eqb f.key x.key (λ z. omega arith)) refl) fs (both_left (every (rises x) fs) (pairs rises fs) h), both_right (every (rises x) fs) (pairs rises fs) h)
    go false e h i =
        let fs : List Fields = items_of (insert x ps) in
        let r = i (both_right (every (rises p.item) fs) (pairs rises fs) h) in
        let a = insert-every (rises p.item) x ps (both_left (every (rises p.item) fs) (pairs rises fs) h) in
        let l = ltb-true p.item.key x.key a.0 in
        (both (not (eqb p.item.key x.key)) (fresh (items_of ps) x) (rw (ne_eqb p.item.key x.key (λ z. omega arith)) refl) r.0, both (every (rises p.item) (items_of ps)) (pairs rises (items_of ps)) a.1 r.1)

pub inserted_fresh : (ps : List Piece) (ys : List Fields) → pairs rises (items_of (insert_all ys ps)) ≡ true → (every (fresh (items_of ps)) ys ≡ true) × (pairs rises (items_of ps) ≡ true)
unfolding insert_all every
inserted_fresh ps [] h = (refl, h)
inserted_fresh ps (y ∷ ys) h =
    let r = inserted_fresh (insert y ps) ys h in
    let o = insert_fresh y ps r.1 in
    (both (fresh (items_of ps) y) (every (fresh (items_of ps)) ys) o.0 (every_map (fresh (items_of (insert y ps))) (fresh (items_of ps)) (λ x e. (insert-every (λ (f : Fields). not (eqb f.key x.key)) y ps e).1) ys r.0), o.1)
