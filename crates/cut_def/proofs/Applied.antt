-- The edits of a plan, applied to the file's items, give the plan's pieces. Assumes nothing.
use mathlib.Core.Path.{◌≡◌, refl, ap, ap₂, ◌∙◌, sym}
use mathlib.Core.Bool.{Bool, true, false, cond, ◌||◌, not}
use mathlib.Core.List.Memᴰ
use mathlib.Core.List.{List, [], ◌∷◌, ◌++◌, map, flat_map, tail, Memᴰ}
use mathlib.Core.Logic.{⊎_elim}
use Prim.Native.Nat.{ℕ, suc, ◌+◌, ◌<◌, ◌≤◌}
use native.Mathlib.Omega.{arith}
use native.Mathlib.Decide.{dec_lt}
use lib.Dec.{ltb}
use lib.ListN.{length}
use borrow.Author.Tests.{ltb-true, lt-ltb, le-ltb, eq-eqb, ne_eqb}
use Rattle.records.specs.Select.{only, keep, any}
use Rattle.records.specs.Stages.{every, pairs}
use Rattle.records.proofs.Tests.{both, both_left, both_right}
use Rattle.records.proofs.Lists.{every-mapped}
use Rattle.item.specs.Items.{Fields, joined}
use Rattle.lists.specs.Lists.{rises}
use Rattle.cut_def.specs.Cuts.{cut, touched}
use Rattle.cut_def.specs.Pieces.{Piece, built, kept, items_of, cut_pieces, insert, insert_all}
use Rattle.cut_def.specs.Joins.{joinable, join_next, past, join_around, join_all}
use Rattle.cut_def.specs.Edits.{Edit, put, delete, edits, key_of, put_of, edited, items_after}
use Rattle.cut_def.proofs.Cases.{over, puts_of, edits-gone, edits-first, edits-same}

-- ---- rising keys

module _ {A : Type 0} (key : A → ℕ) where
  -- keys that rise strictly, from b on
  abbrev pub Up : ℕ → List A → Type 0
  Up b [] = Unit {0}
  Up b (a ∷ l) = (b ≤ key a) × Up (suc (key a)) l

  pub up_from : (b c : ℕ) (l : List A) → b ≤ c → Up c l → Up b l
  up_from b c [] h u = tt
  up_from b c (a ∷ l) h u = (omega arith, u.1)

  -- as a test of every two
  abbrev pub rising : List A → Bool
  rising l = pairs (λ (a c : A). ltb (key a) (key c)) l

  above : (k b : ℕ) (l : List A) → k < b → Up b l → every (λ (a : A). ltb k (key a)) l ≡ true
  unfolding every
  above k b [] h u = refl
  above k b (a ∷ l) h u = both (ltb k (key a)) (every (λ (c : A). ltb k (key c)) l) (lt-ltb k (key a) (omega arith)) (above k (suc (key a)) l (omega arith) u.1)

  pub up_rising : (b : ℕ) (l : List A) → Up b l → rising l ≡ true
  unfolding pairs
  up_rising b [] u = refl
  up_rising b (a ∷ l) u = both (every (λ (c : A). ltb (key a) (key c)) l) (rising l) (above (key a) (suc (key a)) l (omega arith) u.1) (up_rising (suc (key a)) l u.1)

  rising_after : (k : ℕ) (l : List A) → every (λ (a : A). ltb k (key a)) l ≡ true → rising l ≡ true → Up (suc k) l
  unfolding every pairs
  rising_after k [] h r = tt
  rising_after k (a ∷ l) h r =
      let t : Bool = every (λ (c : A). ltb (key a) (key c)) l in (
        ltb-true k (key a) (both_left (ltb k (key a)) (every (λ (c : A). ltb k (key c)) l) h),
        rising_after (key a) l (both_left t (rising l) r) (both_right t (rising l) r),
      )

  pub rising_up : (l : List A) → rising l ≡ true → Up 0 l
  unfolding pairs
  rising_up [] r = tt
  rising_up (a ∷ l) r =
      let t : Bool = every (λ (c : A). ltb (key a) (key c)) l in
      (omega arith, rising_after (key a) l (both_left t (rising l) r) (both_right t (rising l) r))

-- items with rising keys, and edits
abbrev pub ItemsUp : ℕ → List Fields → Type 0
ItemsUp b fs = Up (λ (f : Fields). f.key) b fs

abbrev pub EditsUp : ℕ → List Edit → Type 0
EditsUp b es = Up key_of b es

-- ---- each kept piece is an old item

-- a piece is new, or an old item unchanged
pub data Source (fs : List Fields) : Piece → Type 0 where
  new : {x : Fields} → Source fs (built x)
  old : {f : Fields} → Memᴰ f fs → Source fs (kept f)

abbrev pub From : List Fields → List Piece → Type 0
From fs [] = Unit {0}
From fs (p ∷ ps) = Source fs p × From fs ps

pub source : (fs : List Fields) (p : Piece) → (p.built ≡ false → Memᴰ p.item fs) → Source fs p
source fs p h = go p.built h
  where
    go : (t : Bool) → (t ≡ false → Memᴰ p.item fs) → Source fs (record { built = t; item = p.item })
    go true h = new
    go false h = old (h refl)

source_more : {f : Fields} {fs : List Fields} {p : Piece} → Source fs p → Source (f ∷ fs) p
source_more new = new
source_more (old i) = old (Memᴰ.tail i)

from_more : (f : Fields) (fs : List Fields) (ps : List Piece) → From fs ps → From (f ∷ fs) ps
from_more f fs [] r = tt
from_more f fs (p ∷ ps) r = (source_more r.0, from_more f fs ps r.1)

module _ (fs : List Fields) where
  pub from_made : (xs : List Fields) → From fs (map built xs)
  from_made [] = tt
  from_made (x ∷ xs) = (new, from_made xs)

  pub from_append : (ps qs : List Piece) → From fs ps → From fs qs → From fs (ps ++ qs)
  from_append [] qs r t = t
  from_append (p ∷ ps) qs r t = (r.0, from_append ps qs r.1 t)

  pub from-cond : (b : Bool) (ps qs : List Piece) → From fs ps → From fs qs → From fs (cond b ps qs)
  from-cond true ps qs r t = r
  from-cond false ps qs r t = t

  -- an insert and a join only make pieces
  pub from-insert : (x : Fields) (ps : List Piece) → From fs ps → From fs (insert x ps)
  unfolding insert
  from-insert x [] r = (new, tt)
  from-insert x (p ∷ ps) r = from-cond (ltb x.key p.item.key) (built x ∷ p ∷ ps) (p ∷ insert x ps) (new, r) (r.0, from-insert x ps r.1)

  pub from-insert_all : (xs : List Fields) (ps : List Piece) → From fs ps → From fs (insert_all xs ps)
  unfolding insert_all
  from-insert_all [] ps r = r
  from-insert_all (x ∷ xs) ps r = from-insert_all xs (insert x ps) (from-insert x ps r)

  from-join_next : (n : ℕ) (p : Piece) (ps : List Piece) → From fs (p ∷ ps) → From fs (join_next n p ps)
  from-join_next n p [] r = r
  from-join_next n p (q ∷ qs) r = from-cond (joinable p.item q.item) (built (joined p.item q.item n) ∷ qs) (p ∷ q ∷ qs) (new, r.1.1) r

  pub from_join : (n s : ℕ) (ps : List Piece) → From fs ps → From fs (join_around n s ps)
  unfolding join_around
  from_join n s [] r = tt
  from_join n s (p ∷ ps) r =
      let rest : List Piece = join_around n s ps in
      let t : From fs (p ∷ rest) = (r.0, from_join n s ps r.1) in
      from-cond (ltb s p.item.key) (p ∷ ps) (cond (past s ps) (join_next n p ps) (cond (past s (tail ps)) (join_next n p rest) (p ∷ rest))) r
      (from-cond (past s ps) (join_next n p ps) (cond (past s (tail ps)) (join_next n p rest) (p ∷ rest)) (from-join_next n p ps r)
      (from-cond (past s (tail ps)) (join_next n p rest) (p ∷ rest) (from-join_next n p rest t) t))

  pub from-join_all : (n : ℕ) (ss : List ℕ) (ps : List Piece) → From fs ps → From fs (join_all n ss ps)
  unfolding join_all
  from-join_all n [] ps r = r
  from-join_all n (s ∷ ss) ps r = from-join_all n ss (join_around n s ps) (from_join n s ps r)

-- pieces built item by item, and so by a cut
pub from_flat_map : (g : Fields → List Piece) → ((f : Fields) (fs : List Fields) → From (f ∷ fs) (g f)) → (fs : List Fields) → From fs (flat_map g fs)
unfolding flat_map
from_flat_map g h [] = tt
from_flat_map g h (f ∷ fs) = from_append (f ∷ fs) (g f) (flat_map g fs) (h f fs) (from_more f fs (flat_map g fs) (from_flat_map g h fs))

pub from_cut : (lo hi : ℕ) (fs : List Fields) → From fs (cut_pieces lo hi fs)
unfolding cut_pieces
from_cut lo hi fs =
    from_flat_map (λ (f : Fields). cond (touched lo hi f) (map built (cut lo hi f)) (kept f ∷ []))
    (λ f gs. from-cond (f ∷ gs) (touched lo hi f) (map built (cut lo hi f)) (kept f ∷ []) (from_made (f ∷ gs) (cut lo hi f)) (old (Memᴰ.head refl), tt))
    fs

-- an item below all of a list is not in it
absent : {x : Fields} {fs : List Fields} → Memᴰ x fs → (b : ℕ) → x.key < b → ItemsUp b fs → ⊥
absent (Memᴰ.head e) b h u = let k = ap (λ (f : Fields). f.key) e in omega arith
absent (Memᴰ.tail {x = f} i) b h u = absent i (suc f.key) (omega arith) u.1

-- pieces behind the first old item are from the others
source-tail : {f : Fields} {fs : List Fields} {p : Piece} → f.key < p.item.key → Source (f ∷ fs) p → Source fs p
source-tail h new = new
source-tail {f} h (old i) = ⊎_elim (λ e. let k = ap (λ (g : Fields). g.key) e in absurd (omega arith)) (λ j. old j) (Memᴰ.cases_cons i)

from_tail : (f : Fields) (fs : List Fields) (ps : List Piece) (b : ℕ) → f.key < b → ItemsUp b (items_of ps) → From (f ∷ fs) ps → From fs ps
from_tail f fs [] b h u r = tt
from_tail f fs (p ∷ ps) b h u r = (source-tail (omega arith) r.0, from_tail f fs ps (suc p.item.key) (omega arith) u.1 r.1)

-- ---- the edits by cases

-- items and pieces behind k
pub items-past : (k : ℕ) (fs : List Fields) → ItemsUp (suc k) fs → every (λ (f : Fields). ltb k f.key) fs ≡ true
items-past k fs u = above (λ (f : Fields). f.key) k (suc k) fs (omega arith) u

pub pieces-past : (k : ℕ) (ps : List Piece) → ItemsUp (suc k) (items_of ps) → every (over k) ps ≡ true
pieces-past k ps u = sym (every-mapped (λ (f : Fields). ltb k f.key) (λ (p : Piece). p.item) ps) ∙ items-past k (items_of ps) u

-- old items and pieces by rising keys from b on, and the edits between them: the lowest key is that of an old item that
-- is gone, of a piece alone, or of both
pub data Merged : ℕ → List Fields → List Piece → List Edit → Type 0 where
  done : {b : ℕ} → Merged b [] [] []
  gone : {b : ℕ} {f : Fields} {fs : List Fields} {ps : List Piece} {es : List Edit} → b ≤ f.key → Merged (suc f.key) fs ps es → Merged b (f ∷ fs) ps (delete f.key ∷ es)
  first : {b : ℕ} {fs : List Fields} {p : Piece} {ps : List Piece} {es : List Edit} → b ≤ p.item.key → Merged (suc p.item.key) fs ps es → Merged b fs (p ∷ ps) (puts_of p ++ es)
  same : {b : ℕ} {f : Fields} {fs : List Fields} {p : Piece} {ps : List Piece} {es : List Edit} → b ≤ p.item.key → f.key ≡ p.item.key → Merged (suc p.item.key) fs ps es → Merged b (f ∷ fs) (p ∷ ps) (puts_of p ++ es)

merged-next : (f : Fields) (fs : List Fields) → ((ps : List Piece) (b : ℕ) → ItemsUp b fs → ItemsUp b (items_of ps) → Merged b fs ps (edits fs ps)) → (ps : List Piece) (b : ℕ) → ItemsUp b (f ∷ fs) → ItemsUp b (items_of ps) → Merged b (f ∷ fs) ps (edits (f ∷ fs) ps)
merged-next f fs ih [] b u v = rw (edits-gone f fs [] (pieces-past f.key [] tt)) (gone u.0 (ih [] (suc f.key) u.1 tt))
merged-next f fs ih (p ∷ ps) b u v =
    elim (dec_lt f.key p.item.key) [
      | yes l ↦ rw (edits-gone f fs (p ∷ ps) (pieces-past f.key (p ∷ ps) (l, v.1))) (gone u.0 (ih (p ∷ ps) (suc f.key) u.1 (l, v.1)))
      | no m ↦ elim (dec_lt p.item.key f.key) [
        | yes l ↦ rw (edits-first (f ∷ fs) p ps (items-past p.item.key (f ∷ fs) (l, u.1))) (first v.0 (merged-next f fs ih ps (suc p.item.key) (l, u.1) v.1))
        | no n ↦
            let e : f.key ≡ p.item.key = omega arith in
            let w : ItemsUp (suc p.item.key) fs = rw e at u.1 in
            rw (edits-same f fs p ps e (rw e (pieces-past p.item.key ps v.1)), edits-first fs p ps (items-past p.item.key fs w)) (same v.0 e (ih ps (suc p.item.key) w v.1))
      ]
    ]

merged : (fs : List Fields) (ps : List Piece) (b : ℕ) → ItemsUp b fs → ItemsUp b (items_of ps) → Merged b fs ps (edits fs ps)
merged [] ps b u v = merged-new ps b v
  where
    merged-new : (ps : List Piece) (b : ℕ) → ItemsUp b (items_of ps) → Merged b [] ps (edits [] ps)
    merged-new [] b v = unfold edits flat_map in done
    merged-new (p ∷ ps) b v = rw (edits-first [] p ps (items-past p.item.key [] tt)) (first v.0 (merged-new ps (suc p.item.key) v.1))
merged (f ∷ fs) ps b u v = merged-next f fs (merged fs) ps b u v

-- ---- what holds of edits so merged

-- a piece's put behind b
puts_up : (b : ℕ) (p : Piece) (es : List Edit) → b ≤ p.item.key → EditsUp (suc p.item.key) es → EditsUp b (puts_of p ++ es)
puts_up b p es l u = go p.built
  where
    go : (t : Bool) → EditsUp b (only t (put p.item) ++ es)
    go true = (l, u)
    go false = up_from key_of b (suc p.item.key) es (omega arith) u

-- all three lists rise
pub merged_up : {b : ℕ} {fs : List Fields} {ps : List Piece} {es : List Edit} → Merged b fs ps es → ItemsUp b fs × ItemsUp b (items_of ps) × EditsUp b es
merged_up done = (tt, tt, tt)
merged_up {b} (gone {f} {ps} l m) =
    let u = merged_up m in
    ((l, u.0), up_from (λ (g : Fields). g.key) b (suc f.key) (items_of ps) (omega arith) u.1, (l, u.2))
merged_up {b} (first {fs} {p} {es} l m) =
    let u = merged_up m in
    (up_from (λ (g : Fields). g.key) b (suc p.item.key) fs (omega arith) u.0, (l, u.1), puts_up b p es l u.2)
merged_up {b} (same {p} {es} l e m) =
    let u = merged_up m in
    ((omega arith, rw e u.0), (l, u.1), puts_up b p es l u.2)

-- at most one edit for each old item and each piece
puts-few : (p : Piece) (es : List Edit) → length (puts_of p ++ es) ≤ suc (length es)
puts-few p es = go p.built
  where
    go : (t : Bool) → length (only t (put p.item) ++ es) ≤ suc (length es)
    go true = omega arith
    go false = omega arith

merged-few : {b : ℕ} {fs : List Fields} {ps : List Piece} {es : List Edit} → Merged b fs ps es → length es ≤ length fs + length ps
merged-few done = omega arith
merged-few (gone l m) = omega (arith, merged-few m)
merged-few (first {p} {es} l m) = omega (arith, merged-few m, puts-few p es)
merged-few (same {p} {es} l e m) = omega (arith, merged-few m, puts-few p es)

-- what is put: the items of the pieces that were built, in order
puts_made : (p : Piece) (ps : List Piece) (es : List Edit) → flat_map put_of es ≡ items_of (keep (λ (q : Piece). q.built) ps) → flat_map put_of (puts_of p ++ es) ≡ items_of (keep (λ (q : Piece). q.built) (p ∷ ps))
unfolding flat_map keep
puts_made p ps es h = go p.built
  where
    go : (t : Bool) → flat_map put_of (only t (put p.item) ++ es) ≡ items_of (cond t (p ∷ keep (λ (q : Piece). q.built) ps) (keep (λ (q : Piece). q.built) ps))
    go true = ap (λ (l : List Fields). p.item ∷ l) h
    go false = h

merged-puts : {b : ℕ} {fs : List Fields} {ps : List Piece} {es : List Edit} → Merged b fs ps es → flat_map put_of es ≡ items_of (keep (λ (p : Piece). p.built) ps)
unfolding flat_map keep
merged-puts done = refl
merged-puts (gone l m) = merged-puts m
merged-puts (first {p} {ps} {es} l m) = puts_made p ps es (merged-puts m)
merged-puts (same {p} {ps} {es} l e m) = puts_made p ps es (merged-puts m)

-- a test of edits
module _ (t : Edit → Bool) where
  abbrev pub put_passes : Piece → Bool
  put_passes p = not p.built || t (put p.item)

  abbrev pub delete_passes : Fields → Bool
  delete_passes f = t (delete f.key)

  puts_pass : (p : Piece) (es : List Edit) → put_passes p ≡ true → every t es ≡ true → every t (puts_of p ++ es) ≡ true
  unfolding every
  puts_pass p es h k = go p.built h
    where
      go : (b : Bool) → (not b || t (put p.item)) ≡ true → every t (only b (put p.item) ++ es) ≡ true
      go true h = both (t (put p.item)) (every t es) h k
      go false h = k

  merged_pass : {b : ℕ} {fs : List Fields} {ps : List Piece} {es : List Edit} → Merged b fs ps es → every delete_passes fs ≡ true → every put_passes ps ≡ true → every t es ≡ true
  unfolding every
  merged_pass done h k = refl
  merged_pass (gone {f} {fs} {es} l m) h k =
      both (delete_passes f) (every t es) (both_left (delete_passes f) (every delete_passes fs) h) (merged_pass m (both_right (delete_passes f) (every delete_passes fs) h) k)
  merged_pass (first {p} {ps} {es} l m) h k =
      puts_pass p es (both_left (put_passes p) (every put_passes ps) k) (merged_pass m h (both_right (put_passes p) (every put_passes ps) k))
  merged_pass (same {f} {fs} {p} {ps} {es} l e m) h k =
      puts_pass p es (both_left (put_passes p) (every put_passes ps) k) (merged_pass m (both_right (delete_passes f) (every delete_passes fs) h) (both_right (put_passes p) (every put_passes ps) k))

-- ---- applying, edit by edit

-- edits behind k do not name it
pub unedited : (k b : ℕ) (es : List Edit) → k < b → EditsUp b es → edited es k ≡ false
unfolding any
unedited k b [] h u = refl
unedited k b (e ∷ es) h u = rw (ne_eqb (key_of e) k (λ q. omega arith)) (unedited k (suc (key_of e)) es (omega arith) u.1)

-- the old items that no edit names
abbrev pub left : List Edit → List Fields → List Fields
left es fs = keep (λ (f : Fields). not (edited es f.key)) fs

pub left-past : (e : Edit) (es : List Edit) (b : ℕ) (fs : List Fields) → key_of e < b → ItemsUp b fs → left (e ∷ es) fs ≡ left es fs
unfolding keep any
left-past e es b [] h u = refl
left-past e es b (f ∷ fs) h u = rw (ne_eqb (key_of e) f.key (λ q. omega arith), left-past e es (suc f.key) fs (omega arith) u.1) refl

-- an insert before all, and inserts behind the first
insert-first : (x : Fields) (t : Fields → Bool) (b : ℕ) (fs : List Fields) → x.key < b → ItemsUp b fs → insert x (map kept (keep t fs)) ≡ built x ∷ map kept (keep t fs)
unfolding insert keep
insert-first x t b [] h u = refl
insert-first x t b (f ∷ fs) h u = go (t f) (insert-first x t (suc f.key) fs (omega arith) u.1)
  where
    go : (s : Bool) → insert x (map kept (keep t fs)) ≡ built x ∷ map kept (keep t fs) → insert x (map kept (cond s (f ∷ keep t fs) (keep t fs))) ≡ built x ∷ map kept (cond s (f ∷ keep t fs) (keep t fs))
    go true i = rw (lt-ltb x.key f.key (omega arith)) refl
    go false i = i

insert_all-past : (p : Piece) (b : ℕ) (es : List Edit) (ps : List Piece) → p.item.key ≤ b → EditsUp b es → insert_all (flat_map put_of es) (p ∷ ps) ≡ p ∷ insert_all (flat_map put_of es) ps
unfolding insert_all insert flat_map
insert_all-past p b [] ps h u = refl
insert_all-past p b (put x ∷ es) ps h u = rw (le-ltb x.key p.item.key (omega arith)) (insert_all-past p (suc x.key) es (insert x ps) (omega arith) u.1)
insert_all-past p b (delete k ∷ es) ps h u = insert_all-past p (suc k) es ps (omega arith) u.1

-- an old item that no edit names stays; one that the first edit names goes; a put comes first; a delete is done
pub after_kept : (f : Fields) (fs : List Fields) (es : List Edit) → EditsUp (suc f.key) es → items_after (f ∷ fs) es ≡ kept f ∷ items_after fs es
unfolding items_after keep
after_kept f fs es u = rw (unedited f.key (suc f.key) es (omega arith) u) (insert_all-past (kept f) (suc f.key) es (map kept (left es fs)) (omega arith) u)

pub after-named : (f : Fields) (fs : List Fields) (e : Edit) (es : List Edit) → key_of e ≡ f.key → items_after (f ∷ fs) (e ∷ es) ≡ items_after fs (e ∷ es)
unfolding items_after keep any
after-named f fs e es q = rw (eq-eqb (key_of e) f.key q) refl

pub after-put : (x : Fields) (fs : List Fields) (es : List Edit) → ItemsUp (suc x.key) fs → EditsUp (suc x.key) es → items_after fs (put x ∷ es) ≡ built x ∷ items_after fs es
unfolding items_after flat_map insert_all
after-put x fs es u v =
    rw (left-past (put x) es (suc x.key) fs (omega arith) u, insert-first x (λ (f : Fields). not (edited es f.key)) (suc x.key) fs (omega arith) u)
    (insert_all-past (built x) (suc x.key) es (map kept (left es fs)) (omega arith) v)

pub after-delete : (k : ℕ) (fs : List Fields) (es : List Edit) → ItemsUp (suc k) fs → items_after fs (delete k ∷ es) ≡ items_after fs es
unfolding items_after flat_map
after-delete k fs es u = rw (left-past (delete k) es (suc k) fs (omega arith) u) refl

applied-first : (fs : List Fields) {p : Piece} (ps : List Piece) (es : List Edit) → Source fs p → ItemsUp (suc p.item.key) fs → EditsUp (suc p.item.key) es → items_after fs es ≡ ps → items_after fs (puts_of p ++ es) ≡ p ∷ ps
applied-first fs ps es (new {x}) u v h = after-put x fs es u v ∙ ap (λ (l : List Piece). built x ∷ l) h
applied-first fs ps es (old {f} i) u v h = absurd (absent i (suc f.key) (omega arith) u)

applied-same : (f : Fields) (fs : List Fields) {p : Piece} (ps : List Piece) (es : List Edit) → f.key ≡ p.item.key → Source (f ∷ fs) p → ItemsUp (suc p.item.key) fs → EditsUp (suc p.item.key) es → items_after fs es ≡ ps → items_after (f ∷ fs) (puts_of p ++ es) ≡ p ∷ ps
applied-same f fs ps es e (new {x}) u v h = after-named f fs (put x) es (sym e) ∙ applied-first fs ps es new u v h
applied-same f fs ps es e (old {f = g} i) u v h =
    ⊎_elim
    (λ q. after_kept f fs es (rw e v) ∙ ap₂ (λ (k : Fields) (l : List Piece). kept k ∷ l) (sym q) h)
    (λ j. absurd (absent j (suc g.key) (omega arith) u))
    (Memᴰ.cases_cons i)

applied : {b : ℕ} {fs : List Fields} {ps : List Piece} {es : List Edit} → Merged b fs ps es → From fs ps → items_after fs es ≡ ps
applied done r = unfold items_after flat_map keep insert_all in refl
applied (gone {f} {fs} {ps} {es} l m) r =
    let u = merged_up m in
    after-named f fs (delete f.key) es refl
    ∙ after-delete f.key fs es u.0
    ∙ applied m (from_tail f fs ps (suc f.key) (omega arith) u.1 r)
applied (first {fs} {p} {ps} {es} l m) r =
    let u = merged_up m in
    applied-first fs ps es r.0 u.0 u.2 (applied m r.1)
applied (same {f} {fs} {p} {ps} {es} l e m) r =
    let u = merged_up m in
    applied-same f fs ps es e r.0 u.0 u.2 (applied m (from_tail f fs ps (suc p.item.key) (omega arith) u.1 r.1))

-- ---- the edits of a plan

module _ (fs : List Fields) (ps : List Piece) (hf : pairs rises fs ≡ true) (hp : pairs rises (items_of ps) ≡ true) where
  pub between : Merged 0 fs ps (edits fs ps)
  between = merged fs ps 0 (rising_up (λ (f : Fields). f.key) fs hf) (rising_up (λ (f : Fields). f.key) (items_of ps) hp)

  pub edits-applied : From fs ps → items_after fs (edits fs ps) ≡ ps
  edits-applied r = applied between r

  pub edits-rise : pairs (λ (d e : Edit). ltb (key_of d) (key_of e)) (edits fs ps) ≡ true
  edits-rise = up_rising key_of 0 (edits fs ps) (merged_up between).2

  -- the puts in order, and a test of every edit
  pub edits-puts : flat_map put_of (edits fs ps) ≡ items_of (keep (λ (p : Piece). p.built) ps)
  edits-puts = merged-puts between

  pub edits_pass : (t : Edit → Bool) → every (delete_passes t) fs ≡ true → every (put_passes t) ps ≡ true → every t (edits fs ps) ≡ true
  edits_pass t h k = merged_pass t between h k

  pub edits-few : length (edits fs ps) ≤ length fs + length ps
  edits-few = merged-few between
