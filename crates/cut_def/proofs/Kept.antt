-- A cut, an insertion and a join keep a list well kept, and its sectors whole. Assumes nothing.
use mathlib.Core.Path.{◌≡◌, refl}
use mathlib.Core.Bool.{Bool, true, false, cond, ◌&&◌, ◌||◌, not}
use mathlib.Core.List.{List, [], ◌∷◌, ◌++◌, flat_map}
use mathlib.Core.Logic.{◌⊎◌, inl, inr, ⊎_elim}
use Prim.Native.Nat.{ℕ, ◌+◌, ◌-◌, ◌%◌, ◌^◌, ◌≤◌, ◌<◌, min, max}
use native.Mathlib.Omega.{arith}
use lib.Dec.{eqb, leb, ltb}
use borrow.Author.Tests.{eq-eqb, leb-true, ltb-true, ltb-false, le-leb, lt-ltb}
use Rattle.records.specs.Stages.{every, pairs}
use Rattle.records.proofs.Tests.{both, both_left, both_right, either, either_left, either_right, implied, imply, every_map, every_both}
use Rattle.records.proofs.Lists.{every_true}
use Rattle.records.proofs.Wholes.{add_whole, sub_whole}
use Rattle.item.specs.Items.{Fields, ranged, end, windowed, joined}
use Rattle.lists.specs.Lists.{item_sound, range_sound, rises, apart, whole_sectors}
use Rattle.lists.proofs.Order.{Ranged, item-ranged}
use Rattle.lists.proofs.Laws.{Kept, kept-head, kept-tail, item-file, whole_facts}
use Rattle.cut_def.specs.Cuts.{front, back}
use Rattle.cut_def.specs.Pieces.{Piece, built, items_of, cut_pieces, insert, insert_all}
use Rattle.cut_def.proofs.Mappings.{Left, stays, taken, fronted, backed, parted, left_cases, items-cut, Joint, joined-position, fits, Joins, unjoined, here, there, then, joins_every}

-- ---- two items apart

-- of two that lie apart one ends at most where the other starts
pub apart_facts : (f g : Fields) → apart f g ≡ true → ranged f ≡ true → ranged g ≡ true → (end f ≤ g.key) ⊎ (end g ≤ f.key)
apart_facts f g h p q =
    ⊎_elim (λ x. inl (leb-true (end f) g.key x)) (λ x. inr (leb-true (end g) f.key x))
    (either (leb (end f) g.key) (leb (end g) f.key)
    (implied (ranged g) (leb (end f) g.key || leb (end g) f.key)
    (implied (ranged f) (not (ranged g) || (leb (end f) g.key || leb (end g) f.key)) h p) q))

apart-sym : (f g : Fields) → apart f g ≡ true → apart g f ≡ true
apart-sym f g h =
    imply (ranged g) (not (ranged f) || (leb (end g) f.key || leb (end f) g.key))
    (λ q. imply (ranged f) (leb (end g) f.key || leb (end f) g.key)
    (λ p. ⊎_elim
    (λ x. either_right (leb (end g) f.key) (leb (end f) g.key) (le-leb (end f) g.key x))
    (λ x. either_left (leb (end g) f.key) (leb (end f) g.key) (le-leb (end g) f.key x))
    (apart_facts f g h p q)))

apart-before : (f g : Fields) → end f ≤ g.key → apart f g ≡ true
apart-before f g h =
    either_right (not (ranged f)) (not (ranged g) || (leb (end f) g.key || leb (end g) f.key))
    (either_right (not (ranged g)) (leb (end f) g.key || leb (end g) f.key)
    (either_left (leb (end f) g.key) (leb (end g) f.key) (le-leb (end f) g.key h)))

-- ---- ranged lists: an invariant by recursion

-- a sound item of kind 1 or 2, as equations
pub record Fine (file : ℕ) (f : Fields) : Type 0 where
  pub own : f.file ≡ file
  pub typed : f.key_type ≡ 108
  pub ranges : ranged f ≡ true
  pub range : Ranged f

-- sound items, each from where the one before it ends, the first from b
abbrev pub From : ℕ → ℕ → List Fields → Type 0
From file b [] = Unit {0}
From file b (f ∷ fs) = (b ≤ f.key) × Fine file f × From file (end f) fs

-- the first key is at least b
abbrev Starts : ℕ → List Fields → Type 0
Starts b [] = Unit {0}
Starts b (f ∷ fs) = b ≤ f.key

starts-zero : (fs : List Fields) → Starts 0 fs
starts-zero [] = tt
starts-zero (f ∷ fs) = omega arith

-- the key is at least b
abbrev above : ℕ → Fields → Bool
above b f = leb b f.key

module _ (file : ℕ) where
  -- a sound item of a ranged list
  pub fine : (f : Fields) → item_sound file f ≡ true → ranged f ≡ true → Fine file f
  fine f h r = record { own = (item-file file f h).0; typed = (item-file file f h).1; ranges = r; range = item-ranged file f h r }

  fine_sound : (f : Fields) → Fine file f → item_sound file f ≡ true
  fine_sound f h =
      both (eqb f.file file && eqb f.key_type 108) (not (ranged f) || range_sound f)
      (both (eqb f.file file) (eqb f.key_type 108) (eq-eqb f.file file h.own) (eq-eqb f.key_type 108 h.typed))
      (either_right (not (ranged f)) (range_sound f)
      (both (leb 1 f.length && leb (end f) (2 ^ 63)) (ltb (f.position + f.length) (2 ^ 64))
      (both (leb 1 f.length) (leb (end f) (2 ^ 63)) (le-leb 1 f.length h.range.some) (le-leb (end f) (2 ^ 63) h.range.ends))
      (lt-ltb (f.position + f.length) (2 ^ 64) h.range.fits)))

  from-lower : (a b : ℕ) (fs : List Fields) → a ≤ b → From file b fs → From file a fs
  from-lower a b [] h k = tt
  from-lower a b (f ∷ fs) h k = (omega (arith, k.0), k.1, k.2)

  starts-next : (f : Fields) (fs : List Fields) → Kept file (f ∷ fs) → every ranged (f ∷ fs) ≡ true → Starts (end f) fs
  unfolding every pairs
  starts-next f [] k r = tt
  starts-next f (g ∷ gs) k r =
      let q : ranged g ≡ true = both_left (ranged g) (every ranged gs) (both_right (ranged f) (every ranged (g ∷ gs)) r) in
      let l = ltb-true f.key g.key (both_left (rises f g) (every (rises f) gs) (both_left (every (rises f) (g ∷ gs)) (pairs rises (g ∷ gs)) k.rising)) in
      let s = (item-ranged file g (kept-head file g gs (kept-tail file f (g ∷ gs) k)) q).some in
      ⊎_elim (λ x. x) (λ x. absurd (omega arith))
      (apart_facts f g (both_left (apart f g) (every (apart f) gs) (both_left (every (apart f) (g ∷ gs)) (pairs apart (g ∷ gs)) k.separate)) (both_left (ranged f) (every ranged (g ∷ gs)) r) q)

  from-kept : (b : ℕ) (fs : List Fields) → Kept file fs → every ranged fs ≡ true → Starts b fs → From file b fs
  unfolding every
  from-kept b [] k r h = tt
  from-kept b (f ∷ fs) k r h =
      (h, fine f (kept-head file f fs k) (both_left (ranged f) (every ranged fs) r), from-kept (end f) fs (kept-tail file f fs k) (both_right (ranged f) (every ranged fs) r) (starts-next f fs k r))

  -- a ranged list that is well kept is so from 0 on
  pub kept_from : (fs : List Fields) → Kept file fs → every ranged fs ≡ true → From file 0 fs
  kept_from fs k r = from-kept 0 fs k r (starts-zero fs)

  from-above : (b : ℕ) (fs : List Fields) → From file b fs → every (above b) fs ≡ true
  unfolding every
  from-above b [] k = refl
  from-above b (f ∷ fs) k =
      both (above b f) (every (above b) fs) (le-leb b f.key k.0)
      (every_map (above (end f)) (above b) (λ g e. let p = leb-true (end f) g.key e in le-leb b g.key (omega (arith, k.0))) fs (from-above (end f) fs k.2))

  -- and back: it is well kept
  pub from_keeps : (b : ℕ) (fs : List Fields) → From file b fs → Kept file fs
  unfolding every pairs
  from_keeps b [] k = record { sound = refl; rising = refl; separate = refl }
  from_keeps b (f ∷ fs) k =
      let r : Kept file fs = from_keeps (end f) fs k.2 in
      let a : every (above (end f)) fs ≡ true = from-above (end f) fs k.2 in
      let s : 1 ≤ f.length = k.1.range.some in
      record {
        sound = both (item_sound file f) (every (item_sound file) fs) (fine_sound f k.1) r.sound;
        rising = both (every (rises f) fs) (pairs rises fs) (every_map (above (end f)) (rises f) (λ g e. let p = leb-true (end f) g.key e in lt-ltb f.key g.key (omega arith)) fs a) r.rising;
        separate = both (every (apart f) fs) (pairs apart fs) (every_map (above (end f)) (apart f) (λ g e. apart-before f g (leb-true (end f) g.key e)) fs a) r.separate;
      }

  -- and all its items are ranged
  pub from-ranged : (b : ℕ) (fs : List Fields) → From file b fs → every ranged fs ≡ true
  unfolding every
  from-ranged b [] k = refl
  from-ranged b (f ∷ fs) k = both (ranged f) (every ranged fs) k.1.ranges (from-ranged (end f) fs k.2)

  -- what joins want (`joins_show`)
  pub kept_fits : (fs : List Fields) → Kept file fs → every ranged fs ≡ true → every fits fs ≡ true
  kept_fits fs k r =
      every_map (λ (f : Fields). item_sound file f && ranged f) fits
      (λ f e. lt-ltb (f.position + f.length) (2 ^ 64) (item-ranged file f (both_left (item_sound file f) (ranged f) e) (both_right (item_sound file f) (ranged f) e)).fits)
      fs (every_both (item_sound file) ranged fs k.sound r)

-- ---- a cut

-- a part of an item, with a sound range
fine_window : (file : ℕ) (f : Fields) (key position length : ℕ) → Fine file f → 1 ≤ length → key + length ≤ 2 ^ 63 → position + length < 2 ^ 64 → Fine file (windowed f f.file key position length)
fine_window file f key position length h s e p = record { own = h.own; typed = h.typed; ranges = h.ranges; range = record { some = s; ends = e; fits = p } }

module _ (file lo hi b : ℕ) (f : Fields) (fs : List Fields) (l : b ≤ f.key) (h : Fine file f) (k : From file (end f) fs) where
  front_fine : f.key < lo → Fine file (front lo f)
  front_fine p = fine_window file f f.key f.position (min (end f) lo - f.key) h (omega arith) (omega arith) (omega arith)

  back_fine : hi < end f → Fine file (back hi f)
  back_fine p = fine_window file f (max f.key hi) (f.position + (max f.key hi - f.key)) (end f - max f.key hi) h (omega arith) (omega arith) (omega arith)

  left-from : {gs : List Fields} → Left lo hi f gs → From file b (gs ++ fs)
  left-from (stays s) = (l, h, k)
  left-from (taken o p q) = from-lower file b (end f) fs (omega arith) k
  left-from (fronted o p q r) = (l, front_fine p, from-lower file (end (front lo f)) (end f) fs (omega arith) k)
  left-from (backed o p q r) = (omega arith, back_fine r, from-lower file (end (back hi f)) (end f) fs (omega arith) k)
  left-from (parted o p q) = (l, front_fine p, (omega arith, back_fine q, from-lower file (end (back hi f)) (end f) fs (omega arith) k))

-- a cut keeps the invariant
pub from_cut : (file lo hi b : ℕ) (fs : List Fields) → From file b fs → From file b (items_of (cut_pieces lo hi fs))
unfolding cut_pieces flat_map
from_cut file lo hi b [] k = tt
from_cut file lo hi b (f ∷ fs) k =
    rw items-cut (left-from file lo hi b f (items_of (cut_pieces lo hi fs)) k.0 k.1 (from_cut file lo hi (end f) fs k.2) (left_cases lo hi f))

-- a cut keeps a ranged list well kept
pub kept-cut : (file lo hi : ℕ) (fs : List Fields) → Kept file fs → every ranged fs ≡ true → Kept file (items_of (cut_pieces lo hi fs))
kept-cut file lo hi fs k r = from_keeps file 0 (items_of (cut_pieces lo hi fs)) (from_cut file lo hi 0 fs (kept_from file fs k r))

-- a test t of all pieces from a test u of all items: t where an item stays, t of its front, t of its back
module _
    (lo hi : ℕ) (u t : Fields → Bool)
    (stay : (f : Fields) → u f ≡ true → (lo < hi → (end f ≤ lo) ⊎ (hi ≤ f.key)) → t f ≡ true)
    (before : (f : Fields) → u f ≡ true → f.key < lo → lo < end f → t (front lo f) ≡ true)
    (behind : (f : Fields) → u f ≡ true → f.key < hi → hi < end f → t (back hi f) ≡ true) where
  left-every : (f : Fields) (fs : List Fields) {gs : List Fields} → Left lo hi f gs → u f ≡ true → every t fs ≡ true → every t (gs ++ fs) ≡ true
  unfolding every
  left-every f fs (stays s) h e = both (t f) (every t fs) (stay f h s) e
  left-every f fs (taken o p q) h e = e
  left-every f fs (fronted o p q r) h e = both (t (front lo f)) (every t fs) (before f h p q) e
  left-every f fs (backed o p q r) h e = both (t (back hi f)) (every t fs) (behind f h q r) e
  left-every f fs (parted o p q) h e =
      both (t (front lo f)) (t (back hi f) && every t fs) (before f h p (omega arith))
      (both (t (back hi f)) (every t fs) (behind f h (omega arith) q) e)

  -- a test over all pieces
  pub every-cut : (fs : List Fields) → every u fs ≡ true → every t (items_of (cut_pieces lo hi fs)) ≡ true
  unfolding every cut_pieces flat_map
  every-cut [] e = refl
  every-cut (f ∷ fs) e =
      rw items-cut (left-every f (items_of (cut_pieces lo hi fs)) (left_cases lo hi f) (both_left (u f) (every u fs) e) (every-cut fs (both_right (u f) (every u fs) e)))

-- the pieces of ranged items are ranged
pub ranged-cut : (lo hi : ℕ) (fs : List Fields) → every ranged fs ≡ true → every ranged (items_of (cut_pieces lo hi fs)) ≡ true
ranged-cut lo hi fs e = every-cut lo hi ranged ranged (λ f h s. h) (λ f h p q. h) (λ f h p q. h) fs e

whole_told : (s : ℕ) (f : Fields) → (ranged f ≡ true → (f.key % s ≡ 0) × (f.length % s ≡ 0)) → whole_sectors s f ≡ true
whole_told s f h =
    imply (ranged f) (eqb (f.key % s) 0 && eqb (f.length % s) 0)
    (λ r. both (eqb (f.key % s) 0) (eqb (f.length % s) 0) (eq-eqb (f.key % s) 0 (h r).0) (eq-eqb (f.length % s) 0 (h r).1))

-- a cut at whole sectors leaves whole sectors
pub whole_cut : (sector lo hi : ℕ) (fs : List Fields) → lo % sector ≡ 0 → hi % sector ≡ 0 → every (whole_sectors sector) fs ≡ true → every (whole_sectors sector) (items_of (cut_pieces lo hi fs)) ≡ true
whole_cut sector lo hi fs l h e = every-cut lo hi (whole_sectors sector) (whole_sectors sector) (λ f w s. w) before behind fs e
  where
    before : (f : Fields) → whole_sectors sector f ≡ true → f.key < lo → lo < end f → whole_sectors sector (front lo f) ≡ true
    before f w p q =
        whole_told sector (front lo f)
        (λ r. let k = whole_facts sector f w r in
        let m : min (end f) lo ≡ lo = omega arith in
        (k.0, rw m (sub_whole sector lo f.key l k.0)))

    behind : (f : Fields) → whole_sectors sector f ≡ true → f.key < hi → hi < end f → whole_sectors sector (back hi f) ≡ true
    behind f w p q =
        whole_told sector (back hi f)
        (λ r. let k = whole_facts sector f w r in
        let m : max f.key hi ≡ hi = omega arith in
        (rw m h, rw m (sub_whole sector (end f) hi (add_whole sector f.key f.length k.0 k.1) h)))

-- no byte of [lo, hi)
abbrev pub clear : ℕ → ℕ → Fields → Bool
clear lo hi f = leb (end f) lo || leb hi f.key

pub is-clear : (lo hi : ℕ) (f : Fields) → (end f ≤ lo) ⊎ (hi ≤ f.key) → clear lo hi f ≡ true
is-clear lo hi f (inl h) = either_left (leb (end f) lo) (leb hi f.key) (le-leb (end f) lo h)
is-clear lo hi f (inr h) = either_right (leb (end f) lo) (leb hi f.key) (le-leb hi f.key h)

-- what a cut leaves is clear of the range
pub cut-clear : (lo hi : ℕ) (fs : List Fields) → lo < hi → every (clear lo hi) (items_of (cut_pieces lo hi fs)) ≡ true
cut-clear lo hi fs h =
    every-cut lo hi (λ (f : Fields). true) (clear lo hi)
    (λ f e s. is-clear lo hi f (s h))
    (λ f e p q. is-clear lo hi (front lo f) (inl (omega arith)))
    (λ f e p q. is-clear lo hi (back hi f) (inr (omega arith)))
    fs (every_true fs)

-- an item inside the range lies apart from items clear of it
pub clear_apart : (lo hi : ℕ) (x : Fields) (fs : List Fields) → lo ≤ x.key → end x ≤ hi → every (clear lo hi) fs ≡ true → every (apart x) fs ≡ true
clear_apart lo hi x fs p q e =
    every_map (clear lo hi) (apart x)
    (λ f c. ⊎_elim
    (λ l. let m = leb-true (end f) lo l in apart-sym f x (apart-before f x (omega arith)))
    (λ l. let m = leb-true hi f.key l in apart-before x f (omega arith))
    (either (leb (end f) lo) (leb hi f.key) c))
    fs e

-- ---- insertions

-- a new item that lies apart from all others keeps the invariant
pub from-insert : (file b : ℕ) (x : Fields) (ps : List Piece) → Fine file x → b ≤ x.key → every (apart x) (items_of ps) ≡ true → From file b (items_of ps) → From file b (items_of (insert x ps))
unfolding insert every
from-insert file b x [] h l a k = (l, h, tt)
from-insert file b x (p ∷ ps) h l a k =
    go (ltb x.key p.item.key) refl (apart_facts x p.item (both_left (apart x p.item) (every (apart x) (items_of ps)) a) h.ranges k.1.ranges)
    (λ m. from-insert file (end p.item) x ps h m (both_right (apart x p.item) (every (apart x) (items_of ps)) a) k.2)
  where
    go :
        (t : Bool) → ltb x.key p.item.key ≡ t
        → (end x ≤ p.item.key) ⊎ (end p.item ≤ x.key)
        → (end p.item ≤ x.key → From file (end p.item) (items_of (insert x ps)))
        → From file b (items_of (cond t (built x ∷ p ∷ ps) (p ∷ insert x ps)))
    go true e (inl m) ih = (l, h, (m, k.1, k.2))
    go true e (inr m) ih = absurd (omega (arith, ltb-true x.key p.item.key e))
    go false e (inl m) ih = absurd (omega (arith, ltb-false x.key p.item.key e, h.range.some))
    go false e (inr m) ih = (k.0, k.1, ih m)

-- a new item that lies apart from all others keeps a ranged list well kept
pub kept-insert :
    (file : ℕ) (x : Fields) (ps : List Piece)
    → item_sound file x ≡ true
    → ranged x ≡ true
    → every (apart x) (items_of ps) ≡ true
    → Kept file (items_of ps)
    → every ranged (items_of ps) ≡ true
    → Kept file (items_of (insert x ps))
kept-insert file x ps h q a k r = from_keeps file 0 (items_of (insert x ps)) (from-insert file 0 x ps (fine file x h q) (omega arith) a (kept_from file (items_of ps) k r))

-- a test that holds for all items and the new one, as ranged and whole
pub every-insert : (t : Fields → Bool) (x : Fields) (ps : List Piece) → t x ≡ true → every t (items_of ps) ≡ true → every t (items_of (insert x ps)) ≡ true
unfolding insert every
every-insert t x [] h e = both (t x) true h refl
every-insert t x (p ∷ ps) h e = go (ltb x.key p.item.key) (every-insert t x ps h (both_right (t p.item) (every t (items_of ps)) e))
  where
    go : (b : Bool) → every t (items_of (insert x ps)) ≡ true → every t (items_of (cond b (built x ∷ p ∷ ps) (p ∷ insert x ps))) ≡ true
    go true i = both (t x) (every t (items_of (p ∷ ps))) h e
    go false i = both (t p.item) (every t (items_of (insert x ps))) (both_left (t p.item) (every t (items_of ps)) e) i

-- and all new ones
pub every-insert_all : (t : Fields → Bool) (xs : List Fields) (ps : List Piece) → every t xs ≡ true → every t (items_of ps) ≡ true → every t (items_of (insert_all xs ps)) ≡ true
unfolding insert_all every
every-insert_all t [] ps h e = e
every-insert_all t (x ∷ xs) ps h e = every-insert_all t xs (insert x ps) (both_right (t x) (every t xs) h) (every-insert t x ps (both_left (t x) (every t xs) h) e)

-- every new item lies apart from every item
abbrev pub all_apart : List Fields → List Fields → Bool
all_apart xs fs = every (λ (x : Fields). every (apart x) fs) xs

-- and still does when one more, apart from them, is there
apart-insert : (x : Fields) (xs : List Fields) (ps : List Piece) → every (apart x) xs ≡ true → all_apart xs (items_of ps) ≡ true → all_apart xs (items_of (insert x ps)) ≡ true
apart-insert x xs ps h a =
    every_map (λ (y : Fields). apart x y && every (apart y) (items_of ps)) (λ (y : Fields). every (apart y) (items_of (insert x ps)))
    (λ y e. every-insert (apart y) x ps (apart-sym x y (both_left (apart x y) (every (apart y) (items_of ps)) e)) (both_right (apart x y) (every (apart y) (items_of ps)) e))
    xs (every_both (apart x) (λ (y : Fields). every (apart y) (items_of ps)) xs h a)

-- so do several, apart from each other and from all others
pub from-insert_all :
    (file : ℕ) (xs : List Fields) (ps : List Piece)
    → every (item_sound file) xs ≡ true
    → every ranged xs ≡ true
    → pairs apart xs ≡ true
    → all_apart xs (items_of ps) ≡ true
    → From file 0 (items_of ps)
    → From file 0 (items_of (insert_all xs ps))
unfolding insert_all every pairs
from-insert_all file [] ps h q s a k = k
from-insert_all file (x ∷ xs) ps h q s a k =
    from-insert_all file xs (insert x ps)
    (both_right (item_sound file x) (every (item_sound file) xs) h)
    (both_right (ranged x) (every ranged xs) q)
    (both_right (every (apart x) xs) (pairs apart xs) s)
    (apart-insert x xs ps (both_left (every (apart x) xs) (pairs apart xs) s) (both_right (every (apart x) (items_of ps)) (all_apart xs (items_of ps)) a))
    (from-insert file 0 x ps (fine file x (both_left (item_sound file x) (every (item_sound file) xs) h) (both_left (ranged x) (every ranged xs) q)) (omega arith) (both_left (every (apart x) (items_of ps)) (all_apart xs (items_of ps)) a) k)

-- new items that lie apart from each other and from all others keep a ranged list well kept
pub kept-insertAll :
    (file : ℕ) (xs : List Fields) (ps : List Piece)
    → every (item_sound file) xs ≡ true
    → every ranged xs ≡ true
    → pairs apart xs ≡ true
    → all_apart xs (items_of ps) ≡ true
    → Kept file (items_of ps)
    → every ranged (items_of ps) ≡ true
    → Kept file (items_of (insert_all xs ps))
kept-insertAll file xs ps h q s a k r = from_keeps file 0 (items_of (insert_all xs ps)) (from-insert_all file xs ps h q s a (kept_from file (items_of ps) k r))

-- inside [lo, hi)
abbrev pub within : ℕ → ℕ → Fields → Bool
within lo hi x = leb lo x.key && leb (end x) hi

-- items inside the range lie apart from what a cut leaves
pub cut_apart : (lo hi : ℕ) (xs fs : List Fields) → lo < hi → every (within lo hi) xs ≡ true → all_apart xs (items_of (cut_pieces lo hi fs)) ≡ true
cut_apart lo hi xs fs h w =
    every_map (within lo hi) (λ (x : Fields). every (apart x) (items_of (cut_pieces lo hi fs)))
    (λ x e. clear_apart lo hi x (items_of (cut_pieces lo hi fs)) (leb-true lo x.key (both_left (leb lo x.key) (leb (end x) hi) e)) (leb-true (end x) hi (both_right (leb lo x.key) (leb (end x) hi) e)) (cut-clear lo hi fs h))
    xs w

-- ---- joins

fine_joined : (file n : ℕ) (f g : Fields) → Joint f g → Fine file f → Fine file g → Fine file (joined f g n)
fine_joined file n f g j p q =
    let e : end f ≡ g.key = j.touch in
    let r = joined-position f g j p.range.fits (omega arith) in
    record { own = p.own; typed = p.typed; ranges = p.ranges; range = record { some = omega arith; ends = omega arith; fits = omega arith } }

-- joins keep the invariant
pub from_joins : (file n : ℕ) {fs gs : List Fields} → Joins n fs gs → (b : ℕ) → From file b fs → From file b gs
from_joins file n unjoined b k = k
from_joins file n (here {f} {g} {fs} j) b k = (k.0, fine_joined file n f g j k.1 k.2.1, from-lower file (end (joined f g n)) (end g) fs (omega (arith, j.touch)) k.2.2)
from_joins file n (there {f} j) b k = (k.0, k.1, from_joins file n j (end f) k.2)
from_joins file n (then i j) b k = from_joins file n j b (from_joins file n i b k)

-- joins keep a ranged list well kept
pub kept_joins : (file n : ℕ) {fs gs : List Fields} → Joins n fs gs → Kept file fs → every ranged fs ≡ true → Kept file gs
kept_joins file n {fs} {gs} j k r = from_keeps file 0 gs (from_joins file n j 0 (kept_from file fs k r))

-- and ranged
pub ranged_joins : (n : ℕ) {fs gs : List Fields} → Joins n fs gs → every ranged fs ≡ true → every ranged gs ≡ true
ranged_joins n j e = joins_every n ranged (λ f g i p q. p) j e

-- and whole sectors whole
pub whole_joins : (sector n : ℕ) {fs gs : List Fields} → Joins n fs gs → every (whole_sectors sector) fs ≡ true → every (whole_sectors sector) gs ≡ true
whole_joins sector n j e = joins_every n (whole_sectors sector) go j e
  where
    go : (f g : Fields) → Joint f g → whole_sectors sector f ≡ true → whole_sectors sector g ≡ true → whole_sectors sector (joined f g n) ≡ true
    go f g i p q =
        whole_told sector (joined f g n)
        (λ r. let a = whole_facts sector f p r in
        let b = whole_facts sector g q (rw i.second.kind refl) in
        (a.0, add_whole sector f.length g.length a.1 b.1))
