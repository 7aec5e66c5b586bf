-- How many items name an extent, and at which reference offset: what a cut, a new item and a join make of these numbers.
-- Assumes nothing.
use mathlib.Core.Path.{◌≡◌, refl, ap, ◌∙◌, sym}
use mathlib.Core.Bool.{Bool, true, false, cond, ◌&&◌, not, false≢true}
use mathlib.Core.List.{List, [], ◌∷◌, ◌++◌, map, flat_map, tail}
use Prim.Native.Nat.{ℕ, ◌+◌, ◌-◌, ◌^◌, ◌<◌, ◌≤◌, min, max}
use native.Mathlib.Omega.{arith}
use lib.Dec.{eqb, leb, ltb}
use borrow.Author.Tests.{ltb-true, ltb-false, not-true, lt-ltb, le-leb, lt-leb, eq-eqb}
use Rattle.records.specs.Select.{only, count}
use Rattle.records.specs.Stages.{every, pairs}
use Rattle.records.proofs.Tests.{both, both_left, both_right, same, every_map}
use Rattle.records.proofs.Counts.{count_append, count_map, count_most}
use Rattle.item.specs.Items.{Fields, ranged, hole, end, reference, joined}
use Rattle.lists.specs.Lists.{rises}
use Rattle.cut_def.specs.Cuts.{front, back, cut, touched, covered, split}
use Rattle.cut_def.specs.Pieces.{Piece, built, kept, items_of, cut_pieces, insert, insert_all}
use Rattle.cut_def.specs.Joins.{joinable, join_next, past, join_around, join_all}
use Rattle.cut_def.specs.Mappings.{named}
use Rattle.cut_def.proofs.Mappings.{joint}
use Rattle.cut_def.specs.Refs.{Ref, ref_of, same_ref, names, refers, naming, referring, ref_passes}

-- ---- a test that the pieces of a cut item pass as the item does, and that no hole passes

pub record OfPieces (p : Fields → Bool) : Type 0 where
  pub of_front : (lo : ℕ) (f : Fields) → p (front lo f) ≡ p f
  pub of_back : (hi : ℕ) (f : Fields) → p (back hi f) ≡ p f
  pub no-hole : (f : Fields) → p f ≡ true → hole f ≡ false

-- an item keeps its reference offset however it is cut: a front has its key and position
pub front-reference : (lo : ℕ) (f : Fields) → reference (front lo f) ≡ reference f
front-reference lo f = refl

-- and of a back both are advanced alike
pub back-reference : (hi : ℕ) (f : Fields) → reference (back hi f) ≡ reference f
back-reference hi f =
    let e : max f.key hi + 2 ^ 64 - (f.position + (max f.key hi - f.key)) ≡ f.key + 2 ^ 64 - f.position = omega arith in
    rw e refl

named-hole : (f : Fields) → named f ≡ true → hole f ≡ false
named-hole f h = not-true (hole f) (both_right (ranged f) (not (hole f)) h)

-- by any test on references
pub passes_pieces : (p : Ref → Bool) → OfPieces (ref_passes p)
passes_pieces p =
    record {
      of_front = λ lo f. refl;
      of_back = λ hi f. rw (back-reference hi f) refl;
      no-hole = λ f h. named-hole f (both_left (named f) (p (ref_of f)) h);
    }

-- ---- a cut

abbrev pieces : ℕ → ℕ → Fields → List Piece
pieces lo hi f = cond (touched lo hi f) (map built (cut lo hi f)) (kept f ∷ [])

leb-not : (a b : ℕ) → leb a b ≡ not (ltb b a)
leb-not a b = go (ltb b a) refl
  where
    go : (t : Bool) → ltb b a ≡ t → leb a b ≡ not t
    go true e = let h = ltb-true b a e in lt-leb a b (omega arith)
    go false e = le-leb a b (ltb-false b a e)

-- an item that is split is touched, and one that passes is no hole
split-touched : (p : Fields → Bool) → OfPieces p → (lo hi : ℕ) (f : Fields)
    → (split lo hi f && p f) ≡ ((touched lo hi f && (ltb f.key lo && ltb hi (end f))) && p f)
split-touched p o lo hi f =
    let l : Bool = ltb lo hi in
    let m : Bool = ltb lo (end f) && ltb f.key hi in
    let a : Bool = ltb f.key lo in
    let b : Bool = ltb hi (end f) in
    let n : Bool = not (hole f) in
    same ((l && ((a && b) && n)) && p f) (((l && m) && (a && b)) && p f)
    (λ h.
    let s : (l && ((a && b) && n)) ≡ true = both_left (l && ((a && b) && n)) (p f) h in
    let el : l ≡ true = both_left l ((a && b) && n) s in
    let ab : (a && b) ≡ true = both_left (a && b) n (both_right l ((a && b) && n) s) in
    let hl = ltb-true lo hi el in
    let ha = ltb-true f.key lo (both_left a b ab) in
    let hb = ltb-true hi (end f) (both_right a b ab) in
    both ((l && m) && (a && b)) (p f)
    (both (l && m) (a && b) (both l m el (both (ltb lo (end f)) (ltb f.key hi) (lt-ltb lo (end f) (omega arith)) (lt-ltb f.key hi (omega arith)))) ab)
    (both_right (l && ((a && b) && n)) (p f) h))
    (λ h.
    let t : ((l && m) && (a && b)) ≡ true = both_left ((l && m) && (a && b)) (p f) h in
    let q : p f ≡ true = both_right ((l && m) && (a && b)) (p f) h in
    both (l && ((a && b) && n)) (p f)
    (both l ((a && b) && n) (both_left l m (both_left (l && m) (a && b) t)) (both (a && b) n (both_right (l && m) (a && b) t) (rw (o.no-hole f q) refl)))
    q)

-- one item
cut-one : (p : Fields → Bool) → OfPieces p → (lo hi : ℕ) (f : Fields)
    → count p (items_of (pieces lo hi f)) + cond (covered lo hi f && p f) 1 0 ≡ cond (p f) 1 0 + cond (split lo hi f && p f) 1 0
unfolding count
cut-one p o lo hi f =
    rw (split-touched p o lo hi f, leb-not lo f.key, leb-not (end f) hi)
    (go (touched lo hi f) (ltb f.key lo) (ltb hi (end f)))
  where
    go : (t a b : Bool)
        → count p (items_of (cond t (map built (only a (front lo f) ++ only b (back hi f))) (kept f ∷ []))) + cond ((t && (not a && not b)) && p f) 1 0
        ≡ cond (p f) 1 0 + cond ((t && (a && b)) && p f) 1 0
    go true true true = rw (o.of_front lo f, o.of_back hi f) (omega arith)
    go true true false = rw (o.of_front lo f) (omega arith)
    go true false true = rw (o.of_back hi f) (omega arith)
    go true false false = omega arith
    go false a b = omega arith

items_append : (p : Fields → Bool) (ps qs : List Piece) → count p (items_of (ps ++ qs)) ≡ count p (items_of ps) + count p (items_of qs)
items_append p ps qs =
    let g : Piece → Fields = λ x. x.item in
    rw (count_map p g (ps ++ qs), count_map p g ps, count_map p g qs) (count_append (λ x. p (g x)) ps qs)

-- all items: one more for each that is split, one fewer for each that is covered
pub cut-count : (p : Fields → Bool) → OfPieces p → (lo hi : ℕ) (fs : List Fields)
    → count p (items_of (cut_pieces lo hi fs)) + count (λ (f : Fields). covered lo hi f && p f) fs ≡ count p fs + count (λ (f : Fields). split lo hi f && p f) fs
unfolding count cut_pieces flat_map
cut-count p o lo hi [] = refl
cut-count p o lo hi (f ∷ fs) =
    omega (arith, items_append p (pieces lo hi f) (cut_pieces lo hi fs), cut-one p o lo hi f, cut-count p o lo hi fs)

-- by extent and reference offset
pub cut-counts : (r : Ref) (lo hi : ℕ) (fs : List Fields)
    → referring r (items_of (cut_pieces lo hi fs)) + count (λ (f : Fields). covered lo hi f && refers r f) fs ≡ referring r fs + count (λ (f : Fields). split lo hi f && refers r f) fs
cut-counts r = cut-count (refers r) (passes_pieces (λ (q : Ref). same_ref q r))

-- by extent
pub cut-names : (start lo hi : ℕ) (fs : List Fields)
    → naming start (items_of (cut_pieces lo hi fs)) + count (λ (f : Fields). covered lo hi f && names start f) fs ≡ naming start fs + count (λ (f : Fields). split lo hi f && names start f) fs
cut-names start = cut-count (names start) (passes_pieces (λ (q : Ref). eqb q.start start))

-- ---- new items

-- one, by any test
pub insert-counts : (p : Fields → Bool) (x : Fields) (ps : List Piece) → count p (items_of (insert x ps)) ≡ cond (p x) 1 0 + count p (items_of ps)
unfolding count insert
insert-counts p x [] = refl
insert-counts p x (q ∷ qs) = go (ltb x.key q.item.key) (insert-counts p x qs)
  where
    go : (b : Bool) → count p (items_of (insert x qs)) ≡ cond (p x) 1 0 + count p (items_of qs)
        → count p (items_of (cond b (built x ∷ q ∷ qs) (q ∷ insert x qs))) ≡ cond (p x) 1 0 + count p (items_of (q ∷ qs))
    go true h = refl
    go false h = omega arith

-- several
pub insert_all-counts : (p : Fields → Bool) (xs : List Fields) (ps : List Piece) → count p (items_of (insert_all xs ps)) ≡ count p xs + count p (items_of ps)
unfolding count insert_all
insert_all-counts p [] ps = omega arith
insert_all-counts p (x ∷ xs) ps = omega (arith, insert_all-counts p xs (insert x ps), insert-counts p x ps)

-- ---- extents and references

-- an item that refers to an extent names it
pub refers-names : (r : Ref) (f : Fields) → refers r f ≡ true → names r.start f ≡ true
refers-names r f h =
    let e : same_ref (ref_of f) r ≡ true = both_right (named f) (same_ref (ref_of f) r) h in
    both (named f) (eqb f.extent_start r.start) (both_left (named f) (same_ref (ref_of f) r) h) (both_left (eqb f.extent_start r.start) (eqb (reference f) r.offset) e)

-- an item that names an extent refers to it, at its own offset
pub names-refers : (start : ℕ) (f : Fields) → names start f ≡ true → refers (ref_of f) f ≡ true
names-refers start f h =
    both (named f) (same_ref (ref_of f) (ref_of f)) (both_left (named f) (eqb f.extent_start start) h)
    (both (eqb f.extent_start f.extent_start) (eqb (reference f) (reference f)) (eq-eqb f.extent_start f.extent_start refl) (eq-eqb (reference f) (reference f) refl))

-- an extent is named at least as often as it is referred to at one offset
pub referring-most : (r : Ref) (fs : List Fields) → referring r fs ≤ naming r.start fs
referring-most r fs = count_most (refers r) (names r.start) (refers-names r) fs

-- ---- a test that a joined item passes as both of its parts do

pub record OfJoins (p : Fields → Bool) : Type 0 where
  pub of_joined : (f g : Fields) (n : ℕ) → p (joined f g n) ≡ p f
  pub of_both : (f g : Fields) → joinable f g ≡ true → p f ≡ p g

-- by any test on references
pub passes_joins : (p : Ref → Bool) → OfJoins (ref_passes p)
passes_joins p = record { of_joined = λ f g n. refl; of_both = λ f g h. let a = joint f g h in rw (a.first.kind, a.second.kind, a.start, a.offset) refl }

-- ---- joins

-- what holds of a joined piece and of the list as it was holds after a join
pub next_cases : (n : ℕ) (x q : Piece) (qs : List Piece) (P : List Piece → Type 0)
    → (joinable x.item q.item ≡ true → P (built (joined x.item q.item n) ∷ qs)) → P (x ∷ q ∷ qs) → P (join_next n x (q ∷ qs))
next_cases n x q qs P h k = go (joinable x.item q.item) refl
  where
    go : (b : Bool) → joinable x.item q.item ≡ b → P (cond b (built (joined x.item q.item n) ∷ qs) (x ∷ q ∷ qs))
    go true e = h e
    go false e = k

-- what holds of all that a join around a sector may leave holds of what it leaves
pub around_cases : (n s : ℕ) (x : Piece) (ps : List Piece) (P : List Piece → Type 0)
    → P (x ∷ ps) → P (join_next n x ps) → P (join_next n x (join_around n s ps)) → P (x ∷ join_around n s ps) → P (join_around n s (x ∷ ps))
unfolding join_around
around_cases n s x ps P stay behind twice on = go (ltb s x.item.key) (past s ps) (past s (tail ps))
  where
    go : (a b c : Bool) → P (cond a (x ∷ ps) (cond b (join_next n x ps) (cond c (join_next n x (join_around n s ps)) (x ∷ join_around n s ps))))
    go true b c = stay
    go false true c = behind
    go false false true = twice
    go false false false = on

-- a number before and after joins: no more, and not the last one gone
pub record Thinned (before after : ℕ) : Type 0 where
  pub most : after ≤ before
  pub some : min 1 before ≤ after

module _ (p : Fields → Bool) (o : OfJoins p) (n : ℕ) where
  join_next_thinned : (x : Piece) (ps : List Piece) → Thinned (count p (items_of (x ∷ ps))) (count p (items_of (join_next n x ps)))
  unfolding count
  join_next_thinned x [] = omega arith
  join_next_thinned x (q ∷ qs) =
      next_cases n x q qs (λ l. Thinned (count p (items_of (x ∷ q ∷ qs))) (count p (items_of l)))
      (λ e. rw (o.of_joined x.item q.item n, o.of_both x.item q.item e) (omega arith))
      (omega arith)

  -- at one sector
  pub join_around_thinned : (s : ℕ) (ps : List Piece) → Thinned (count p (items_of ps)) (count p (items_of (join_around n s ps)))
  unfolding count
  join_around_thinned s [] = unfold join_around in omega arith
  join_around_thinned s (x ∷ ps) =
      let h = join_around_thinned s ps in
      let k = join_next_thinned x (join_around n s ps) in
      around_cases n s x ps (λ l. Thinned (count p (items_of (x ∷ ps))) (count p (items_of l)))
      (omega arith) (join_next_thinned x ps) (omega arith) (omega arith)

  -- at all
  pub join_all_thinned : (ss : List ℕ) (ps : List Piece) → Thinned (count p (items_of ps)) (count p (items_of (join_all n ss ps)))
  unfolding join_all
  join_all_thinned [] ps = omega arith
  join_all_thinned (s ∷ ss) ps =
      let h = join_around_thinned s ps in
      let k = join_all_thinned ss (join_around n s ps) in
      omega arith

-- a reference is never built by a join
pub join_referring : (r : Ref) (n : ℕ) (ss : List ℕ) (ps : List Piece) → referring r (items_of (join_all n ss ps)) ≤ referring r (items_of ps)
join_referring r n ss ps = (join_all_thinned (refers r) (passes_joins (λ (q : Ref). same_ref q r)) n ss ps).most

-- and an extent's last item never goes
pub join_naming : (start n : ℕ) (ss : List ℕ) (ps : List Piece) → 0 < naming start (items_of ps) → 0 < naming start (items_of (join_all n ss ps))
join_naming start n ss ps h = let k = join_all_thinned (names start) (passes_joins (λ (q : Ref). eqb q.start start)) n ss ps in omega arith

-- ---- joins that leave a number as it is

-- whether the item that a sector is written in, the last at or before it, passes
unfoldable pub last_at : (Fields → Bool) → ℕ → List Piece → Bool
last_at p s [] = false
last_at p s (x ∷ ps) = cond (ltb s x.item.key) false (cond (past s ps) (p x.item) (last_at p s ps))

-- keys rise
abbrev Rising : List Piece → Type 0
Rising [] = Unit {0}
Rising (x ∷ ps) = (past x.item.key ps ≡ true) × Rising ps

rising : (ps : List Piece) → pairs rises (items_of ps) ≡ true → Rising ps
unfolding pairs
rising [] h = tt
rising (x ∷ ps) h =
    let t : Bool = every (rises x.item) (items_of ps) in
    let u : Bool = pairs rises (items_of ps) in
    (next ps (both_left t u h), rising ps (both_right t u h))
  where
    next : (ps : List Piece) → every (rises x.item) (items_of ps) ≡ true → past x.item.key ps ≡ true
    next [] h = refl
    next (q ∷ qs) h = unfold every in both_left (rises x.item q.item) (every (rises x.item) (items_of qs)) h

past-before : (a b : ℕ) → a ≤ b → (ps : List Piece) → past b ps ≡ true → past a ps ≡ true
past-before a b l [] h = refl
past-before a b l (x ∷ ps) h = let k = ltb-true b x.item.key h in lt-ltb a x.item.key (omega arith)

module _ (n : ℕ) where
  -- the first key and the order stay
  join_next-past : (k : ℕ) (x : Piece) (ps : List Piece) → past k (join_next n x ps) ≡ past k (x ∷ ps)
  join_next-past k x [] = refl
  join_next-past k x (q ∷ qs) = next_cases n x q qs (λ l. past k l ≡ past k (x ∷ q ∷ qs)) (λ e. refl) refl

  join_around-past : (s k : ℕ) (ps : List Piece) → past k (join_around n s ps) ≡ past k ps
  join_around-past s k [] = unfold join_around in refl
  join_around-past s k (x ∷ ps) =
      around_cases n s x ps (λ l. past k l ≡ past k (x ∷ ps)) refl (join_next-past k x ps) (join_next-past k x (join_around n s ps)) refl

  join_next_rising : (x : Piece) (ps : List Piece) → Rising (x ∷ ps) → Rising (join_next n x ps)
  join_next_rising x [] h = h
  join_next_rising x (q ∷ qs) h =
      let k = ltb-true x.item.key q.item.key h.0 in
      next_cases n x q qs Rising (λ e. (past-before x.item.key q.item.key (omega arith) qs h.1.0, h.1.1)) h

  join_around_rising : (s : ℕ) (ps : List Piece) → Rising ps → Rising (join_around n s ps)
  join_around_rising s [] h = unfold join_around in tt
  join_around_rising s (x ∷ ps) h =
      let on : Rising (x ∷ join_around n s ps) = (rw (join_around-past s x.item.key ps) h.0, join_around_rising s ps h.1) in
      around_cases n s x ps Rising h (join_next_rising x ps h) (join_next_rising x (join_around n s ps) on) on

module _ (p : Fields → Bool) (o : OfJoins p) (n : ℕ) where
  -- the item that a sector is written in passes as before
  join_next_last : (k : ℕ) (x : Piece) (ps : List Piece) → Rising (x ∷ ps) → last_at p k (join_next n x ps) ≡ last_at p k (x ∷ ps)
  unfolding last_at
  join_next_last k x [] h = refl
  join_next_last k x (q ∷ qs) h =
      next_cases n x q qs (λ l. last_at p k l ≡ last_at p k (x ∷ q ∷ qs))
      (λ e. rw (o.of_joined x.item q.item n) (ap (cond (ltb k x.item.key) false) (go (ltb k q.item.key) (past k qs) refl refl (o.of_both x.item q.item e))))
      refl
    where
      go : (a b : Bool) → ltb k q.item.key ≡ a → past k qs ≡ b → p x.item ≡ p q.item
          → cond b (p x.item) (last_at p k qs) ≡ cond a (p x.item) (cond a false (cond b (p q.item) (last_at p k qs)))
      go true true ea eb e = refl
      go true false ea eb e = let l = ltb-true k q.item.key ea in absurd (false≢true (sym eb ∙ past-before k q.item.key (omega arith) qs h.1.0))
      go false true ea eb e = e
      go false false ea eb e = refl

  join_around_last : (s k : ℕ) (ps : List Piece) → Rising ps → last_at p k (join_around n s ps) ≡ last_at p k ps
  unfolding last_at
  join_around_last s k [] h = unfold join_around in refl
  join_around_last s k (x ∷ ps) h =
      let on : last_at p k (x ∷ join_around n s ps) ≡ last_at p k (x ∷ ps) = rw (join_around-past n s k ps, join_around_last s k ps h.1) refl in
      around_cases n s x ps (λ l. last_at p k l ≡ last_at p k (x ∷ ps)) refl (join_next_last k x ps h)
      (join_next_last k x (join_around n s ps) (rw (join_around-past n s x.item.key ps) h.0, join_around_rising n s ps h.1) ∙ on)
      on

  -- a join with an item that does not pass
  join_next-same : (x q : Piece) (qs : List Piece) → (joinable x.item q.item ≡ true → p q.item ≡ false)
      → count p (items_of (join_next n x (q ∷ qs))) ≡ count p (items_of (x ∷ q ∷ qs))
  unfolding count
  join_next-same x q qs f =
      next_cases n x q qs (λ l. count p (items_of l) ≡ count p (items_of (x ∷ q ∷ qs)))
      (λ e. rw (o.of_joined x.item q.item n, o.of_both x.item q.item e, f e) (omega arith))
      refl

  -- on both sides of one
  join_next_twice : (x q : Piece) (qs : List Piece) → p q.item ≡ false → count p (items_of (join_next n x (join_next n q qs))) ≡ count p (items_of (x ∷ q ∷ qs))
  unfolding count
  join_next_twice x q [] e = join_next-same x q [] (λ j. e)
  join_next_twice x q (r ∷ rs) e =
      next_cases n q r rs (λ l. count p (items_of (join_next n x l)) ≡ count p (items_of (x ∷ q ∷ r ∷ rs)))
      (λ j.
      let m : Piece = built (joined q.item r.item n) in
      let em : p m.item ≡ false = o.of_joined q.item r.item n ∙ e in
      let er : p r.item ≡ false = sym (o.of_both q.item r.item j) ∙ e in
      join_next-same x m rs (λ j. em) ∙ rw (em, e, er) (omega arith))
      (join_next-same x q (r ∷ rs) (λ j. e))

  -- where the sector is written in an item that does not pass
  pub join_around-same : (s : ℕ) (ps : List Piece) → last_at p s ps ≡ false → count p (items_of (join_around n s ps)) ≡ count p (items_of ps)
  unfolding count join_around last_at
  join_around-same s [] h = refl
  join_around-same s (x ∷ []) h = go (ltb s x.item.key)
    where
      go : (a : Bool) → count p (items_of (cond a (x ∷ []) (x ∷ []))) ≡ count p (items_of (x ∷ []))
      go true = refl
      go false = refl
  join_around-same s (x ∷ q ∷ qs) h =
      go (ltb s x.item.key) (ltb s q.item.key) (past s qs)
      (cond (past s (tail qs)) (join_next n q (join_around n s qs)) (q ∷ join_around n s qs)) (last_at p s qs) h (join_around-same s (q ∷ qs))
    where
      -- what a join around s makes of q ∷ qs, and whether the item there passes
      around : Bool → Bool → List Piece → List Piece
      around b c rest = cond b (q ∷ qs) (cond c (join_next n q qs) rest)

      passes : Bool → Bool → Bool → Bool
      passes b c l = cond b false (cond c (p q.item) l)

      go : (a b c : Bool) (rest : List Piece) (l : Bool)
          → cond a false (cond b (p x.item) (passes b c l)) ≡ false
          → (passes b c l ≡ false → count p (items_of (around b c rest)) ≡ count p (items_of (q ∷ qs)))
          → count p (items_of (cond a (x ∷ q ∷ qs) (cond b (join_next n x (q ∷ qs)) (cond c (join_next n x (around b c rest)) (x ∷ around b c rest))))) ≡ count p (items_of (x ∷ q ∷ qs))
      go true b c rest l h f = refl
      go false true c rest l h f = join_next-same x q qs (λ j. sym (o.of_both x.item q.item j) ∙ h)
      go false false true rest l h f = join_next_twice x q qs h
      go false false false rest l h f = omega (arith, f h)

  -- sector by sector
  join_all_rising : (ss : List ℕ) (ps : List Piece) → Rising ps → every (λ (s : ℕ). not (last_at p s ps)) ss ≡ true → count p (items_of (join_all n ss ps)) ≡ count p (items_of ps)
  unfolding join_all every
  join_all_rising [] ps r h = refl
  join_all_rising (s ∷ ss) ps r h =
      let qs : List Piece = join_around n s ps in
      let t : ℕ → Bool = λ k. not (last_at p k ps) in
      join_all_rising ss qs (join_around_rising n s ps r) (every_map t (λ k. not (last_at p k qs)) (λ k e. rw (join_around_last s k ps r) e) ss (both_right (t s) (every t ss) h))
      ∙ join_around-same s ps (not-true (last_at p s ps) (both_left (t s) (every t ss) h))

  -- where no sector is written in an item that passes: a number by extent changes only for extents written in place
  pub join_all-same : (ss : List ℕ) (ps : List Piece) → pairs rises (items_of ps) ≡ true → every (λ (s : ℕ). not (last_at p s ps)) ss ≡ true
      → count p (items_of (join_all n ss ps)) ≡ count p (items_of ps)
  join_all-same ss ps r h = join_all_rising ss ps (rising ps r) h
