-- What an offset maps to after a cut, an insertion and a join. Assumes nothing.
use mathlib.Core.Path.{◌≡◌, refl, ap, ◌∙◌, sym}
use mathlib.Core.Bool.{Bool, true, false, cond, ◌&&◌, not, false≢true}
use mathlib.Core.List.{List, [], ◌∷◌, ◌++◌, map, flat_map, tail, map-append}
use mathlib.Core.Option.{Option, none, some}
use mathlib.Core.Logic.{◌⊎◌, inl, inr, ⊎_elim}
use Prim.Native.Nat.{ℕ, ◌+◌, ◌-◌, ◌^◌, ◌≤◌, ◌<◌, max}
use native.Mathlib.Omega.{arith}
use native.Mathlib.Decide.{dec_le, dec_lt}
use lib.Dec.{eqb, leb, ltb}
use borrow.Author.Tests.{eqb-true, leb-true, ltb-true, ltb-false, le-leb, lt-ltb, not-true}
use Rattle.records.specs.Select.{only}
use Rattle.records.specs.Stages.{every}
use Rattle.records.proofs.Tests.{both, both_left, both_right, same, never}
use Rattle.item.specs.Items.{Fields, end, reference, joined}
use Rattle.cut_def.specs.Cuts.{front, back, cut, touched}
use Rattle.cut_def.specs.Mappings.{named, holds, Mapping, mapping_in, mapping}
use Rattle.cut_def.specs.Pieces.{Piece, built, kept, items_of, cut_pieces, insert, insert_all}
use Rattle.cut_def.specs.Joins.{plain, joinable, join_next, past, join_around, join_all}

-- ---- one item cut

-- the five ways in which a cut of [lo, hi) meets an item, each with what is left
pub data Left (lo hi : ℕ) (f : Fields) : List Fields → Type 0 where
  stays : (lo < hi → (end f ≤ lo) ⊎ (hi ≤ f.key)) → Left lo hi f (f ∷ [])
  taken : lo < hi → lo ≤ f.key → end f ≤ hi → Left lo hi f []
  fronted : lo < hi → f.key < lo → lo < end f → end f ≤ hi → Left lo hi f (front lo f ∷ [])
  backed : lo < hi → lo ≤ f.key → f.key < hi → hi < end f → Left lo hi f (back hi f ∷ [])
  parted : lo < hi → f.key < lo → hi < end f → Left lo hi f (front lo f ∷ back hi f ∷ [])

-- what a cut leaves of an item
abbrev pub left : ℕ → ℕ → Fields → List Fields
left lo hi f = cond (touched lo hi f) (cut lo hi f) (f ∷ [])

-- it is one of the five
pub left_cases : (lo hi : ℕ) (f : Fields) → Left lo hi f (left lo hi f)
left_cases lo hi f = go (touched lo hi f) refl (ltb f.key lo) refl (ltb hi (end f)) refl
  where
    meets : touched lo hi f ≡ true → (lo < hi) × (lo < end f) × (f.key < hi)
    meets e =
        let r = both_right (ltb lo hi) (ltb lo (end f) && ltb f.key hi) e in
        (ltb-true lo hi (both_left (ltb lo hi) (ltb lo (end f) && ltb f.key hi) e), ltb-true lo (end f) (both_left (ltb lo (end f)) (ltb f.key hi) r), ltb-true f.key hi (both_right (ltb lo (end f)) (ltb f.key hi) r))

    untouched : touched lo hi f ≡ false → lo < hi → (end f ≤ lo) ⊎ (hi ≤ f.key)
    untouched e h =
        elim (dec_le (end f) lo) [
          | yes p ↦ inl p
          | no p ↦ elim (dec_le hi f.key) [
            | yes q ↦ inr q
            | no q ↦ absurd (false≢true (sym e ∙ rw (lt-ltb lo hi h, lt-ltb lo (end f) (omega arith), lt-ltb f.key hi (omega arith)) refl))
          ]
        ]

    go :
        (t : Bool) → touched lo hi f ≡ t
        → (s : Bool) → ltb f.key lo ≡ s
        → (b : Bool) → ltb hi (end f) ≡ b
        → Left lo hi f (cond t (only s (front lo f) ++ only b (back hi f)) (f ∷ []))
    go false e s p b q = stays (untouched e)
    go true e true p true q = parted (meets e).0 (ltb-true f.key lo p) (ltb-true hi (end f) q)
    go true e true p false q = fronted (meets e).0 (ltb-true f.key lo p) (meets e).1 (ltb-false hi (end f) q)
    go true e false p true q = backed (meets e).0 (ltb-false f.key lo p) (meets e).2 (ltb-true hi (end f) q)
    go true e false p false q = taken (meets e).0 (ltb-false f.key lo p) (ltb-false hi (end f) q)

pub items_made : (fs : List Fields) → items_of (map built fs) ≡ fs
items_made [] = refl
items_made (f ∷ fs) = ap (λ (l : List Fields). f ∷ l) (items_made fs)

pub items_kept : (fs : List Fields) → items_of (map kept fs) ≡ fs
items_kept [] = refl
items_kept (f ∷ fs) = ap (λ (l : List Fields). f ∷ l) (items_kept fs)

-- a cut item by item
pub items-cut : (lo hi : ℕ) (f : Fields) (fs : List Fields) → items_of (cut_pieces lo hi (f ∷ fs)) ≡ left lo hi f ++ items_of (cut_pieces lo hi fs)
unfolding cut_pieces flat_map
items-cut lo hi f fs =
    map-append (λ (p : Piece). p.item) (cond (touched lo hi f) (map built (cut lo hi f)) (kept f ∷ [])) (cut_pieces lo hi fs)
    ∙ ap (λ (l : List Fields). l ++ items_of (cut_pieces lo hi fs)) (go (touched lo hi f))
  where
    go : (t : Bool) → items_of (cond t (map built (cut lo hi f)) (kept f ∷ [])) ≡ cond t (cut lo hi f) (f ∷ [])
    go true = items_made (cut lo hi f)
    go false = refl

-- ---- one item

-- what holding an offset says
record Held (o : ℕ) (f : Fields) : Type 0 where
  named : named f ≡ true
  low : f.key ≤ o
  high : o < end f

held : (o : ℕ) (f : Fields) → holds o f ≡ true → Held o f
held o f h =
    let l : Bool = leb f.key o in
    let r : Bool = ltb o (end f) in
    let t : (l && r) ≡ true = both_right (named f) (l && r) h in
    record { named = both_left (named f) (l && r) h; low = leb-true f.key o (both_left l r t); high = ltb-true o (end f) (both_right l r t) }

hold : (o : ℕ) (f : Fields) → Held o f → holds o f ≡ true
hold o f h = rw (h.named, le-leb f.key o h.low, lt-ltb o (end f) h.high) refl

-- an item that the offset is not in does not hold it
pub misses : (o : ℕ) (f : Fields) → (f.key ≤ o → o < end f → ⊥) → holds o f ≡ false
misses o f h = never (holds o f) (λ e. let k = held o f e in h k.low k.high)

-- what an item and then others show
abbrev shown : ℕ → Fields → Option Mapping → Option Mapping
shown o f m = cond (holds o f) (some (mapping_in o f)) m

-- two items that hold the offset together, and lead it to the same place
shown-same :
    (o : ℕ) (f g : Fields) (m : Option Mapping)
    → (Held o f → Held o g)
    → (Held o g → Held o f)
    → (Held o g → mapping_in o f ≡ mapping_in o g)
    → shown o f m ≡ shown o g m
shown-same o f g m a b h =
    go (holds o g) refl (same (holds o f) (holds o g) (λ e. hold o g (a (held o f e))) (λ e. hold o f (b (held o g e))))
  where
    go : (t : Bool) → holds o g ≡ t → holds o f ≡ holds o g → shown o f m ≡ shown o g m
    go true p e = rw (e, p) (ap some (h (held o g p)))
    go false p e = rw (e, p) refl

-- a front shows what the item shows below lo, a back what it shows from hi on
shown-front : (lo o : ℕ) (f : Fields) (m : Option Mapping) → f.key < lo → o < lo → shown o (front lo f) m ≡ shown o f m
shown-front lo o f m h l =
    shown-same o (front lo f) f m
    (λ k. record { named = k.named; low = k.low; high = omega arith })
    (λ k. record { named = k.named; low = k.low; high = omega arith })
    (λ k. refl)

shown-back : (hi o : ℕ) (f : Fields) (m : Option Mapping) → hi < end f → hi ≤ o → shown o (back hi f) m ≡ shown o f m
shown-back hi o f m h l =
    shown-same o (back hi f) f m
    (λ k. record { named = k.named; low = omega arith; high = omega arith })
    (λ k. record { named = k.named; low = omega arith; high = omega arith })
    (λ k. let e : f.position + (max f.key hi - f.key) + (o - max f.key hi) ≡ f.position + (o - f.key) = omega arith in rw e refl)

-- ---- a cut

-- an item that does not hold the offset may be there or not
skip : (o : ℕ) (f : Fields) (m : Option Mapping) → (f.key ≤ o → o < end f → ⊥) → shown o f m ≡ m
skip o f m h = rw (misses o f h) refl

module _ (lo hi o : ℕ) (f : Fields) (fs : List Fields) where
  left-outside : {gs : List Fields} → Left lo hi f gs → (o < lo) ⊎ (hi ≤ o) → mapping o (gs ++ fs) ≡ shown o f (mapping o fs)
  unfolding mapping
  left-outside (stays h) out = refl
  left-outside (taken l a b) (inl h) = sym (skip o f (mapping o fs) (omega arith))
  left-outside (taken l a b) (inr h) = sym (skip o f (mapping o fs) (omega arith))
  left-outside (fronted l a b c) (inl h) = shown-front lo o f (mapping o fs) a h
  left-outside (fronted l a b c) (inr h) = skip o (front lo f) (mapping o fs) (omega arith) ∙ sym (skip o f (mapping o fs) (omega arith))
  left-outside (backed l a b c) (inl h) = skip o (back hi f) (mapping o fs) (omega arith) ∙ sym (skip o f (mapping o fs) (omega arith))
  left-outside (backed l a b c) (inr h) = shown-back hi o f (mapping o fs) c h
  left-outside (parted l a b) (inl h) = ap (shown o (front lo f)) (skip o (back hi f) (mapping o fs) (omega arith)) ∙ shown-front lo o f (mapping o fs) a h
  left-outside (parted l a b) (inr h) = skip o (front lo f) (shown o (back hi f) (mapping o fs)) (omega arith) ∙ shown-back hi o f (mapping o fs) b h

  left-inside : {gs : List Fields} → Left lo hi f gs → lo ≤ o → o < hi → mapping o (gs ++ fs) ≡ mapping o fs
  unfolding mapping
  left-inside (stays h) p q = skip o f (mapping o fs) (⊎_elim (λ x. omega arith) (λ x. omega arith) (h (omega arith)))
  left-inside (taken l a b) p q = refl
  left-inside (fronted l a b c) p q = skip o (front lo f) (mapping o fs) (omega arith)
  left-inside (backed l a b c) p q = skip o (back hi f) (mapping o fs) (omega arith)
  left-inside (parted l a b) p q = skip o (front lo f) (shown o (back hi f) (mapping o fs)) (omega arith) ∙ skip o (back hi f) (mapping o fs) (omega arith)

-- outside the range every offset maps to what it did
pub cut-outside : (lo hi o : ℕ) (fs : List Fields) → (o < lo) ⊎ (hi ≤ o) → mapping o (items_of (cut_pieces lo hi fs)) ≡ mapping o fs
unfolding mapping cut_pieces flat_map
cut-outside lo hi o [] out = refl
cut-outside lo hi o (f ∷ fs) out =
    rw items-cut (left-outside lo hi o f (items_of (cut_pieces lo hi fs)) (left_cases lo hi f) out ∙ ap (shown o f) (cut-outside lo hi o fs out))

-- and inside to nothing
pub cut_inside : (lo hi o : ℕ) (fs : List Fields) → lo ≤ o → o < hi → mapping o (items_of (cut_pieces lo hi fs)) ≡ none
unfolding mapping cut_pieces flat_map
cut_inside lo hi o [] p q = refl
cut_inside lo hi o (f ∷ fs) p q = rw items-cut (left-inside lo hi o f (items_of (cut_pieces lo hi fs)) (left_cases lo hi f) p q ∙ cut_inside lo hi o fs p q)

-- ---- an insertion

-- an offset that a new item does not hold maps to what it did
pub insert_misses : (o : ℕ) (x : Fields) (ps : List Piece) → holds o x ≡ false → mapping o (items_of (insert x ps)) ≡ mapping o (items_of ps)
unfolding insert mapping
insert_misses o x [] h = rw h refl
insert_misses o x (p ∷ ps) h = go (ltb x.key p.item.key) (insert_misses o x ps h)
  where
    go : (t : Bool) → mapping o (items_of (insert x ps)) ≡ mapping o (items_of ps) → mapping o (items_of (cond t (built x ∷ p ∷ ps) (p ∷ insert x ps))) ≡ mapping o (p.item ∷ items_of ps)
    go true e = rw h refl
    go false e = ap (shown o p.item) e

-- and so does one that no new item holds
pub insert_all_misses : (o : ℕ) (xs : List Fields) (ps : List Piece) → every (λ (x : Fields). not (holds o x)) xs ≡ true → mapping o (items_of (insert_all xs ps)) ≡ mapping o (items_of ps)
unfolding insert_all every
insert_all_misses o [] ps h = refl
insert_all_misses o (x ∷ xs) ps h =
    insert_all_misses o xs (insert x ps) (both_right (not (holds o x)) (every (λ (x : Fields). not (holds o x)) xs) h)
    ∙ insert_misses o x ps (not-true (holds o x) (both_left (not (holds o x)) (every (λ (x : Fields). not (holds o x)) xs) h))

shown-none : (o : ℕ) (f : Fields) (m : Option Mapping) → shown o f m ≡ none → (holds o f ≡ false) × (m ≡ none)
shown-none o f m e = go (holds o f) refl e
  where
    go : (b : Bool) → holds o f ≡ b → cond b (some (mapping_in o f)) m ≡ none → (holds o f ≡ false) × (m ≡ none)
    go true p q = let z : ◌≡◌ {A = ℕ} 0 1 = cc in absurd (omega arith)
    go false p q = (p, q)

-- an offset that led nowhere leads into the new item that holds it
pub insert_hits : (o : ℕ) (x : Fields) (ps : List Piece) → holds o x ≡ true → mapping o (items_of ps) ≡ none → mapping o (items_of (insert x ps)) ≡ some (mapping_in o x)
unfolding insert mapping
insert_hits o x [] h e = rw h refl
insert_hits o x (p ∷ ps) h e = go (ltb x.key p.item.key) (insert_hits o x ps h)
  where
    go : (t : Bool) → (mapping o (items_of ps) ≡ none → mapping o (items_of (insert x ps)) ≡ some (mapping_in o x)) → mapping o (items_of (cond t (built x ∷ p ∷ ps) (p ∷ insert x ps))) ≡ some (mapping_in o x)
    go true ih = rw h refl
    go false ih = let k = shown-none o p.item (mapping o (items_of ps)) e in rw k.0 (ih k.1)

-- ---- a join

-- a regular item, uncompressed and not encoded
pub record Regular (f : Fields) : Type 0 where
  pub kind : f.kind ≡ 1
  pub compression : f.compression ≡ 0
  pub encryption : f.encryption ≡ 0
  pub other : f.other ≡ 0

-- what two items have to be to be joined
pub record Joint (f g : Fields) : Type 0 where
  pub first : Regular f
  pub second : Regular g
  pub touch : end f ≡ g.key
  pub start : f.extent_start ≡ g.extent_start
  pub offset : reference f ≡ reference g

regular_facts : (f : Fields) → plain f ≡ true → Regular f
regular_facts f h =
    let k : Bool = eqb f.kind 1 in
    let c : Bool = eqb f.compression 0 in
    let e : Bool = eqb f.encryption 0 in
    let o : Bool = eqb f.other 0 in
    let h1 : (c && (e && o)) ≡ true = both_right k (c && (e && o)) h in
    let h2 : (e && o) ≡ true = both_right c (e && o) h1 in
    record {
      kind = eqb-true f.kind 1 (both_left k (c && (e && o)) h);
      compression = eqb-true f.compression 0 (both_left c (e && o) h1);
      encryption = eqb-true f.encryption 0 (both_left e o h2);
      other = eqb-true f.other 0 (both_right e o h2);
    }

-- joinable items are
pub joint : (f g : Fields) → joinable f g ≡ true → Joint f g
joint f g h =
    let p : Bool = plain f in
    let q : Bool = plain g in
    let t : Bool = eqb (end f) g.key in
    let s : Bool = eqb f.extent_start g.extent_start in
    let r : Bool = eqb (reference f) (reference g) in
    let h1 : (q && (t && (s && r))) ≡ true = both_right p (q && (t && (s && r))) h in
    let h2 : (t && (s && r)) ≡ true = both_right q (t && (s && r)) h1 in
    let h3 : (s && r) ≡ true = both_right t (s && r) h2 in
    record {
      first = regular_facts f (both_left p (q && (t && (s && r))) h);
      second = regular_facts g (both_left q (t && (s && r)) h1);
      touch = eqb-true (end f) g.key (both_left t (s && r) h2);
      start = eqb-true f.extent_start g.extent_start (both_left s r h3);
      offset = eqb-true (reference f) (reference g) (both_right s r h3);
    }

-- "position + length fits 64 bits"
abbrev pub fits : Fields → Bool
fits f = ltb (f.position + f.length) (2 ^ 64)

-- the second of two joinable items goes on in the extent where the first ends
pub joined-position : (f g : Fields) → Joint f g → f.position + f.length < 2 ^ 64 → g.position < 2 ^ 64 → g.position ≡ f.position + f.length
joined-position f g j p q = omega arith

module _ (o n : ℕ) (f g : Fields) (j : Joint f g) (fs : List Fields) where
  -- a joined item shows what both showed
  pub joined_shows : f.position + f.length < 2 ^ 64 → g.position < 2 ^ 64 → mapping o (joined f g n ∷ fs) ≡ mapping o (f ∷ g ∷ fs)
  unfolding mapping
  joined_shows p q =
      elim (dec_lt o (end f)) [
        | yes l ↦ shown-same o h f m
            (λ k. record { named = k.named; low = k.low; high = l })
            (λ k. record { named = k.named; low = k.low; high = omega arith })
            (λ k. refl)
            ∙ ap (shown o f) (sym (skip o g m (omega arith)))
        | no l ↦ shown-same o h g m
            (λ k. record { named = sym names ∙ k.named; low = omega arith; high = omega arith })
            (λ k. record { named = names ∙ k.named; low = omega arith; high = omega arith })
            (λ k. leads (omega (arith, joined-position f g j p q)))
            ∙ sym (skip o f (shown o g m) (omega arith))
      ]
    where
      h : Fields
      h = joined f g n

      m : Option Mapping
      m = mapping o fs

      names : named f ≡ named g
      names =
          let k : f.kind ≡ g.kind = cc in
          rw (k, j.start) refl

      leads : f.position + (o - f.key) ≡ g.position + (o - g.key) → mapping_in o h ≡ mapping_in o g
      leads e = cc

-- ---- joins in a list

-- some neighbours of a list joined, one pair after the other
pub data Joins (n : ℕ) : List Fields → List Fields → Type 0 where
  unjoined : {fs : List Fields} → Joins n fs fs
  here : {f g : Fields} {fs : List Fields} → Joint f g → Joins n (f ∷ g ∷ fs) (joined f g n ∷ fs)
  there : {f : Fields} {fs gs : List Fields} → Joins n fs gs → Joins n (f ∷ fs) (f ∷ gs)
  then : {fs gs hs : List Fields} → Joins n fs gs → Joins n gs hs → Joins n fs hs

joins_next : (n : ℕ) (p : Piece) (ps : List Piece) → Joins n (p.item ∷ items_of ps) (items_of (join_next n p ps))
joins_next n p [] = unjoined
joins_next n p (q ∷ qs) = go (joinable p.item q.item) refl
  where
    go : (t : Bool) → joinable p.item q.item ≡ t → Joins n (p.item ∷ q.item ∷ items_of qs) (items_of (cond t (built (joined p.item q.item n) ∷ qs) (p ∷ q ∷ qs)))
    go true e = here (joint p.item q.item e)
    go false e = unjoined

-- `join_around` joins neighbours
pub joins_around : (n s : ℕ) (ps : List Piece) → Joins n (items_of ps) (items_of (join_around n s ps))
unfolding join_around
joins_around n s [] = unjoined
joins_around n s (p ∷ ps) = go (ltb s p.item.key) (past s ps) (past s (tail ps)) (joins_around n s ps)
  where
    go :
        (a b c : Bool) → Joins n (items_of ps) (items_of (join_around n s ps))
        → Joins n (p.item ∷ items_of ps) (items_of (cond a (p ∷ ps) (cond b (join_next n p ps) (cond c (join_next n p (join_around n s ps)) (p ∷ join_around n s ps)))))
    go true b c j = unjoined
    go false true c j = joins_next n p ps
    go false false true j = then (there j) (joins_next n p (join_around n s ps))
    go false false false j = there j

-- and so does `join_all`
pub joins_all : (n : ℕ) (ss : List ℕ) (ps : List Piece) → Joins n (items_of ps) (items_of (join_all n ss ps))
unfolding join_all
joins_all n [] ps = unjoined
joins_all n (s ∷ ss) ps = then (joins_around n s ps) (joins_all n ss (join_around n s ps))

-- a test that holds for a joined item where it holds for both stays
pub joins_every : (n : ℕ) (t : Fields → Bool) → ((f g : Fields) → Joint f g → t f ≡ true → t g ≡ true → t (joined f g n) ≡ true) → {fs gs : List Fields} → Joins n fs gs → every t fs ≡ true → every t gs ≡ true
unfolding every
joins_every n t h unjoined e = e
joins_every n t h (here {f} {g} {fs} j) e =
    let r : (t g && every t fs) ≡ true = both_right (t f) (t g && every t fs) e in
    both (t (joined f g n)) (every t fs) (h f g j (both_left (t f) (t g && every t fs) e) (both_left (t g) (every t fs) r)) (both_right (t g) (every t fs) r)
joins_every n t h (there {f} {fs} {gs} j) e = both (t f) (every t gs) (both_left (t f) (every t fs) e) (joins_every n t h j (both_right (t f) (every t fs) e))
joins_every n t h (then i j) e = joins_every n t h j (joins_every n t h i e)

fits_joined : (n : ℕ) (f g : Fields) → Joint f g → fits f ≡ true → fits g ≡ true → fits (joined f g n) ≡ true
fits_joined n f g j p q =
    let a = ltb-true (f.position + f.length) (2 ^ 64) p in
    let b = ltb-true (g.position + g.length) (2 ^ 64) q in
    lt-ltb (f.position + (f.length + g.length)) (2 ^ 64) (omega (arith, joined-position f g j a (omega arith)))

-- joins change no mapping
pub joins_show : (n o : ℕ) {fs gs : List Fields} → Joins n fs gs → every fits fs ≡ true → mapping o gs ≡ mapping o fs
unfolding mapping every
joins_show n o unjoined h = refl
joins_show n o (here {f} {g} {fs} j) h =
    let r : (fits g && every fits fs) ≡ true = both_right (fits f) (fits g && every fits fs) h in
    let p = ltb-true (f.position + f.length) (2 ^ 64) (both_left (fits f) (fits g && every fits fs) h) in
    let q = ltb-true (g.position + g.length) (2 ^ 64) (both_left (fits g) (every fits fs) r) in
    joined_shows o n f g j fs p (omega arith)
joins_show n o (there {f} {fs} j) h = ap (shown o f) (joins_show n o j (both_right (fits f) (every fits fs) h))
joins_show n o (then i j) h = joins_show n o j (joins_every n fits (fits_joined n) i h) ∙ joins_show n o i h
