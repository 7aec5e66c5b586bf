-- Stretches of a file with ranges taken out: which offsets they hold, how they lie, how long they are. Assumes nothing.
use mathlib.Core.Path.{◌≡◌, refl, ◌∙◌, sym}
use mathlib.Core.Bool.{Bool, true, false, ◌&&◌, ◌||◌, not, or-false, false≢true}
use mathlib.Core.List.{List, [], ◌∷◌, ◌++◌, flat_map}
use mathlib.Core.Logic.{◌⊎◌, inl, inr, ⊎_elim}
use Prim.Native.Nat.{ℕ, ◌+◌, ◌-◌, ◌%◌, ◌≤◌, ◌<◌, min, max}
use native.Mathlib.Omega.{arith}
use native.Mathlib.Decide.{dec_lt}
use lib.Dec.{eqb, leb, ltb}
use borrow.Author.Tests.{eqb-true, eq-eqb, leb-true, ltb-true, le-leb, lt-ltb, not-true}
use Rattle.records.specs.Select.{only, any}
use Rattle.records.specs.Stages.{every, pairs}
use Rattle.records.proofs.Tests.{both, both_left, both_right, either, either_left, either_right, same, every_map, every_both}
use Rattle.records.proofs.Lists.{every_true, every_append, any_appended}
use Rattle.records.proofs.Wholes.{add_whole, sub_whole, min_whole, max_whole}
use Rattle.item.specs.Items.{Fields, end}
use Rattle.cut_def.proofs.Kept.{clear}
use Rattle.change_def.specs.Preallocs.{Stretch, sum_of}
use Rattle.change_def.proofs.Fair.{hole_free, holes_rise}
use Rattle.fallocate_def.specs.Fallocate.{less, less_items}

-- ---- offsets of a range

-- a ≤ o < b
abbrev pub within : (a b o : ℕ) → Bool
within a b o = leb a o && ltb o b

module _ (a b o : ℕ) where
  pub within-true : a ≤ o → o < b → within a b o ≡ true
  within-true p q = both (leb a o) (ltb o b) (le-leb a o p) (lt-ltb o b q)

  pub within_facts : within a b o ≡ true → (a ≤ o) × (o < b)
  within_facts h = (leb-true a o (both_left (leb a o) (ltb o b) h), ltb-true o b (both_right (leb a o) (ltb o b) h))

  pub without-true : (a ≤ o → o < b → ⊥) → not (within a b o) ≡ true
  without-true h = go (within a b o) refl
    where
      go : (t : Bool) → within a b o ≡ t → not t ≡ true
      go true e = absurd (h (within_facts e).0 (within_facts e).1)
      go false e = refl

  pub without_facts : not (within a b o) ≡ true → a ≤ o → o < b → ⊥
  without_facts h p q = false≢true (sym (not-true (within a b o) h) ∙ within-true p q)

-- a stretch holds an offset
abbrev pub has : ℕ → Stretch → Bool
has o s = within s.start (s.start + s.length) o

-- one of some stretches does
abbrev pub inside : ℕ → List Stretch → Bool
inside o ss = any (has o) ss

-- an item's range has an offset, be it a hole or not
abbrev pub over : ℕ → Fields → Bool
over o f = within f.key (end f) o

-- ---- offsets that are left

or_and : (x y c : Bool) → ((x && c) || (y && c)) ≡ ((x || y) && c)
or_and true y true = refl
or_and true true false = refl
or_and true false false = refl
or_and false y c = refl

and-not : (x y z : Bool) → ((x && not y) && not z) ≡ (x && not (y || z))
and-not true true z = refl
and-not true false z = refl
and-not false y z = refl

module _ {A : Type 0} where
  any-two : (p : A → Bool) (t u : Bool) (x y : A) → any p (only t x ++ only u y) ≡ ((t && p x) || (u && p y))
  unfolding any
  any-two p true true x y = rw or-false refl
  any-two p true false x y = refl
  any-two p false true x y = or-false (p y)
  any-two p false false x y = refl

  -- what each is turned into has what it had, if c
  any_flat : (p q : A → Bool) (c : Bool) (f : A → List A) → ((a : A) → any p (f a) ≡ (q a && c)) → (l : List A) → any p (flat_map f l) ≡ (any q l && c)
  unfolding any flat_map
  any_flat p q c f h [] = refl
  any_flat p q c f h (a ∷ l) = any_appended p (f a) (flat_map f l) ∙ rw (h a, any_flat p q c f h l) (or_and (q a) (any q l) c)

-- what is left of a stretch before a, and from b on, if anything is
abbrev pub front : (a : ℕ) → Stretch → Stretch
front a s = record { start = s.start; length = min (s.start + s.length) a - s.start }

abbrev pub back : (b : ℕ) → Stretch → Stretch
back b s = record { start = max s.start b; length = s.start + s.length - max s.start b }

abbrev has_front : (a : ℕ) → Stretch → Bool
has_front a s = ltb s.start (min (s.start + s.length) a)

abbrev has_back : (b : ℕ) → Stretch → Bool
has_back b s = ltb (max s.start b) (s.start + s.length)

-- one stretch less [a, b)
less_has : (a b o : ℕ) (s : Stretch) → any (has o) (less a b s) ≡ (has o s && not (within a b o))
less_has a b o s = any-two (has o) (has_front a s) (has_back b s) (front a s) (back b s) ∙ same (in_front || in_back) (has o s && not (within a b o)) leaves keeps
  where
    in_front : Bool
    in_front = has_front a s && has o (front a s)

    in_back : Bool
    in_back = has_back b s && has o (back b s)

    told : s.start ≤ o → o < s.start + s.length → (a ≤ o → o < b → ⊥) → (has o s && not (within a b o)) ≡ true
    told p q n = both (has o s) (not (within a b o)) (within-true s.start (s.start + s.length) o p q) (without-true a b o n)

    part : (t : Stretch) → has o t ≡ true → (t.start ≤ o) × (o < t.start + t.length)
    part t = within_facts t.start (t.start + t.length) o

    leaves : (in_front || in_back) ≡ true → (has o s && not (within a b o)) ≡ true
    leaves h =
        ⊎_elim
        (λ e. let k = part (front a s) (both_right (has_front a s) (has o (front a s)) e) in told (omega arith) (omega arith) (omega arith))
        (λ e. let k = part (back b s) (both_right (has_back b s) (has o (back b s)) e) in told (omega arith) (omega arith) (omega arith))
        (either in_front in_back h)

    keeps : (has o s && not (within a b o)) ≡ true → (in_front || in_back) ≡ true
    keeps h =
        let k = part s (both_left (has o s) (not (within a b o)) h) in
        let n = without_facts a b o (both_right (has o s) (not (within a b o)) h) in
        elim (dec_lt o a) [
          | yes l ↦ either_left in_front in_back
              (both (has_front a s) (has o (front a s)) (lt-ltb s.start (min (s.start + s.length) a) (omega arith)) (within-true _ _ o (omega arith) (omega arith)))
          | no l ↦ let m : o < b → ⊥ = n (omega arith) in
              either_right in_front in_back
              (both (has_back b s) (has o (back b s)) (lt-ltb (max s.start b) (s.start + s.length) (omega arith)) (within-true _ _ o (omega arith) (omega arith)))
        ]

-- stretches less [a, b) hold what they held outside it
pub inside-less : (a b o : ℕ) (ss : List Stretch) → inside o (flat_map (less a b) ss) ≡ (inside o ss && not (within a b o))
inside-less a b o ss = any_flat (has o) (has o) (not (within a b o)) (less a b) (less_has a b o) ss

-- less some items: what no item is over
pub inside-less_items : (o : ℕ) (fs : List Fields) (ss : List Stretch) → inside o (less_items fs ss) ≡ (inside o ss && not (any (over o) fs))
unfolding less_items any
inside-less_items o [] ss = sym (and-true (inside o ss))
  where
    and-true : (b : Bool) → (b && true) ≡ b
    and-true true = refl
    and-true false = refl
inside-less_items o (f ∷ fs) ss =
    inside-less_items o fs (flat_map (less f.key (end f)) ss)
    ∙ rw (inside-less f.key (end f) o ss) (and-not (inside o ss) (over o f) (any (over o) fs))

-- ---- stretches that rise

-- stretches with bytes, each from where the one before it ends, inside [lo, hi)
abbrev pub Rising : (lo hi : ℕ) → List Stretch → Type 0
Rising lo hi [] = lo ≤ hi
Rising lo hi (s ∷ ss) = (lo ≤ s.start) × (1 ≤ s.length) × Rising (s.start + s.length) hi ss

rising_lower : (a b hi : ℕ) (ss : List Stretch) → a ≤ b → Rising b hi ss → Rising a hi ss
rising_lower a b hi [] l r = omega arith
rising_lower a b hi (s ∷ ss) l r = (omega (arith, r.0), r.1, r.2)

-- they still do less [a, b)
pub rising_less : (a b lo hi : ℕ) → a ≤ b → (ss : List Stretch) → Rising lo hi ss → Rising lo hi (flat_map (less a b) ss)
unfolding flat_map
rising_less a b lo hi l [] r = r
rising_less a b lo hi l (s ∷ ss) r = go (has_front a s) (has_back b s) refl refl (rising_less a b (s.start + s.length) hi l ss r.2)
  where
    first : lo ≤ s.start
    first = r.0

    rest : List Stretch
    rest = flat_map (less a b) ss

    go : (t u : Bool) → has_front a s ≡ t → has_back b s ≡ u → Rising (s.start + s.length) hi rest → Rising lo hi ((only t (front a s) ++ only u (back b s)) ++ rest)
    go true true e f k =
        let p = ltb-true s.start (min (s.start + s.length) a) e in
        let q = ltb-true (max s.start b) (s.start + s.length) f in
        (first, omega arith, (omega arith, omega arith, rising_lower _ (s.start + s.length) hi rest (omega arith) k))
    go true false e f k =
        let p = ltb-true s.start (min (s.start + s.length) a) e in
        (first, omega arith, rising_lower _ (s.start + s.length) hi rest (omega arith) k)
    go false true e f k =
        let q = ltb-true (max s.start b) (s.start + s.length) f in
        (omega arith, omega arith, rising_lower _ (s.start + s.length) hi rest (omega arith) k)
    go false false e f k = rising_lower lo (s.start + s.length) hi rest (omega arith) k

pub rising_less_items : (lo hi : ℕ) (fs : List Fields) (ss : List Stretch) → Rising lo hi ss → Rising lo hi (less_items fs ss)
unfolding less_items
rising_less_items lo hi [] ss r = r
rising_less_items lo hi (f ∷ fs) ss r = rising_less_items lo hi fs (flat_map (less f.key (end f)) ss) (rising_less f.key (end f) lo hi (omega arith) ss r)

-- bytes inside [lo, hi)
abbrev pub between : (lo hi : ℕ) → Stretch → Bool
between lo hi s = leb lo s.start && (leb 1 s.length && leb (s.start + s.length) hi)

rising_order : (lo hi : ℕ) (ss : List Stretch) → Rising lo hi ss → lo ≤ hi
rising_order lo hi [] r = r
rising_order lo hi (s ∷ ss) r = omega (arith, r.0, rising_order (s.start + s.length) hi ss r.2)

-- each lies inside
pub rising_between : (lo hi : ℕ) (ss : List Stretch) → Rising lo hi ss → every (between lo hi) ss ≡ true
unfolding every
rising_between lo hi [] r = refl
rising_between lo hi (s ∷ ss) r =
    let e = s.start + s.length in
    both (between lo hi s) (every (between lo hi) ss)
    (both (leb lo s.start) (leb 1 s.length && leb e hi) (le-leb lo s.start r.0)
    (both (leb 1 s.length) (leb e hi) (le-leb 1 s.length r.1) (le-leb e hi (rising_order e hi ss r.2))))
    (every_map (between e hi) (between lo hi)
    (λ t h.
    let p = leb-true e t.start (both_left (leb e t.start) (leb 1 t.length && leb (t.start + t.length) hi) h) in
    both (leb lo t.start) (leb 1 t.length && leb (t.start + t.length) hi) (le-leb lo t.start (omega (arith, r.0)))
    (both_right (leb e t.start) (leb 1 t.length && leb (t.start + t.length) hi) h))
    ss (rising_between e hi ss r.2))

-- every two are apart
pub rising_pairs : (lo hi : ℕ) (ss : List Stretch) → Rising lo hi ss → pairs holes_rise ss ≡ true
unfolding pairs
rising_pairs lo hi [] r = refl
rising_pairs lo hi (s ∷ ss) r =
    let e = s.start + s.length in
    both (every (holes_rise s) ss) (pairs holes_rise ss)
    (every_map (between e hi) (holes_rise s) (λ t h. both_left (leb e t.start) (leb 1 t.length && leb (t.start + t.length) hi) h) ss (rising_between e hi ss r.2))
    (rising_pairs e hi ss r.2)

-- together they are no longer than the range
pub rising_sum : (lo hi : ℕ) (ss : List Stretch) → Rising lo hi ss → sum_of ss ≤ hi - lo
unfolding sum_of
rising_sum lo hi [] r = omega arith
rising_sum lo hi (s ∷ ss) r = omega (arith, r.0, rising_order (s.start + s.length) hi ss r.2, rising_sum (s.start + s.length) hi ss r.2)

-- ---- tests of every stretch

every-only : {A : Type 0} (p : A → Bool) (t : Bool) (x : A) → (t ≡ true → p x ≡ true) → every p (only t x) ≡ true
unfolding every
every-only p true x h = both (p x) true (h refl) refl
every-only p false x h = refl

-- a test p of all that is left, from a test u of all stretches: p of what lies before a, p of what lies from b on
module _
    (a b : ℕ) (u p : Stretch → Bool)
    (before : (s : Stretch) → u s ≡ true → s.start < min (s.start + s.length) a → p (front a s) ≡ true)
    (behind : (s : Stretch) → u s ≡ true → max s.start b < s.start + s.length → p (back b s) ≡ true) where
  pub every-less : (ss : List Stretch) → every u ss ≡ true → every p (flat_map (less a b) ss) ≡ true
  unfolding every flat_map
  every-less [] h = refl
  every-less (s ∷ ss) h =
      let us : u s ≡ true = both_left (u s) (every u ss) h in
      every_append p (less a b s) (flat_map (less a b) ss)
      (every_append p (only (has_front a s) (front a s)) (only (has_back b s) (back b s))
      (every-only p (has_front a s) (front a s) (λ e. before s us (ltb-true s.start (min (s.start + s.length) a) e)))
      (every-only p (has_back b s) (back b s) (λ e. behind s us (ltb-true (max s.start b) (s.start + s.length) e))))
      (every-less ss (both_right (u s) (every u ss) h))

-- what every item's taking out keeps, all of them keep
pub every-less_items : (p : Stretch → Bool) (q : Fields → Bool) → ((f : Fields) → q f ≡ true → (ss : List Stretch) → every p ss ≡ true → every p (flat_map (less f.key (end f)) ss) ≡ true)
    → (fs : List Fields) → every q fs ≡ true → (ss : List Stretch) → every p ss ≡ true → every p (less_items fs ss) ≡ true
unfolding less_items every
every-less_items p q law [] k ss h = h
every-less_items p q law (f ∷ fs) k ss h = every-less_items p q law fs (both_right (q f) (every q fs) k) (flat_map (less f.key (end f)) ss) (law f (both_left (q f) (every q fs) k) ss h)

-- ---- clear of what is taken out

-- a stretch has no byte of [a, b)
abbrev pub clear_of : (a b : ℕ) → Stretch → Bool
clear_of a b s = leb b s.start || leb (s.start + s.length) a

pub clear_told : (a b : ℕ) (s : Stretch) → (b ≤ s.start) ⊎ (s.start + s.length ≤ a) → clear_of a b s ≡ true
clear_told a b s (inl h) = either_left (leb b s.start) (leb (s.start + s.length) a) (le-leb b s.start h)
clear_told a b s (inr h) = either_right (leb b s.start) (leb (s.start + s.length) a) (le-leb (s.start + s.length) a h)

clear_facts : (a b : ℕ) (s : Stretch) → clear_of a b s ≡ true → (b ≤ s.start) ⊎ (s.start + s.length ≤ a)
clear_facts a b s h = ⊎_elim (λ e. inl (leb-true b s.start e)) (λ e. inr (leb-true (s.start + s.length) a e)) (either (leb b s.start) (leb (s.start + s.length) a) h)

-- stretches less [a, b) are clear of it
pub less-clear : (a b : ℕ) (ss : List Stretch) → every (clear_of a b) (flat_map (less a b) ss) ≡ true
less-clear a b ss = every-less a b (λ (s : Stretch). true) (clear_of a b) (λ s e l. clear_told a b _ (inr (omega arith))) (λ s e l. clear_told a b _ (inl (omega arith))) ss (every_true ss)

-- and stay clear of another range
pub clear-less : (c d a b : ℕ) (ss : List Stretch) → every (clear_of c d) ss ≡ true → every (clear_of c d) (flat_map (less a b) ss) ≡ true
clear-less c d a b ss =
    every-less a b (clear_of c d) (clear_of c d)
    (λ s e l. ⊎_elim (λ h. clear_told c d _ (inl (omega arith))) (λ h. clear_told c d _ (inr (omega arith))) (clear_facts c d s e))
    (λ s e l. ⊎_elim (λ h. clear_told c d _ (inl (omega arith))) (λ h. clear_told c d _ (inr (omega arith))) (clear_facts c d s e)) ss

-- what is left by some items is clear of each of them
pub less_items_free : (fs : List Fields) (ss : List Stretch) → every (hole_free fs) (less_items fs ss) ≡ true
unfolding less_items every
less_items_free [] ss = every_true ss
less_items_free (f ∷ fs) ss =
    every_both (λ (s : Stretch). clear s.start (s.start + s.length) f) (hole_free fs) (less_items fs (flat_map (less f.key (end f)) ss))
    (every-less_items (clear_of f.key (end f)) (λ (g : Fields). true) (λ g e ts. clear-less f.key (end f) g.key (end g) ts) fs (every_true fs) (flat_map (less f.key (end f)) ss) (less-clear f.key (end f) ss))
    (less_items_free fs (flat_map (less f.key (end f)) ss))

-- and stays so less [a, b)
pub free_less : (fs : List Fields) (a b : ℕ) (ss : List Stretch) → every (hole_free fs) ss ≡ true → every (hole_free fs) (flat_map (less a b) ss) ≡ true
unfolding every
free_less [] a b ss h = every_true (flat_map (less a b) ss)
free_less (f ∷ fs) a b ss h =
    every_both (clear_of f.key (end f)) (hole_free fs) (flat_map (less a b) ss)
    (clear-less f.key (end f) a b ss (every_map (hole_free (f ∷ fs)) (clear_of f.key (end f)) (λ s e. both_left (clear_of f.key (end f) s) (hole_free fs s) e) ss h))
    (free_less fs a b ss (every_map (hole_free (f ∷ fs)) (hole_free fs) (λ s e. both_right (clear_of f.key (end f) s) (hole_free fs s) e) ss h))

-- ---- whole sectors

module _ (n : ℕ) where
  -- two numbers of whole sectors
  abbrev pub wholes : ℕ → ℕ → Bool
  wholes a b = eqb (a % n) 0 && eqb (b % n) 0

  pub wholes_told : (a b : ℕ) → a % n ≡ 0 → b % n ≡ 0 → wholes a b ≡ true
  wholes_told a b p q = both (eqb (a % n) 0) (eqb (b % n) 0) (eq-eqb (a % n) 0 p) (eq-eqb (b % n) 0 q)

  wholes_facts : (a b : ℕ) → wholes a b ≡ true → (a % n ≡ 0) × (b % n ≡ 0)
  wholes_facts a b h = (eqb-true (a % n) 0 (both_left (eqb (a % n) 0) (eqb (b % n) 0) h), eqb-true (b % n) 0 (both_right (eqb (a % n) 0) (eqb (b % n) 0) h))

  -- a stretch, an item of whole sectors
  abbrev pub whole_span : Stretch → Bool
  whole_span s = wholes s.start s.length

  abbrev pub whole_item : Fields → Bool
  whole_item f = wholes f.key f.length

  -- stretches of whole sectors stay so less whole sectors
  pub whole_less : (a b : ℕ) → a % n ≡ 0 → b % n ≡ 0 → (ss : List Stretch) → every whole_span ss ≡ true → every whole_span (flat_map (less a b) ss) ≡ true
  whole_less a b p q =
      every-less a b whole_span whole_span
      (λ s e l.
      let k = wholes_facts s.start s.length e in
      wholes_told _ _ k.0 (sub_whole n _ _ (min_whole n _ _ (add_whole n _ _ k.0 k.1) p) k.0))
      (λ s e l.
      let k = wholes_facts s.start s.length e in
      let m = max_whole n s.start b k.0 q in
      wholes_told _ _ m (sub_whole n _ _ (add_whole n _ _ k.0 k.1) m))

  pub whole_less_items : (fs : List Fields) → every whole_item fs ≡ true → (ss : List Stretch) → every whole_span ss ≡ true → every whole_span (less_items fs ss) ≡ true
  whole_less_items =
      every-less_items whole_span whole_item
      (λ f h ss. let k = wholes_facts f.key f.length h in whole_less f.key (end f) k.0 (add_whole n _ _ k.0 k.1) ss)
