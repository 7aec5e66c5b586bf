-- Where a punch starts: the first offset of the range that an item holds. Assumes nothing.
use mathlib.Core.Path.{◌≡◌, refl, ap, ◌∙◌, sym}
use mathlib.Core.Bool.{Bool, true, false, cond, ◌&&◌, not, false≢true}
use mathlib.Core.List.{List, [], ◌∷◌, Memᴰ}
use mathlib.Core.Option.{Option, none, some}
use mathlib.Core.Logic.{◌⊎◌, inl, inr}
use Prim.Native.Nat.{ℕ, ◌%◌, ◌≤◌, ◌<◌, max}
use native.Mathlib.Omega.{arith}
use native.Mathlib.Decide.{dec_le}
use lib.Dec.{leb, ltb}
use borrow.Author.Tests.{leb-true, ltb-true, ltb-false, le-leb, lt-ltb, not-true}
use Rattle.records.specs.Stages.{every}
use Rattle.records.proofs.Tests.{both_left, both_right}
use Rattle.records.proofs.Lists.{every_mem}
use Rattle.item.specs.Items.{Fields, ranged, hole, end}
use Rattle.lists.specs.Lists.{item_sound, whole_sectors}
use Rattle.lists.proofs.Order.{item-ranged}
use Rattle.lists.proofs.Laws.{Kept, whole_facts}
use Rattle.cut_def.specs.Mappings.{named, holds, holder}
use Rattle.punch_def.specs.Punch.{lower, first_held, held_by}

-- ---- items of a list

-- what holding an offset says
pub record Holding (o : ℕ) (f : Fields) : Type 0 where
  pub range : ranged f ≡ true
  pub named : hole f ≡ false
  pub low : f.key ≤ o
  pub high : o < end f

pub holding : (o : ℕ) (f : Fields) → holds o f ≡ true → Holding o f
holding o f h =
    let l : Bool = leb f.key o in
    let r : Bool = ltb o (end f) in
    let n : named f ≡ true = both_left (named f) (l && r) h in
    let t : (l && r) ≡ true = both_right (named f) (l && r) h in
    record {
      range = both_left (ranged f) (not (hole f)) n;
      named = not-true (hole f) (both_right (ranged f) (not (hole f)) n);
      low = leb-true f.key o (both_left l r t);
      high = ltb-true o (end f) (both_right l r t);
    }

pub hold : (o : ℕ) (f : Fields) → Holding o f → holds o f ≡ true
hold o f h = rw (h.range, h.named, le-leb f.key o h.low, lt-ltb o (end f) h.high) refl

-- an offset that an item holds has a holder, and the other way round
pub holder-some : (o : ℕ) (f : Fields) (fs : List Fields) → Memᴰ f fs → holds o f ≡ true → held_by (holder o fs) ≡ true
unfolding holder
holder-some o f [] m h = elim m [ ]
holder-some o f (g ∷ fs) m h = go (holds o g) refl m (λ m. holder-some o f fs m h)
  where
    go : (b : Bool) → holds o g ≡ b → Memᴰ f (g ∷ fs) → (Memᴰ f fs → held_by (holder o fs) ≡ true) → held_by (cond b (some g) (holder o fs)) ≡ true
    go true e m rec = refl
    go false e (Memᴰ.head i) rec = absurd (false≢true (sym e ∙ rw i at h))
    go false e (Memᴰ.tail m) rec = rec m

pub some-holder : (o : ℕ) (fs : List Fields) → held_by (holder o fs) ≡ true → (f : Fields) × Memᴰ f fs × (holds o f ≡ true)
unfolding holder
some-holder o [] h = absurd (false≢true h)
some-holder o (g ∷ fs) h = go (holds o g) refl h (some-holder o fs)
  where
    go : (b : Bool) → holds o g ≡ b → held_by (cond b (some g) (holder o fs)) ≡ true
        → (held_by (holder o fs) ≡ true → (f : Fields) × Memᴰ f fs × (holds o f ≡ true))
        → (f : Fields) × Memᴰ f (g ∷ fs) × (holds o f ≡ true)
    go true e h rec = (g, Memᴰ.head refl, e)
    go false e h rec = let r = rec h in (r.0, Memᴰ.tail r.1, r.2)

-- ---- the first offset

-- an item that holds offsets of the range or past it
pub record Past (offset : ℕ) (f : Fields) : Type 0 where
  pub named : hole f ≡ false
  pub ends : offset < end f

past : (offset : ℕ) (f : Fields) → (not (hole f) && ltb offset (end f)) ≡ true → Past offset f
past offset f h =
    record {
      named = not-true (hole f) (both_left (not (hole f)) (ltb offset (end f)) h);
      ends = ltb-true offset (end f) (both_right (not (hole f)) (ltb offset (end f)) h);
    }

passed : (offset : ℕ) (f : Fields) → Past offset f → (not (hole f) && ltb offset (end f)) ≡ true
passed offset f p = rw (p.named, lt-ltb offset (end f) p.ends) refl

-- the least start, cut off at the offset, of all such items
pub record First (offset x : ℕ) (fs : List Fields) : Type 0 where
  pub item : Fields
  pub among : Memᴰ item fs
  pub past : Past offset item
  pub start : x ≡ max item.key offset
  pub least : (f : Fields) → Memᴰ f fs → Past offset f → x ≤ max f.key offset

pub first-none : (offset : ℕ) (fs : List Fields) → first_held offset fs ≡ none → (f : Fields) → Memᴰ f fs → Past offset f → ⊥
unfolding first_held
first-none offset [] e f m p = elim m [ ]
first-none offset (g ∷ fs) e f m p = go (not (hole g) && ltb offset (end g)) refl e m (λ e m. first-none offset fs e f m p)
  where
    full : (o : Option ℕ) (x : ℕ) → lower o x ≡ none → ⊥
    full none x e = let z : ◌≡◌ {A = ℕ} 0 1 = cc in omega arith
    full (some y) x e = let z : ◌≡◌ {A = ℕ} 0 1 = cc in omega arith

    go : (b : Bool) → (not (hole g) && ltb offset (end g)) ≡ b → cond b (lower (first_held offset fs) (max g.key offset)) (first_held offset fs) ≡ none
        → Memᴰ f (g ∷ fs) → (first_held offset fs ≡ none → Memᴰ f fs → ⊥) → ⊥
    go true t e m rec = full (first_held offset fs) (max g.key offset) e
    go false t e (Memᴰ.head i) rec = false≢true (sym t ∙ passed offset g (rw i at p))
    go false t e (Memᴰ.tail m) rec = rec e m

pub first_some : (offset : ℕ) (fs : List Fields) (x : ℕ) → first_held offset fs ≡ some x → First offset x fs
unfolding first_held
first_some offset [] x e = let z : ◌≡◌ {A = ℕ} 0 1 = cc in absurd (omega arith)
first_some offset (g ∷ fs) x e = go (not (hole g) && ltb offset (end g)) refl e (first_some offset fs)
  where
    n : ℕ
    n = max g.key offset

    -- the first item is the least
    here : Past offset g → x ≡ n → ((f : Fields) → Memᴰ f fs → Past offset f → n ≤ max f.key offset) → First offset x (g ∷ fs)
    here p i h = record { item = g; among = Memᴰ.head refl; past = p; start = i; least = least }
      where
        least : (f : Fields) → Memᴰ f (g ∷ fs) → Past offset f → x ≤ max f.key offset
        least f (Memᴰ.head j) q = let k = ap (λ (f : Fields). f.key) j in rw k (omega arith)
        least f (Memᴰ.tail m) q = omega (arith, h f m q)

    -- or it is one of the others
    there : (Past offset g → x ≤ n) → First offset x fs → First offset x (g ∷ fs)
    there h r = record { item = r.item; among = Memᴰ.tail r.among; past = r.past; start = r.start; least = least }
      where
        least : (f : Fields) → Memᴰ f (g ∷ fs) → Past offset f → x ≤ max f.key offset
        least f (Memᴰ.head j) q = rw j (h (rw j at q))
        least f (Memᴰ.tail m) q = r.least f m q

    pick : (y : ℕ) (b : Bool) → ltb n y ≡ b → Past offset g → some (cond b n y) ≡ some x → First offset y fs → First offset x (g ∷ fs)
    pick y true t p e r = let i : n ≡ x = cc in here p (sym i) (λ f m q. omega (arith, ltb-true n y t, r.least f m q))
    pick y false t p e r = let i : y ≡ x = cc in there (λ q. omega (arith, ltb-false n y t)) (rw i at r)

    low : (o : Option ℕ) → first_held offset fs ≡ o → Past offset g → lower o n ≡ some x → ((x : ℕ) → first_held offset fs ≡ some x → First offset x fs) → First offset x (g ∷ fs)
    low none q p e rec = let i : n ≡ x = cc in here p (sym i) (λ f m r. absurd (first-none offset fs q f m r))
    low (some y) q p e rec = pick y (ltb n y) refl p e (rec y q)

    go : (b : Bool) → (not (hole g) && ltb offset (end g)) ≡ b → cond b (lower (first_held offset fs) n) (first_held offset fs) ≡ some x
        → ((x : ℕ) → first_held offset fs ≡ some x → First offset x fs) → First offset x (g ∷ fs)
    go true t e rec = low (first_held offset fs) refl (past offset g t) e rec
    go false t e rec = there (λ p. absurd (false≢true (sym t ∙ passed offset g p))) (rec x e)

-- ---- what it is

module _ (offset x : ℕ) (fs : List Fields) (first : First offset x fs) where
  -- at or past the offset
  pub first_past : offset ≤ x
  first_past = omega arith

  -- every offset of the range that an item holds is at or past it
  pub first-least : (f : Fields) (o : ℕ) → Memᴰ f fs → holds o f ≡ true → offset ≤ o → x ≤ o
  first-least f o m h l =
      let k = holding o f h in
      omega (arith, first.least f m (record { named = k.named; ends = omega arith }))

  -- so no item holds one between
  pub first_gap : (f : Fields) (o : ℕ) → Memᴰ f fs → offset ≤ o → o < x → holds o f ≡ false
  first_gap f o m l h = go (holds o f) refl
    where
      go : (b : Bool) → holds o f ≡ b → b ≡ false
      go true e = absurd (omega (arith, first-least f o m e l))
      go false e = refl

  module _ (file : ℕ) (kept : Kept file fs) (ranges : every ranged fs ≡ true) where
    -- its item holds it
    pub first_holds : holds x first.item ≡ true
    first_holds =
        let r = every_mem ranged first.among ranges in
        let s = item-ranged file first.item (every_mem (item_sound file) first.among kept.sound) r in
        hold x first.item (record { range = r; named = first.past.named; low = omega arith; high = omega arith })

    -- it is the offset itself or a sector start
    pub first_whole : (sector : ℕ) → every (whole_sectors sector) fs ≡ true → (x ≡ offset) ⊎ (x % sector ≡ 0)
    first_whole sector w =
        let k = whole_facts sector first.item (every_mem (whole_sectors sector) first.among w) (every_mem ranged first.among ranges) in
        elim (dec_le first.item.key offset) [
          | yes l ↦ inl (omega arith)
          | no l ↦ let e : x ≡ first.item.key = omega arith in inr (rw e k.0)
        ]
