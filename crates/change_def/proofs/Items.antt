-- The items that a change makes: those written in place and the new ones, each sound, and clear of all others. Assumes nothing.
use mathlib.Core.Path.{◌≡◌, refl, ◌∙◌, sym}
use mathlib.Core.Bool.{Bool, true, false, ◌&&◌, ◌||◌, not, false≢true}
use mathlib.Core.List.{List, [], ◌∷◌, Memᴰ}
use mathlib.Core.Logic.{◌⊎◌, inl, inr, ⊎_elim}
use mathlib.Core.Option.{some}
use Prim.Native.Nat.{ℕ, ◌+◌, ◌%◌, ◌^◌, ◌<◌, ◌≤◌}
use native.Mathlib.Omega.{arith}
use native.Mathlib.Decide.{dec_lt}
use native.Mathlib.Nat.{mod_self, dvd-add, dvd_of_mod-eq-zero, mod-eq-zero_of_dvd}
use lib.Dec.{eqb, leb, ltb}
use borrow.Author.Tests.{eqb-true, leb-true, ltb-true, eq-eqb, le-leb, lt-ltb, not-true}
use Rattle.records.specs.Stages.{every, pairs}
use Rattle.records.proofs.Tests.{both, both_left, both_right, either, either_right}
use Rattle.records.proofs.Lists.{every_mem, every-mapped}
use Rattle.item.specs.Items.{Fields, ranged, hole, end, joined}
use Rattle.lists.specs.Lists.{item_sound, range_sound, apart, whole_sectors}
use Rattle.lists.proofs.Order.{item-ranged}
use Rattle.lists.proofs.Laws.{item-file, whole_facts}
use Rattle.cut_def.specs.Cuts.{front, back}
use Rattle.cut_def.specs.Mappings.{named}
use Rattle.cut_def.specs.Pieces.{items_of, cut_pieces}
use Rattle.cut_def.proofs.Mappings.{Joint, Joins, joins_all, joins_every}
use Rattle.cut_def.proofs.Kept.{clear, within, clear_apart, every-cut, every-insert_all, is-clear}
use Rattle.ref_def.specs.Drops.{InLeaf}
use Rattle.change_def.specs.Preallocs.{Stretch}
use Rattle.change_def.specs.declared.Rewrite.{Rewrite}
use Rattle.change_def.specs.Rewrites.{Ground, preallocated, in_place, position_of, new_generation, item_in_place, each_in_place}
use Rattle.change_def.specs.Changes.{Change, before, pieces_written, pieces_joined}
use Rattle.change_def.proofs.Rounding.{sector-limit, whole_next}
use Rattle.change_def.proofs.Rewrites.{holder_says, preallocated_says, in_place_some}
use Rattle.change_def.proofs.Fair.{Fair, rewrite_inside, rewrites_rise, hole_inside}
use Rattle.change_def.proofs.Each.{each_every, each_pairs}

-- ---- clear of a stretch

pub clear_facts : (lo hi : ℕ) (f : Fields) → clear lo hi f ≡ true → (end f ≤ lo) ⊎ (hi ≤ f.key)
clear_facts lo hi f h = ⊎_elim (λ x. inl (leb-true (end f) lo x)) (λ x. inr (leb-true hi f.key x)) (either (leb (end f) lo) (leb hi f.key) h)

-- and of a part of it
pub clear-part : (lo hi a b : ℕ) → lo ≤ a → b ≤ hi → (f : Fields) → clear lo hi f ≡ true → clear a b f ≡ true
clear-part lo hi a b p q f h = is-clear a b f (⊎_elim (λ x. inl (omega arith)) (λ x. inr (omega arith)) (clear_facts lo hi f h))

-- items clear of an item's range lie apart from it
pub apart-clear : (x y : Fields) → clear x.key (end x) y ≡ true → apart x y ≡ true
unfolding every
apart-clear x y h = both_left (apart x y) true (clear_apart x.key (end x) x (y ∷ []) (omega arith) (omega arith) (both (clear x.key (end x) y) true h refl))

-- a cut keeps items clear
pub clear-cut : (a b lo hi : ℕ) (fs : List Fields) → every (clear a b) fs ≡ true → every (clear a b) (items_of (cut_pieces lo hi fs)) ≡ true
clear-cut a b lo hi fs e =
    every-cut lo hi (clear a b) (clear a b) (λ f h s. h)
    (λ f h p q. is-clear a b (front lo f) (⊎_elim (λ x. inl (omega arith)) (λ x. inr (omega arith)) (clear_facts a b f h)))
    (λ f h p q. is-clear a b (back hi f) (⊎_elim (λ x. inl (omega arith)) (λ x. inr (omega arith)) (clear_facts a b f h)))
    fs e

-- and so do joins
pub clear_joins : (a b n : ℕ) → a < b → {fs gs : List Fields} → Joins n fs gs → every (clear a b) fs ≡ true → every (clear a b) gs ≡ true
clear_joins a b n l j e = joins_every n (clear a b) go j e
  where
    go : (f h : Fields) → Joint f h → clear a b f ≡ true → clear a b h ≡ true → clear a b (joined f h n) ≡ true
    go f h j p q =
        let t : end f ≡ h.key = j.touch in
        is-clear a b (joined f h n)
        (⊎_elim (λ x. ⊎_elim (λ y. inl (omega arith)) (λ y. absurd (omega arith)) (clear_facts a b h q)) (λ x. inr x) (clear_facts a b f p))

-- ---- one item

-- a sound one, from its bounds
pub sound-item : (file : ℕ) (f : Fields) → f.file ≡ file → f.key_type ≡ 108 → 1 ≤ f.length → end f ≤ 2 ^ 63 → f.position + f.length < 2 ^ 64 → item_sound file f ≡ true
sound-item file f own typed long ends fits =
    both (eqb f.file file && eqb f.key_type 108) (not (ranged f) || range_sound f)
    (both (eqb f.file file) (eqb f.key_type 108) (eq-eqb f.file file own) (eq-eqb f.key_type 108 typed))
    (either_right (not (ranged f)) (range_sound f)
    (both (leb 1 f.length && leb (end f) (2 ^ 63)) (ltb (f.position + f.length) (2 ^ 64))
    (both (leb 1 f.length) (leb (end f) (2 ^ 63)) (le-leb 1 f.length long) (le-leb (end f) (2 ^ 63) ends))
    (lt-ltb (f.position + f.length) (2 ^ 64) fits)))

pub whole_item : (s : ℕ) (f : Fields) → f.key % s ≡ 0 → f.length % s ≡ 0 → whole_sectors s f ≡ true
whole_item s f p q =
    either_right (not (ranged f)) (eqb (f.key % s) 0 && eqb (f.length % s) 0)
    (both (eqb (f.key % s) 0) (eqb (f.length % s) 0) (eq-eqb (f.key % s) 0 p) (eq-eqb (f.length % s) 0 q))

pub within-item : (lo hi : ℕ) (f : Fields) → lo ≤ f.key → end f ≤ hi → within lo hi f ≡ true
within-item lo hi f p q = both (leb lo f.key) (leb (end f) hi) (le-leb lo f.key p) (le-leb (end f) hi q)

-- ---- the item that holds a rewritten sector

pub record Holder (g : Ground) (r : Rewrite) (h : InLeaf) : Type 0 where
  pub member : Memᴰ h g.in_leaves
  pub ranges : ranged h.item ≡ true
  pub solid : hole h.item ≡ false
  pub low : h.item.key ≤ r.sector
  pub high : r.sector < end h.item

pub holder_facts : (g : Ground) (r : Rewrite) (h : InLeaf) → preallocated g r ≡ some h → Holder g r h
holder_facts g r h e =
    let p = holder_says r.sector g.in_leaves h (preallocated_says g r h e).0 in
    let l : Bool = leb h.item.key r.sector in
    let u : Bool = ltb r.sector (end h.item) in
    let n = both_left (named h.item) (l && u) p.0 in
    let t = both_right (named h.item) (l && u) p.0 in
    record {
      member = p.1;
      ranges = both_left (ranged h.item) (not (hole h.item)) n;
      solid = not-true (hole h.item) (both_right (ranged h.item) (not (hole h.item)) n);
      low = leb-true h.item.key r.sector (both_left l u t);
      high = ltb-true r.sector (end h.item) (both_right l u t);
    }

-- a rewritten sector of a fair change
pub record Inside (g : Ground) (c : Change) (r : Rewrite) : Type 0 where
  pub start : r.sector % g.sector ≡ 0
  pub low : c.lo ≤ r.sector
  pub high : r.sector + g.sector ≤ c.hi

pub inside : (g : Ground) (c : Change) (r : Rewrite) → rewrite_inside g c r ≡ true → Inside g c r
inside g c r h =
    let w : Bool = eqb (r.sector % g.sector) 0 in
    let l : Bool = leb c.lo r.sector in
    let u : Bool = leb (r.sector + g.sector) c.hi in
    let t = both_right w (l && u) h in
    record {
      start = eqb-true (r.sector % g.sector) 0 (both_left w (l && u) h);
      low = leb-true c.lo r.sector (both_left l u t);
      high = leb-true (r.sector + g.sector) c.hi (both_right l u t);
    }

-- a hole of a fair change
pub record Hole (g : Ground) (c : Change) (s : Stretch) : Type 0 where
  pub start : s.start % g.sector ≡ 0
  pub sectors : s.length % g.sector ≡ 0
  pub some : 1 ≤ s.length
  pub ends : s.start + s.length ≤ 2 ^ 63
  pub side : (s.start + s.length ≤ c.lo) ⊎ (c.hi ≤ s.start)

pub hole_facts : (g : Ground) (c : Change) (s : Stretch) → hole_inside g c s ≡ true → Hole g c s
hole_facts g c s h =
    let w : Bool = eqb (s.start % g.sector) 0 in
    let v : Bool = eqb (s.length % g.sector) 0 in
    let o : Bool = leb 1 s.length in
    let e : Bool = leb (s.start + s.length) (2 ^ 63) in
    let a : Bool = leb (s.start + s.length) c.lo in
    let b : Bool = leb c.hi s.start in
    let p : (w && v) ≡ true = both_left (w && v) ((o && e) && (a || b)) h in
    let q : ((o && e) && (a || b)) ≡ true = both_right (w && v) ((o && e) && (a || b)) h in
    let i : (o && e) ≡ true = both_left (o && e) (a || b) q in
    record {
      start = eqb-true (s.start % g.sector) 0 (both_left w v p);
      sectors = eqb-true (s.length % g.sector) 0 (both_right w v p);
      some = leb-true 1 s.length (both_left o e i);
      ends = leb-true (s.start + s.length) (2 ^ 63) (both_right o e i);
      side = ⊎_elim (λ x. inl (leb-true (s.start + s.length) c.lo x)) (λ x. inr (leb-true c.hi s.start x)) (either a b (both_right (o && e) (a || b) q));
    }

-- ---- the items written in place

abbrev pub items_in_place : Ground → Change → List Fields
items_in_place g c = each_in_place g (item_in_place g) c.rewrites

module _ (g : Ground) (c : Change) where
  -- a holder passes what all items of the file do
  pub holder-every : (p : Fields → Bool) → every p (before g c) ≡ true → (r : Rewrite) (h : InLeaf) → preallocated g r ≡ some h → p h.item ≡ true
  holder-every p e r h s = every_mem (λ (q : InLeaf). p q.item) (holder_facts g r h s).member (sym (every-mapped p (λ (q : InLeaf). q.item) g.in_leaves) ∙ e)

  -- what is clear of the pieces of the cut and of the items in place is clear of all pieces after the joins
  pub joined-clear : (a b : ℕ) → a < b → every (clear a b) (items_of (cut_pieces c.lo c.hi (before g c))) ≡ true → every (clear a b) (items_in_place g c) ≡ true → every (clear a b) (items_of (pieces_joined g c)) ≡ true
  unfolding pieces_joined pieces_written
  joined-clear a b l p q =
      clear_joins a b (new_generation g) l (joins_all (new_generation g) (each_in_place g (λ (r : Rewrite) (h : InLeaf). r.sector) c.rewrites) (pieces_written g c))
      (every-insert_all (clear a b) (items_in_place g c) (cut_pieces c.lo c.hi (before g c)) q p)

module _ (g : Ground) (c : Change) (fair : Fair g c) where
  pub sector-some : 0 < g.sector
  sector-some = (sector-limit g.sector fair.sound.sector).0

  -- an item in place lies in its holder
  in_place_fits : (r : Rewrite) (h : InLeaf) → rewrite_inside g c r ≡ true → preallocated g r ≡ some h → position_of r h + g.sector < 2 ^ 64
  in_place_fits r h u s =
      let k = holder_facts g r h s in
      let i = inside g c r u in
      let b = item-ranged g.file h.item (holder-every g c (item_sound g.file) fair.sound.kept.sound r h s) k.ranges in
      let w = whole_facts g.sector h.item (holder-every g c (whole_sectors g.sector) fair.sound.sectors r h s) k.ranges in
      let e : end h.item % g.sector ≡ 0 = mod-eq-zero_of_dvd g.sector (dvd-add g.sector (dvd_of_mod-eq-zero g.sector w.0) (dvd_of_mod-eq-zero g.sector w.1)) in
      let n : r.sector + g.sector ≤ end h.item = whole_next g.sector sector-some r.sector (end h.item) i.start e k.high in
      omega (arith, k.low, b.fits)

  in_place_sound : (r : Rewrite) (h : InLeaf) → rewrite_inside g c r ≡ true → preallocated g r ≡ some h → item_sound g.file (item_in_place g r h) ≡ true
  in_place_sound r h u s =
      let f = item-file g.file h.item (holder-every g c (item_sound g.file) fair.sound.kept.sound r h s) in
      sound-item g.file (item_in_place g r h) f.0 f.1 (omega (arith, sector-some)) (omega (arith, (inside g c r u).high, fair.limit)) (in_place_fits r h u s)

  -- sound for the file
  pub written-sound : every (item_sound g.file) (items_in_place g c) ≡ true
  written-sound = each_every g (item_in_place g) (rewrite_inside g c) (item_sound g.file) in_place_sound c.rewrites fair.rewrites

  -- of kind 1
  pub written-ranged : every ranged (items_in_place g c) ≡ true
  written-ranged = each_every g (item_in_place g) (rewrite_inside g c) ranged (λ r h u s. refl) c.rewrites fair.rewrites

  -- whole sectors
  pub written_whole : every (whole_sectors g.sector) (items_in_place g c) ≡ true
  written_whole =
      each_every g (item_in_place g) (rewrite_inside g c) (whole_sectors g.sector)
      (λ r h u s. whole_item g.sector (item_in_place g r h) (inside g c r u).start (mod_self g.sector)) c.rewrites fair.rewrites

  -- inside the cut
  pub written-within : every (within c.lo c.hi) (items_in_place g c) ≡ true
  written-within =
      each_every g (item_in_place g) (rewrite_inside g c) (within c.lo c.hi)
      (λ r h u s. within-item c.lo c.hi (item_in_place g r h) (inside g c r u).low (inside g c r u).high) c.rewrites fair.rewrites

  -- no holes
  pub written-named : every named (items_in_place g c) ≡ true
  written-named = each_every g (item_in_place g) (rewrite_inside g c) named (λ r h u s. rw (holder_facts g r h s).solid refl) c.rewrites fair.rewrites

  -- apart from each other
  pub written_apart : pairs apart (items_in_place g c) ≡ true
  written_apart =
      each_pairs g (item_in_place g) (rewrite_inside g c) (rewrites_rise g) apart
      (λ a d h k ua ud sa sd e. apart-clear (item_in_place g a h) (item_in_place g d k) (is-clear a.sector (a.sector + g.sector) (item_in_place g d k) (inr (leb-true (a.sector + g.sector) d.sector e))))
      c.rewrites fair.rewrites fair.rising

  -- clear of what lies outside the cut
  pub written-outside : (a b : ℕ) → (b ≤ c.lo) ⊎ (c.hi ≤ a) → every (clear a b) (items_in_place g c) ≡ true
  written-outside a b o =
      each_every g (item_in_place g) (rewrite_inside g c) (clear a b)
      (λ r h u s. let i = inside g c r u in is-clear a b (item_in_place g r h) (⊎_elim (λ x. inr (omega (arith, i.low))) (λ x. inl (omega (arith, i.high))) o))
      c.rewrites fair.rewrites

  -- and of each sector that is not written in place
  pub written-elsewhere : (r : Rewrite) → rewrite_inside g c r ≡ true → in_place g r ≡ false → every (clear r.sector (r.sector + g.sector)) (items_in_place g c) ≡ true
  written-elsewhere r u n =
      each_every g (item_in_place g) (rewrite_inside g c) (clear r.sector (r.sector + g.sector))
      (λ d h v s. is-clear r.sector (r.sector + g.sector) (item_in_place g d h) (side d h (inside g c r u) (inside g c d v) s)) c.rewrites fair.rewrites
    where
      other : (d : Rewrite) (h : InLeaf) → preallocated g d ≡ some h → r.sector ≡ d.sector → ⊥
      other d h s e =
          let p : preallocated g r ≡ some h = rw e s in
          false≢true (sym n ∙ (in_place_some g r).1 (h, p))

      side : (d : Rewrite) (h : InLeaf) → Inside g c r → Inside g c d → preallocated g d ≡ some h → (d.sector + g.sector ≤ r.sector) ⊎ (r.sector + g.sector ≤ d.sector)
      side d h i j s =
          elim (dec_lt d.sector r.sector) [
            | yes l ↦ inl (whole_next g.sector sector-some d.sector r.sector j.start i.start l)
            | no l ↦ inr (whole_next g.sector sector-some r.sector d.sector i.start j.start (omega (arith, other d h s)))
          ]
