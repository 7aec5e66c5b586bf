-- The sector writes of a change are its rewrites, one each. Assumes nothing.
use mathlib.Core.Path.{◌≡◌, refl, ap, ◌∙◌}
use mathlib.Core.Bool.{Bool, true, false, cond, ◌&&◌, not}
use mathlib.Core.List.{List, [], ◌∷◌, ◌++◌, map, flat_map, Memᴰ}
use mathlib.Core.Option.{Option, none, some}
use Prim.Native.Nat.{ℕ, ◌+◌, ◌≤◌, ◌<◌}
use native.Mathlib.Omega.{arith}
use lib.Dec.{eqb, leb}
use lib.ListN.{length}
use borrow.Author.Tests.{eqb-true, eq-eqb, ne_eqb, leb-true}
use Rattle.records.specs.Stages.{every, pairs}
use Rattle.records.specs.Select.{count}
use Rattle.records.proofs.Tests.{both_left, both_right, every_map}
use Rattle.records.proofs.Lists.{any_mem}
use Rattle.records.proofs.Counts.{count_append, count-keep, count_none, count-any, any-count, count_most, count-split, any-one}
use Rattle.ref_def.specs.Drops.{InLeaf}
use Rattle.plan_def.specs.Plans.{Write}
use Rattle.plan_def.specs.Places.{places_sound}
use Rattle.plan_def.proofs.Places.{places_count}
use Rattle.change_def.specs.declared.Rewrite.{Rewrite}
use Rattle.change_def.specs.Rewrites.{Ground, when_held, preallocated, in_place, write_in_place, each_in_place, rewritten_anew}
use Rattle.change_def.specs.Changes.{Change, writes_anew, pieces_wanted, wanted, plan_of}
use Rattle.change_def.proofs.Rounding.{sector-limit}
use Rattle.change_def.proofs.Fair.{Fair}

-- ---- any list

module _ {A : Type 0} where
  length_picked : {B : Type 0} (t : A → B) (l : List A) (m : List B) → length l ≤ length (map t l ++ m)
  length_picked t [] m = omega arith
  length_picked t (a ∷ l) m = let r = length_picked t l m in omega arith

-- ---- tests by sector, first and end

module _ (q : (sector first end : ℕ) → Bool) where
  abbrev pub of_write : Write → Bool
  of_write w = q w.key w.first w.end

  abbrev pub of_rewrite : Rewrite → Bool
  of_rewrite r = q r.sector r.first r.end

  -- a write for each rewrite that takes a new extent
  anew_count : (ps : List ℕ) (rs : List Rewrite) → length rs ≤ length ps → count of_write (writes_anew ps rs) ≡ count of_rewrite rs
  unfolding count writes_anew
  anew_count [] [] l = refl
  anew_count [] (r ∷ rs) l = absurd (omega arith)
  anew_count (p ∷ ps) [] l = refl
  anew_count (p ∷ ps) (r ∷ rs) l = ap (λ (n : ℕ). cond (of_rewrite r) 1 0 + n) (anew_count ps rs (omega arith))

  -- and for each in place
  place_count : (g : Ground) (rs : List Rewrite) → count of_write (each_in_place g write_in_place rs) ≡ count (λ (r : Rewrite). in_place g r && of_rewrite r) rs
  unfolding count each_in_place flat_map
  place_count g [] = refl
  place_count g (r ∷ rs) = go (preallocated g r) (place_count g rs)
    where
      go : (o : Option InLeaf) → count of_write (each_in_place g write_in_place rs) ≡ count (λ (r : Rewrite). in_place g r && of_rewrite r) rs
          → count of_write (when_held o [] (λ (h : InLeaf). write_in_place r h ∷ []) ++ each_in_place g write_in_place rs)
          ≡ cond (when_held o false (λ (h : InLeaf). true) && of_rewrite r) 1 0 + count (λ (r : Rewrite). in_place g r && of_rewrite r) rs
      go none h = omega arith
      go (some k) h = omega arith

-- one rewrite a sector, since they rise
rising_once : (s : ℕ) → 0 < s → (y : ℕ) (rs : List Rewrite) → pairs (λ (r t : Rewrite). leb (r.sector + s) t.sector) rs ≡ true → count (λ (r : Rewrite). eqb r.sector y) rs ≤ 1
unfolding count pairs
rising_once s pos y [] h = omega arith
rising_once s pos y (r ∷ rs) h =
    let t : Rewrite → Bool = λ u. leb (r.sector + s) u.sector in
    let ps : Bool = pairs (λ (r t : Rewrite). leb (r.sector + s) t.sector) rs in
    go (eqb r.sector y) refl (both_left (every t rs) ps h) (rising_once s pos y rs (both_right (every t rs) ps h))
  where
    go : (b : Bool) → eqb r.sector y ≡ b → every (λ (u : Rewrite). leb (r.sector + s) u.sector) rs ≡ true
        → count (λ (r : Rewrite). eqb r.sector y) rs ≤ 1 → cond b 1 0 + count (λ (r : Rewrite). eqb r.sector y) rs ≤ 1
    go true e k rec =
        let i = eqb-true r.sector y e in
        let z = count_none (λ (r : Rewrite). eqb r.sector y) rs
        (every_map (λ (u : Rewrite). leb (r.sector + s) u.sector) (λ (u : Rewrite). not (eqb u.sector y))
        (λ u l. let m = leb-true (r.sector + s) u.sector l in rw (ne_eqb u.sector y (λ x. omega arith)) refl) rs k) in
        omega arith
    go false e k rec = omega arith

-- ---- of a plan

-- the same sector, zeroed in the same place
abbrev same_zeros : (y b e sector first end : ℕ) → Bool
same_zeros y b e sector first end = eqb sector y && (eqb first b && eqb end e)

module _ (g : Ground) (c : Change) (fair : Fair g c) (limit : ℕ) (places : List ℕ) (sound : places_sound g.rows places (wanted g c limit) ≡ true) where
  -- as many writes pass a test as rewrites do
  pub writes-count : (q : (sector first end : ℕ) → Bool) → count (of_write q) (plan_of g c limit places).writes ≡ count (of_rewrite q) c.rewrites
  writes-count q =
      let rs : List Rewrite = c.rewrites in
      let n = places_count g.rows places (wanted g c limit) sound in
      let l = length_picked (λ (r : Rewrite). record { key = r.sector; length = g.sector; kind = 1 }) (rewritten_anew g rs) (pieces_wanted g c limit) in
      count_append (of_write q) (each_in_place g write_in_place rs) (writes_anew places (rewritten_anew g rs))
      ∙ rw (place_count q g rs, anew_count q places (rewritten_anew g rs) (omega (arith, n, l)), count-keep (of_rewrite q) (λ (r : Rewrite). not (in_place g r)) rs)
      (count-split (in_place g) (of_rewrite q) rs)

  -- one write a sector at most
  pub write_once : (y : ℕ) → count (λ (w : Write). eqb w.key y) (plan_of g c limit places).writes ≤ 1
  write_once y =
      omega (arith, writes-count (λ (sector first end : ℕ). eqb sector y), rising_once g.sector (sector-limit g.sector fair.sound.sector).0 y c.rewrites fair.rising)

  -- just one for each rewrite
  pub rewrite_written : (r : Rewrite) → Memᴰ r c.rewrites
      → count (λ (w : Write). eqb w.key r.sector && (eqb w.first r.first && eqb w.end r.end)) (plan_of g c limit places).writes ≡ 1
  rewrite_written r m =
      let q : (sector first end : ℕ) → Bool = same_zeros r.sector r.first r.end in
      let some = any-count (of_rewrite q) c.rewrites (any_mem (of_rewrite q) m (rw (eq-eqb r.sector r.sector refl, eq-eqb r.first r.first refl, eq-eqb r.end r.end refl) refl)) in
      let most = count_most (of_write q) (λ (w : Write). eqb w.key r.sector)
      (λ w h. both_left (eqb w.key r.sector) (eqb w.first r.first && eqb w.end r.end) h) (plan_of g c limit places).writes in
      omega (arith, some, most, writes-count q, write_once r.sector)

  -- and none for anything else
  pub write_rewrite : (w : Write) → Memᴰ w (plan_of g c limit places).writes → (r : Rewrite) × Memᴰ r c.rewrites × (r.sector ≡ w.key) × (r.first ≡ w.first) × (r.end ≡ w.end)
  write_rewrite w m =
      let q : (sector first end : ℕ) → Bool = same_zeros w.key w.first w.end in
      let some = any-count (of_write q) (plan_of g c limit places).writes (any_mem (of_write q) m (rw (eq-eqb w.key w.key refl, eq-eqb w.first w.first refl, eq-eqb w.end w.end refl) refl)) in
      let i = any-one (of_rewrite q) c.rewrites (count-any (of_rewrite q) c.rewrites (omega (arith, some, writes-count q))) in
      let r : Rewrite = i.0 in
      let k : Bool = eqb r.sector w.key in
      let b : Bool = eqb r.first w.first in
      let e : Bool = eqb r.end w.end in
      let t : (b && e) ≡ true = both_right k (b && e) i.2 in
      (r, i.1, eqb-true r.sector w.key (both_left k (b && e) i.2), eqb-true r.first w.first (both_left b e t), eqb-true r.end w.end (both_right b e t))
