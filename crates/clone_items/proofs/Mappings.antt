-- A copy shows what its item showed. Assumes nothing.
use mathlib.Core.Path.{◌≡◌, refl, ap, ◌∙◌, sym}
use mathlib.Core.Bool.{Bool, true, false, cond, ◌&&◌, ◌||◌, not}
use mathlib.Core.List.{List, [], ◌∷◌, map}
use mathlib.Core.Option.{some}
use Prim.Native.Nat.{ℕ, ◌+◌, ◌-◌, ◌<◌, ◌≤◌, max, min}
use native.Mathlib.Omega.{arith}
use lib.Dec.{eqb, leb, ltb}
use borrow.Author.Tests.{eqb-true, leb-true, ltb-true, le-leb, lt-ltb}
use Rattle.records.specs.Select.{keep}
use Rattle.records.proofs.Tests.{both, both_left, both_right}
use Rattle.item.specs.Items.{Fields, ranged, hole, end}
use Rattle.cut_def.specs.Mappings.{named, holds, mapping_in, mapping}
use Rattle.clone_items.specs.declared.Copying.{Copying}
use Rattle.clone_items.specs.Copies.{clone_item, clones, overlaps, copied}

-- ---- one item and its copy

copy_starts : (key from to i : ℕ) → key ≤ from + i → to + (max key from - from) ≤ to + i
copy_starts key from to i a = omega arith

copy_ends : (key stop from to span i : ℕ) → key ≤ from + i → from + i < stop → i < span → to + i < to + (max key from - from) + (min stop (from + span) - max key from)
copy_ends key stop from to span i a b c = omega arith

copy_position : (key position from to i : ℕ) → key ≤ from + i → position + (max key from - key) + (to + i - (to + (max key from - from))) ≡ position + (from + i - key)
copy_position key position from to i a = omega arith

module _ (c : Copying) (i : ℕ) (inside : i < c.span) (f : Fields) where
  abbrev copy : Fields
  copy = clone_item c f

  -- an offset that an item holds is one that its copy holds, and the item is picked
  holder_picked : holds (c.from + i) f ≡ true → (copied c f ≡ true) × (holds (c.to + i) copy ≡ true) × (mapping_in (c.to + i) copy ≡ mapping_in (c.from + i) f)
  holder_picked h =
      let n : (ranged f && not (hole f)) ≡ true = both_left (named f) (leb f.key (c.from + i) && ltb (c.from + i) (end f)) h in
      let r : (leb f.key (c.from + i) && ltb (c.from + i) (end f)) ≡ true = both_right (named f) (leb f.key (c.from + i) && ltb (c.from + i) (end f)) h in
      let a = leb-true f.key (c.from + i) (both_left (leb f.key (c.from + i)) (ltb (c.from + i) (end f)) r) in
      let b = ltb-true (c.from + i) (end f) (both_right (leb f.key (c.from + i)) (ltb (c.from + i) (end f)) r) in
      let e : copy.position + (c.to + i - copy.key) ≡ f.position + (c.from + i - f.key) = copy_position f.key f.position c.from c.to i a in (
        both (not (eqb f.kind 0)) (overlaps c f && not (hole f)) (kind f.kind (both_left (ranged f) (not (hole f)) n))
            (both (overlaps c f) (not (hole f)) (both (ltb c.from (end f)) (ltb f.key (c.from + c.span)) (lt-ltb c.from (end f) (omega arith)) (lt-ltb f.key (c.from + c.span) (omega arith))) (both_right (ranged f) (not (hole f)) n)),
        both (named f) (leb copy.key (c.to + i) && ltb (c.to + i) (end copy)) n (both (leb copy.key (c.to + i)) (ltb (c.to + i) (end copy)) (le-leb copy.key (c.to + i) (copy_starts f.key c.from c.to i a)) (lt-ltb (c.to + i) (end copy) (copy_ends f.key (end f) c.from c.to c.span i a b inside))),
        λ j. record { kind = f.kind; compression = f.compression; encryption = f.encryption; other = f.other; start = f.extent_start; position = e j },
      )
    where
      kind : (k : ℕ) → (eqb k 1 || eqb k 2) ≡ true → not (eqb k 0) ≡ true
      kind k r = go (eqb k 0) refl
        where
          go : (b : Bool) → eqb k 0 ≡ b → not b ≡ true
          go false e = refl
          go true e = rw (eqb-true k 0 e) at r

  -- and the other way round
  copy_held : holds (c.to + i) copy ≡ true → holds (c.from + i) f ≡ true
  copy_held h =
      let n : (ranged f && not (hole f)) ≡ true = both_left (named f) (leb copy.key (c.to + i) && ltb (c.to + i) (end copy)) h in
      let r : (leb copy.key (c.to + i) && ltb (c.to + i) (end copy)) ≡ true = both_right (named f) (leb copy.key (c.to + i) && ltb (c.to + i) (end copy)) h in
      let a = leb-true copy.key (c.to + i) (both_left (leb copy.key (c.to + i)) (ltb (c.to + i) (end copy)) r) in
      let b = ltb-true (c.to + i) (end copy) (both_right (leb copy.key (c.to + i)) (ltb (c.to + i) (end copy)) r) in
      both (named f) (leb f.key (c.from + i) && ltb (c.from + i) (end f)) n (both (leb f.key (c.from + i)) (ltb (c.from + i) (end f)) (le-leb f.key (c.from + i) (omega arith)) (lt-ltb (c.from + i) (end f) (omega arith)))

-- ---- all of them

pub copies_show : (c : Copying) (i : ℕ) → i < c.span → (fs : List Fields) → mapping (c.to + i) (clones c fs) ≡ mapping (c.from + i) fs
unfolding mapping keep
copies_show c i h [] = refl
copies_show c i h (f ∷ fs) = go (holds (c.from + i) f) refl (copied c f) refl (copies_show c i h fs)
  where
    copy : Fields
    copy = clone_item c f

    go : (b : Bool) → holds (c.from + i) f ≡ b → (d : Bool) → copied c f ≡ d → mapping (c.to + i) (clones c fs) ≡ mapping (c.from + i) fs
        → mapping (c.to + i) (map (clone_item c) (cond d (f ∷ keep (copied c) fs) (keep (copied c) fs))) ≡ cond b (some (mapping_in (c.from + i) f)) (mapping (c.from + i) fs)
    go true e true k ih = let x = holder_picked c i h f e in rw x.1 (ap some x.2)
    go true e false k ih = let x = holder_picked c i h f e in let z : ◌≡◌ {A = Bool} true false = sym x.0 ∙ k in absurd (mathlib.Core.Bool.true≢false z)
    go false e true k ih = rw (misses (holds (c.to + i) (clone_item c f)) refl) ih
      where
        misses : (d : Bool) → holds (c.to + i) (clone_item c f) ≡ d → holds (c.to + i) (clone_item c f) ≡ false
        misses false m = m
        misses true m = absurd (mathlib.Core.Bool.true≢false (sym (copy_held c i h f m) ∙ e))
    go false e false k ih = ih
