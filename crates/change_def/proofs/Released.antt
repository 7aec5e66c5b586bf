-- A change releases an extent exactly when it drops all references of it. Assumes nothing.
use mathlib.Core.Path.{◌≡◌, refl, ◌∙◌, sym, ap}
use mathlib.Core.Bool.{Bool, true, false, cond, ◌&&◌, not}
use mathlib.Core.List.{List}
use Prim.Native.Nat.{ℕ, ◌+◌, ◌%◌, ◌<◌, ◌≤◌}
use native.Mathlib.Omega.{arith}
use lib.Dec.{eqb, leb, ltb}
use lib.ListN.{length}
use borrow.Author.Tests.{eqb-true, leb-true, ltb-true, eq-eqb, not-true}
use Rattle.std.specs.Prelude.{Some}
use Rattle.records.specs.Stages.{every}
use Rattle.records.specs.Select.{any, count}
use Rattle.records.proofs.Tests.{both, both_left, both_right, every-keep}
use Rattle.records.proofs.Lists.{any_some, any_where}
use Rattle.records.proofs.Counts.{count_append, count-apart, count-any, any-count}
use Rattle.item.specs.Items.{Fields, ranged, hole, end}
use Rattle.table.specs.declared.Row.{Row}
use Rattle.table.specs.Rows.{find}
use Rattle.cut_def.specs.Cuts.{touched, covered, split}
use Rattle.cut_def.specs.Mappings.{named}
use Rattle.cut_def.specs.Pieces.{items_of}
use Rattle.cut_def.specs.Refs.{Ref, ref_of, ref_passes, names, naming}
use Rattle.cut_def.proofs.Counts.{insert_all-counts, join_naming}
use Rattle.ref_def.specs.Compared.{compared_unrefs}
use Rattle.ref_def.specs.Drops.{InLeaf, drops_of, releases, unrefs}
use Rattle.ref_def.proofs.Compared.{shares-other, unrefs-other}
use Rattle.ref_def.proofs.Drops.{drops-number, drops-lines, line-drops, drops-line}
use Rattle.plan_def.specs.Places.{places_sound}
use Rattle.change_def.specs.Rewrites.{Ground, new_generation}
use Rattle.change_def.specs.Changes.{Change, before, new_items, pieces_written, pieces_joined, extents_in_place, shares_compared, drops, change_refusal, pieces_after, wanted, plan_of}
use Rattle.change_def.proofs.Fair.{Fair}
use Rattle.change_def.proofs.Items.{items_in_place, written-named}
use Rattle.change_def.proofs.Steps.{cut_items, sectors_in_place}
use Rattle.change_def.proofs.Balance.{other_ref, kept_shares, listed-written, drops-counted, shares-counted, drops-zero, balance, adds-elsewhere}

-- no item is covered and split
covered-split : (lo hi : ℕ) (f : Fields) (p : Bool) → cond (covered lo hi f && p) 1 0 + cond (split lo hi f && p) 1 0 ≤ cond p 1 0
covered-split lo hi f p = go (covered lo hi f) refl (split lo hi f) refl p
  where
    both_never : covered lo hi f ≡ true → split lo hi f ≡ true → ⊥
    both_never a b =
        let l = leb-true lo f.key (both_left (leb lo f.key) (leb (end f) hi) (both_right (touched lo hi f) (leb lo f.key && leb (end f) hi) a)) in
        let m : Bool = ltb f.key lo && ltb hi (end f) in
        let k = ltb-true f.key lo (both_left (ltb f.key lo) (ltb hi (end f)) (both_left m (not (hole f)) (both_right (ltb lo hi) (m && not (hole f)) b))) in
        omega arith

    go : (a : Bool) → covered lo hi f ≡ a → (b : Bool) → split lo hi f ≡ b → (p : Bool) → cond (a && p) 1 0 + cond (b && p) 1 0 ≤ cond p 1 0
    go true x true y p = absurd (both_never x y)
    go true x false y p = omega arith
    go false x true y p = omega arith
    go false x false y true = omega arith
    go false x false y false = omega arith

-- the reference is of this extent
abbrev starts : ℕ → Ref → Bool
starts st r = eqb r.start st

module _ (g : Ground) (c : Change) (fair : Fair g c) (st : ℕ) where
  -- it is, and the extent is not in place
  abbrev other : Ref → Bool
  other = other_ref (extents_in_place g c) (starts st)

  -- an item of another extent than those in place names it
  other-names : (f : Fields) → cond (ref_passes other f) 1 0 ≤ cond (names st f) 1 0
  other-names f = go (named f) (any (eqb f.extent_start) (extents_in_place g c)) (eqb f.extent_start st)
    where
      go : (n a b : Bool) → cond (n && (not a && b)) 1 0 ≤ cond (n && b) 1 0
      go false a b = omega arith
      go true true true = omega arith
      go true true false = omega arith
      go true false b = omega arith

  -- the drops of the extent and its splits are at most its items before
  drops-most : length (drops_of st (drops g c)) + count (starts st) (kept_shares g c) ≤ naming st (before g c)
  drops-most =
      let a = count-apart ranged (λ (f : Fields). covered c.lo c.hi f && ref_passes other f) (λ (f : Fields). split c.lo c.hi f && ref_passes other f) (names st)
      (λ f u. omega (arith, covered-split c.lo c.hi f (ref_passes other f), other-names f)) (before g c) fair.sound.ranges in
      omega (arith, a, drops-number st (drops g c), drops-counted g c fair (starts st), shares-counted g c fair (starts st))

  -- an extent that has a drop is not in place
  dropped-elsewhere : 0 < length (drops_of st (drops g c)) → any (eqb st) (extents_in_place g c) ≡ false
  dropped-elsewhere h =
      let p : Fields → Bool = λ f. covered c.lo c.hi f && ref_passes other f in
      let y = any_some p ranged (before g c) (count-any p (before g c) (omega (arith, drops-number st (drops g c), drops-counted g c fair (starts st)))) fair.sound.ranges in
      let f : Fields = y.0 in
      let a : Bool = any (eqb f.extent_start) (extents_in_place g c) in
      let k : (not a && eqb f.extent_start st) ≡ true = both_right (named f) (other (ref_of f)) (both_right (covered c.lo c.hi f) (ref_passes other f) y.1) in
      rw (eqb-true f.extent_start st (both_right (not a) (eqb f.extent_start st) k)) at (not-true a (both_left (not a) (eqb f.extent_start st) k))

  -- an extent in place keeps an item
  pub in_place_stays : (limit : ℕ) (places : List ℕ) → any (eqb st) (extents_in_place g c) ≡ true → 0 < naming st (items_of (pieces_after g c limit places))
  unfolding pieces_after pieces_joined pieces_written
  in_place_stays limit places h =
      let i : 0 < naming st (items_in_place g c) =
      any-count (names st) (items_in_place g c)
      (any_where named (λ (x : Fields). eqb st x.extent_start) (names st) (λ x n e. both (named x) (eqb x.extent_start st) n (eq-eqb x.extent_start st (sym (eqb-true st x.extent_start e)))) (items_in_place g c) (written-named g c fair) (sym (listed-written g c st) ∙ h)) in
      let j = join_naming st (new_generation g) (sectors_in_place g c) (pieces_written g c) (omega (arith, insert_all-counts (names st) (items_in_place g c) (cut_items g c))) in
      omega (arith, insert_all-counts (names st) (new_items g places (wanted g c limit)) (pieces_joined g c))

  module _ (limit : ℕ) (pos : 0 < limit) (sectors : limit % g.sector ≡ 0) (places : List ℕ) (sound : places_sound g.rows places (wanted g c limit) ≡ true) where
    module _
        (z : change_refusal g c ≡ 0) (others : ℕ)
        (row : 0 < naming st (before g c) + others → (k : ℕ) × (r : Row) × (find st g.rows ≡ Some (k, r)) × (r.references ≡ naming st (before g c) + others)) where
      -- what is left of the balance where the extent is not in place and has a row
      balance_of : any (eqb st) (extents_in_place g c) ≡ false → (k : ℕ) (r : Row) → find st g.rows ≡ Some (k, r)
          → naming st (items_of (pieces_after g c limit places)) + length (drops_of st (drops g c)) ≡ naming st (before g c) + count (starts st) (kept_shares g c)
      balance_of n k r f =
          omega (
            arith,
            balance g c fair limit pos sectors places sound z (starts st),
            count_append (starts st) (kept_shares g c) (shares_compared g c),
            count_append (starts st) (compared_unrefs (extents_in_place g c) (before g c) (items_of (pieces_joined g c))) (unrefs g.rows (drops g c)),
            shares-other (extents_in_place g c) (before g c) (items_of (pieces_joined g c)) st n,
            unrefs-other (extents_in_place g c) (before g c) (items_of (pieces_joined g c)) st n,
            drops-lines (starts st) g.rows (drops g c) fair.sound.table (drops-zero g c fair z),
            drops-number st (drops g c),
            adds-elsewhere g c fair limit pos sectors places sound st k r f,
          )

      -- a release: no reference is left
      pub released-only : 0 < count (λ (r : Ref). eqb r.start st) (plan_of g c limit places).releases
          → (0 < naming st (before g c) + others) × (naming st (items_of (pieces_after g c limit places)) + others ≡ 0)
      released-only h =
          let l = line-drops st (drops g c) g.rows fair.sound.table h in
          let m = drops-most in
          let d : 0 < length (drops_of st (drops g c)) = l.4 in
          let some : 0 < naming st (before g c) + others = omega arith in
          let r = row some in
          let e : l.1 ≡ r.1 = same_row _ _ _ _ l.2 r.2 in
          let n : l.1.references ≡ naming st (before g c) + others = rw e r.3 in
          (some, omega (arith, l.3, balance_of (dropped-elsewhere d) l.0 l.1 l.2))
        where
          same_row : (j k : ℕ) (a b : Row) → find st g.rows ≡ Some (j, a) → find st g.rows ≡ Some (k, b) → a ≡ b
          same_row j k a b p q =
              let e : (j, a) ≡ (k, b) = cc in
              ap (λ (x : ℕ × Row). x.1) e

      -- no reference is left: a release
      pub released-always : every (λ (h : InLeaf). eqb h.shared 0) g.in_leaves ≡ true
          → 0 < naming st (before g c) + others → naming st (items_of (pieces_after g c limit places)) + others ≡ 0
          → 0 < count (λ (r : Ref). eqb r.start st) (plan_of g c limit places).releases
      released-always unmarked some gone = go (any (eqb st) (extents_in_place g c)) refl
        where
          unshared : every (λ (d : InLeaf). eqb d.shared 0) (drops g c) ≡ true
          unshared = unfold drops in every-keep (λ (d : InLeaf). eqb d.shared 0) _ g.in_leaves unmarked

          go : (b : Bool) → any (eqb st) (extents_in_place g c) ≡ b → 0 < count (λ (r : Ref). eqb r.start st) (plan_of g c limit places).releases
          go true e = absurd (omega (arith, in_place_stays limit places e))
          go false e =
              let r = row some in
              let b = balance_of e r.0 r.1 r.2 in
              let m = drops-most in
              drops-line st (drops g c) g.rows fair.sound.table r.0 r.1 r.2 (omega (arith, r.3)) (omega arith) unshared
