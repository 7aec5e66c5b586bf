-- What inserted items show. Assumes nothing.
use mathlib.Core.Path.{◌≡◌, refl, ◌∙◌}
use mathlib.Core.Bool.{Bool, true, false, cond, ◌&&◌, not}
use mathlib.Core.List.{List, [], ◌∷◌}
use mathlib.Core.Logic.{⊎_elim}
use Prim.Native.Nat.{ℕ, ◌≤◌, ◌<◌}
use native.Mathlib.Omega.{arith}
use lib.Dec.{leb, ltb}
use borrow.Author.Tests.{leb-true, ltb-true}
use Rattle.records.specs.Stages.{every, pairs}
use Rattle.records.proofs.Tests.{both_left, both_right, every_map}
use Rattle.item.specs.Items.{Fields, ranged, hole, end}
use Rattle.lists.specs.Lists.{apart}
use mathlib.Core.Option.{none, some}
use Rattle.cut_def.specs.Mappings.{holds, mapping_in, mapping}
use Rattle.cut_def.specs.Pieces.{Piece, items_of, insert, insert_all}
use Rattle.cut_def.proofs.Mappings.{insert_misses, insert_all_misses, insert_hits}
use Rattle.cut_def.proofs.Kept.{apart_facts}

-- of two that lie apart no more than one holds an offset
apart-holds : (o : ℕ) (f g : Fields) → apart f g ≡ true → holds o f ≡ true → holds o g ≡ false
apart-holds o f g a h = go (holds o g) refl
  where
    ends : (x : Fields) → holds o x ≡ true → (ranged x ≡ true) × (x.key ≤ o) × (o < end x)
    ends x e =
        let n = both_left (ranged x) (not (hole x)) (both_left (ranged x && not (hole x)) (leb x.key o && ltb o (end x)) e) in
        let r = both_right (ranged x && not (hole x)) (leb x.key o && ltb o (end x)) e in
        (n, leb-true x.key o (both_left (leb x.key o) (ltb o (end x)) r), ltb-true o (end x) (both_right (leb x.key o) (ltb o (end x)) r))

    go : (b : Bool) → holds o g ≡ b → b ≡ false
    go false e = refl
    go true e =
        let x = ends f h in
        let y = ends g e in
        absurd (⊎_elim (λ p. omega (arith, x.2, y.1)) (λ p. omega (arith, x.1, y.2)) (apart_facts f g a x.0 y.0))

-- where nothing was shown, items that lie apart show what they show by themselves
pub insert_all_shows : (o : ℕ) (xs : List Fields) (ps : List Piece) → pairs apart xs ≡ true → mapping o (items_of ps) ≡ none → mapping o (items_of (insert_all xs ps)) ≡ mapping o xs
unfolding insert_all mapping pairs
insert_all_shows o [] ps a n = n
insert_all_shows o (x ∷ xs) ps a n = go (holds o x) refl (insert_all_shows o xs (insert x ps) (both_right (every (apart x) xs) (pairs apart xs) a))
  where
    go : (b : Bool) → holds o x ≡ b → (mapping o (items_of (insert x ps)) ≡ none → mapping o (items_of (insert_all xs (insert x ps))) ≡ mapping o xs)
        → mapping o (items_of (insert_all xs (insert x ps))) ≡ cond b (some (mapping_in o x)) (mapping o xs)
    go true e ih =
        insert_all_misses o xs (insert x ps)
        (every_map (apart x) (λ y. not (holds o y)) (λ y p. rw (apart-holds o x y p e) refl) xs (both_left (every (apart x) xs) (pairs apart xs) a))
        ∙ insert_hits o x ps e n
    go false e ih = ih (insert_misses o x ps e ∙ n)
