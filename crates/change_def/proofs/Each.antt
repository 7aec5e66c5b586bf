-- Tests over the lists that a change makes: items in place, new items, and pieces of holes. Assumes nothing.
use mathlib.Core.Path.{◌≡◌, refl, ap}
use mathlib.Core.Bool.{Bool, true, false, cond, ◌&&◌, ◌||◌, false≢true}
use mathlib.Core.List.{List, [], ◌∷◌, ◌++◌, map, flat_map}
use mathlib.Core.Option.{Option, none, some}
use Prim.Native.Nat.{ℕ, zero, suc, ◌+◌, ◌<◌, ◌≤◌}
use native.Mathlib.Omega.{arith}
use lib.Dec.{eqb}
use lib.ListN.{length}
use borrow.Author.Tests.{eqb-true, eqb-false}
use Rattle.records.specs.Stages.{every, pairs}
use Rattle.records.specs.Select.{any, count}
use Rattle.records.proofs.Tests.{both, both_left, both_right, either_left, either_right}
use Rattle.records.proofs.Lists.{every_flat, pairs-flat, any_flat}
use Rattle.item.specs.Items.{Fields, regular_item, of_kind}
use Rattle.ref_def.specs.Drops.{InLeaf}
use Rattle.plan_def.specs.Plans.{Add}
use Rattle.plan_def.specs.Places.{Wanted, placed}
use Rattle.change_def.specs.Preallocs.{Stretch, nth_piece, pieces_from}
use Rattle.change_def.specs.declared.Rewrite.{Rewrite}
use Rattle.change_def.specs.Rewrites.{Ground, new_generation, when_held, preallocated, each_in_place}
use Rattle.change_def.specs.Changes.{new_items}

-- ---- of the rewrites in place

module _ {A : Type 0} (g : Ground) (f : Rewrite → InLeaf → A) where
  pub each_every : (u : Rewrite → Bool) (q : A → Bool) → ((r : Rewrite) (h : InLeaf) → u r ≡ true → preallocated g r ≡ some h → q (f r h) ≡ true) → (rs : List Rewrite) → every u rs ≡ true → every q (each_in_place g f rs) ≡ true
  unfolding each_in_place
  each_every u q k rs h = every_flat u (λ r. when_held (preallocated g r) [] (λ (h : InLeaf). f r h ∷ [])) q (λ r e. go r e (preallocated g r) refl) rs h
    where
      go : (r : Rewrite) → u r ≡ true → (o : Option InLeaf) → preallocated g r ≡ o → every q (when_held o [] (λ (h : InLeaf). f r h ∷ [])) ≡ true
      go r e none p = unfold every in refl
      go r e (some h) p = unfold every in both (q (f r h)) true (k r h e p) refl

  pub each_pairs : (u : Rewrite → Bool) (s : Rewrite → Rewrite → Bool) (q : A → A → Bool)
      → ((a c : Rewrite) (h k : InLeaf) → u a ≡ true → u c ≡ true → preallocated g a ≡ some h → preallocated g c ≡ some k → s a c ≡ true → q (f a h) (f c k) ≡ true)
      → (rs : List Rewrite) → every u rs ≡ true → pairs s rs ≡ true → pairs q (each_in_place g f rs) ≡ true
  unfolding each_in_place
  each_pairs u s q t rs h k =
      pairs-flat u s (λ r. when_held (preallocated g r) [] (λ (h : InLeaf). f r h ∷ [])) q
      (λ r e. own r (preallocated g r)) (λ a c ua uc e. two a c ua uc e (preallocated g a) (preallocated g c) refl refl) rs h k
    where
      own : (r : Rewrite) (o : Option InLeaf) → pairs q (when_held o [] (λ (h : InLeaf). f r h ∷ [])) ≡ true
      own r none = unfold pairs in refl
      own r (some h) = unfold pairs every in refl

      two : (a c : Rewrite) → u a ≡ true → u c ≡ true → s a c ≡ true → (o p : Option InLeaf) → preallocated g a ≡ o → preallocated g c ≡ p
          → every (λ (x : A). every (q x) (when_held p [] (λ (h : InLeaf). f c h ∷ []))) (when_held o [] (λ (h : InLeaf). f a h ∷ [])) ≡ true
      two a c ua uc e none p x y = unfold every in refl
      two a c ua uc e (some h) none x y = unfold every in refl
      two a c ua uc e (some h) (some k) x y = unfold every in both (q (f a h) (f c k) && true) true (both (q (f a h) (f c k)) true (t a c h k ua uc x y e) refl) refl

  pub each_any : (p u : Rewrite → Bool) (q : A → Bool) → ((r : Rewrite) (h : InLeaf) → p r ≡ true → u r ≡ true → preallocated g r ≡ some h → q (f r h) ≡ true)
      → ((r : Rewrite) → p r ≡ true → (h : InLeaf) × (preallocated g r ≡ some h)) → (rs : List Rewrite) → any p rs ≡ true → every u rs ≡ true → any q (each_in_place g f rs) ≡ true
  unfolding each_in_place
  each_any p u q k s rs h e =
      any_flat p u (λ r. when_held (preallocated g r) [] (λ (h : InLeaf). f r h ∷ [])) q
      (λ r x y. let z = s r x in rw z.1 (unfold any in either_left (q (f r z.0)) false (k r z.0 x y z.1))) rs h e

-- a number of what each makes
pub each_map : {A B : Type 0} (g : Ground) (f : Rewrite → InLeaf → A) (k : A → B) (rs : List Rewrite) → each_in_place g (λ (r : Rewrite) (h : InLeaf). k (f r h)) rs ≡ map k (each_in_place g f rs)
unfolding each_in_place flat_map
each_map g f k [] = refl
each_map {A} {B} g f k (r ∷ rs) = go (preallocated g r) (each_map g f k rs)
  where
    go : (o : Option InLeaf) → each_in_place g (λ (r : Rewrite) (h : InLeaf). k (f r h)) rs ≡ map k (each_in_place g f rs)
        → when_held o [] (λ (h : InLeaf). k (f r h) ∷ []) ++ each_in_place g (λ (r : Rewrite) (h : InLeaf). k (f r h)) rs ≡ map k (when_held o [] (λ (h : InLeaf). f r h ∷ []) ++ each_in_place g f rs)
    go none e = e
    go (some h) e = ap (λ (l : List B). k (f r h) ∷ l) e

-- ---- of the extents wanted

-- the add and the item at a place
abbrev pub add_at : ℕ → Wanted → Add
add_at p w = record { start = p; length = w.length; key = w.key }

module _ (g : Ground) where
  abbrev pub new_item : ℕ → Wanted → Fields
  new_item p w = of_kind (regular_item g.file w.key (new_generation g) p w.length) w.kind

  module _ (v : Add → Bool) (u : Wanted → Bool) where
    pub new-every : (q : Fields → Bool) → ((p : ℕ) (w : Wanted) → v (add_at p w) ≡ true → u w ≡ true → q (new_item p w) ≡ true)
        → (ps : List ℕ) (ws : List Wanted) → every v (placed ps ws) ≡ true → every u ws ≡ true → every q (new_items g ps ws) ≡ true
    unfolding every new_items placed
    new-every q f [] ws h k = refl
    new-every q f (p ∷ ps) [] h k = refl
    new-every q f (p ∷ ps) (w ∷ ws) h k =
        both (q (new_item p w)) (every q (new_items g ps ws)) (f p w (both_left (v (add_at p w)) (every v (placed ps ws)) h) (both_left (u w) (every u ws) k))
        (new-every q f ps ws (both_right (v (add_at p w)) (every v (placed ps ws)) h) (both_right (u w) (every u ws) k))

    pub new-any : (q : Fields → Bool) → ((p : ℕ) (w : Wanted) → v (add_at p w) ≡ true → u w ≡ true → q (new_item p w) ≡ true)
        → (ps : List ℕ) (ws : List Wanted) → length ps ≡ length ws → every v (placed ps ws) ≡ true → any u ws ≡ true → any q (new_items g ps ws) ≡ true
    unfolding every any new_items placed
    new-any q f ps [] n h k = absurd (false≢true k)
    new-any q f [] (w ∷ ws) n h k = absurd (omega arith)
    new-any q f (p ∷ ps) (w ∷ ws) n h k =
        go (u w) refl k (λ j. new-any q f ps ws (omega arith) (both_right (v (add_at p w)) (every v (placed ps ws)) h) j)
      where
        go : (b : Bool) → u w ≡ b → (b || any u ws) ≡ true → (any u ws ≡ true → any q (new_items g ps ws) ≡ true) → (q (new_item p w) || any q (new_items g ps ws)) ≡ true
        go true e k s = either_left (q (new_item p w)) (any q (new_items g ps ws)) (f p w (both_left (v (add_at p w)) (every v (placed ps ws)) h) e)
        go false e k s = either_right (q (new_item p w)) (any q (new_items g ps ws)) (s k)

    pub new-count : (q : Fields → Bool) (t : Add → Bool) → ((p : ℕ) (w : Wanted) → v (add_at p w) ≡ true → u w ≡ true → q (new_item p w) ≡ t (add_at p w))
        → (ps : List ℕ) (ws : List Wanted) → every v (placed ps ws) ≡ true → every u ws ≡ true → count q (new_items g ps ws) ≡ count t (placed ps ws)
    unfolding every count new_items placed
    new-count q t f [] ws h k = refl
    new-count q t f (p ∷ ps) [] h k = refl
    new-count q t f (p ∷ ps) (w ∷ ws) h k =
        rw (f p w (both_left (v (add_at p w)) (every v (placed ps ws)) h) (both_left (u w) (every u ws) k))
        (ap (λ (n : ℕ). cond (t (add_at p w)) 1 0 + n) (new-count q t f ps ws (both_right (v (add_at p w)) (every v (placed ps ws)) h) (both_right (u w) (every u ws) k)))

  pub new-pairs : (r : Wanted → Wanted → Bool) (q : Fields → Fields → Bool) → ((p s : ℕ) (w x : Wanted) → r w x ≡ true → q (new_item p w) (new_item s x) ≡ true)
      → (ps : List ℕ) (ws : List Wanted) → pairs r ws ≡ true → pairs q (new_items g ps ws) ≡ true
  unfolding every pairs new_items
  new-pairs r q f [] ws h = refl
  new-pairs r q f (p ∷ ps) [] h = refl
  new-pairs r q f (p ∷ ps) (w ∷ ws) h =
      both (every (q (new_item p w)) (new_items g ps ws)) (pairs q (new_items g ps ws)) (rest ps ws (both_left (every (r w) ws) (pairs r ws) h))
      (new-pairs r q f ps ws (both_right (every (r w) ws) (pairs r ws) h))
    where
      rest : (ps : List ℕ) (ws : List Wanted) → every (r w) ws ≡ true → every (q (new_item p w)) (new_items g ps ws) ≡ true
      rest [] ws h = refl
      rest (s ∷ ps) [] h = refl
      rest (s ∷ ps) (x ∷ ws) h = both (q (new_item p w) (new_item s x)) (every (q (new_item p w)) (new_items g ps ws)) (f p s w x (both_left (r w x) (every (r w) ws) h)) (rest ps ws (both_right (r w x) (every (r w) ws) h))

-- ---- of the pieces of a hole

module _ (limit : ℕ) (hole : Stretch) where
  pub pieces-every : (q : Stretch → Bool) (n k : ℕ) → ((i : ℕ) → n ≤ i → i < n + k → q (nth_piece limit hole i) ≡ true) → every q (pieces_from limit hole n k) ≡ true
  unfolding every pieces_from
  pieces-every q n zero f = refl
  pieces-every q n (suc k) f =
      both (q (nth_piece limit hole n)) (every q (pieces_from limit hole (n + 1) k)) (f n (omega arith) (omega arith)) (pieces-every q (n + 1) k (λ i a b. f i (omega arith) (omega arith)))

  pub pieces-pairs : (q : Stretch → Stretch → Bool) (n k : ℕ) → ((i j : ℕ) → n ≤ i → i < j → j < n + k → q (nth_piece limit hole i) (nth_piece limit hole j) ≡ true) → pairs q (pieces_from limit hole n k) ≡ true
  unfolding pairs pieces_from
  pieces-pairs q n zero f = refl
  pieces-pairs q n (suc k) f =
      both (every (q (nth_piece limit hole n)) (pieces_from limit hole (n + 1) k)) (pairs q (pieces_from limit hole (n + 1) k))
      (pieces-every (q (nth_piece limit hole n)) (n + 1) k (λ j a b. f n j (omega arith) (omega arith) (omega arith)))
      (pieces-pairs q (n + 1) k (λ i j a b d. f i j (omega arith) b (omega arith)))

  pub pieces-any : (q : Stretch → Bool) (n k i : ℕ) → n ≤ i → i < n + k → q (nth_piece limit hole i) ≡ true → any q (pieces_from limit hole n k) ≡ true
  unfolding any pieces_from
  pieces-any q n zero i a b h = absurd (omega arith)
  pieces-any q n (suc k) i a b h =
      go (eqb n i) refl (λ d. pieces-any q (n + 1) k i d (omega arith) h)
    where
      go : (t : Bool) → eqb n i ≡ t → (n + 1 ≤ i → any q (pieces_from limit hole (n + 1) k) ≡ true) → (q (nth_piece limit hole n) || any q (pieces_from limit hole (n + 1) k)) ≡ true
      go true e f = either_left (q (nth_piece limit hole n)) (any q (pieces_from limit hole (n + 1) k)) (rw (eqb-true n i e) h)
      go false e f = let d = eqb-false n i e in either_right (q (nth_piece limit hole n)) (any q (pieces_from limit hole (n + 1) k)) (f (omega arith))
