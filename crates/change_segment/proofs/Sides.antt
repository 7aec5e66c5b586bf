-- A change's lists by its two sectors: which are written in place, and which take a new extent. Assumes nothing.
use mathlib.Core.Path.{◌≡◌, refl, ap, ap₂, ◌∙◌, sym}
use mathlib.Core.Bool.{not}
use mathlib.Core.List.{List, [], ◌∷◌, ◌++◌, map, flat_map, append-nil}
use mathlib.Core.Option as maybe
use mathlib.Core.Option.{none, some}
use Prim.Native.Nat.{ℕ, ◌+◌, ◌≤◌}
use native.Mathlib.Omega.{arith}
use lib.ListN.{length}
use Rattle.std.specs.Prelude.{Option, Some, None, option_to_list}
use Rattle.records.specs.Select.{keep}
use Rattle.records.proofs.Lists.{flat_append}
use Rattle.records.proofs.Picks.{keep_append}
use Rattle.ref_def.specs.Drops.{InLeaf}
use Rattle.change_def.specs.declared.Rewrite.{Rewrite}
use Rattle.change_def.specs.declared.RangeChange.{RangeChange}
use Rattle.change_def.specs.Rewrites.{Ground, when_held, preallocated, in_place, each_in_place, rewritten_anew}
use Rattle.change_def.specs.Changes.{Change, new_items, writes_anew, wanted}
use Rattle.change_def.specs.Raw.{change_of}
use Rattle.change_rewrites.specs.declared.in_place.InPlace.{InPlace}
use Rattle.change_rewrites.specs.Raw.{holder_leaf, in_place_of, said_in_place}
use Rattle.change_segment.specs.declared.Parts.{Parts}
use Rattle.change_segment.specs.Raw.{Parting}
use Rattle.change_segment.specs.Sides.{anew, front_new, back_new, sides, wanted_at, new_at, write_at, one_if, places_at}

-- ---- one sector

-- one thing of a write in place, and of the rewrite with its holder
abbrev pub by_held : {A : Type 0} → (Rewrite → InLeaf → A) → InPlace → A
by_held f w = f w.rewrite (holder_leaf w.holder)

spread : {A : Type 0} → (Rewrite → InLeaf → A) → maybe.Option (Rewrite × InLeaf) → List A
spread f none = []
spread f (some q) = f q.0 q.1 ∷ []

-- the rewrite, if it is not in place
remains : Option Rewrite → maybe.Option (Rewrite × InLeaf) → Option Rewrite
remains r none = r
remains r (some q) = None

module _ (g : Ground) where
  each_said : {A : Type 0} (f : Rewrite → InLeaf → A) (w : Option InPlace) → spread f (said_in_place w) ≡ map (by_held f) (option_to_list w)
  unfolding spread
  each_said f None = refl
  each_said f (Some w) = refl

  each_of : {A : Type 0} (f : Rewrite → InLeaf → A) (r : Option Rewrite) → each_in_place g f (option_to_list r) ≡ spread f (in_place_of g.in_leaves r)
  unfolding spread each_in_place flat_map
  each_of f None = refl
  each_of {A} f (Some r) = go (preallocated g r)
    where
      go : (m : maybe.Option InLeaf) → when_held m [] (λ (h : InLeaf). f r h ∷ []) ++ [] ≡ spread f (when_held m none (λ (h : InLeaf). some (r, h)))
      go none = refl
      go (some h) = refl

  remains_said : (r : Option Rewrite) (w : Option InPlace) → remains r (said_in_place w) ≡ anew r w
  unfolding remains
  remains_said r None = refl
  remains_said r (Some w) = refl

  remains_of : (r : Option Rewrite) → rewritten_anew g (option_to_list r) ≡ option_to_list (remains r (in_place_of g.in_leaves r))
  unfolding remains keep
  remains_of None = refl
  remains_of (Some r) = go (preallocated g r) refl
    where
      go : (m : maybe.Option InLeaf) → preallocated g r ≡ m → rewritten_anew g (r ∷ []) ≡ option_to_list (remains (Some r) (when_held m none (λ (h : InLeaf). some (r, h))))
      go none e = rw e refl
      go (some h) e = rw e refl

  module _ (r : Option Rewrite) (w : Option InPlace) (e : said_in_place w ≡ in_place_of g.in_leaves r) where
    each_one : {A : Type 0} (f : Rewrite → InLeaf → A) → each_in_place g f (option_to_list r) ≡ map (by_held f) (option_to_list w)
    each_one f = each_of f r ∙ ap (spread f) (sym e) ∙ each_said f w

    anew_one : rewritten_anew g (option_to_list r) ≡ option_to_list (anew r w)
    anew_one = remains_of r ∙ ap (λ (m : maybe.Option (Rewrite × InLeaf)). option_to_list (remains r m)) (sym e) ∙ ap option_to_list (remains_said r w)

-- ---- both

-- the four cases of two sides
pub ways :
    {A : Type 0} (P : Option A → Option A → Type 0)
    → ((x y : A) → P (Some x) (Some y))
    → ((x : A) → P (Some x) None)
    → ((y : A) → P None (Some y))
    → P None None
    → (a b : Option A) → P a b
ways P tt tf ft ff (Some x) (Some y) = tt x y
ways P tt tf ft ff (Some x) None = tf x
ways P tt tf ft ff None (Some y) = ft y
ways P tt tf ft ff None None = ff

each_append : {A : Type 0} (g : Ground) (f : Rewrite → InLeaf → A) (l m : List Rewrite) → each_in_place g f (l ++ m) ≡ each_in_place g f l ++ each_in_place g f m
unfolding each_in_place
each_append g f l m = flat_append (λ (r : Rewrite). when_held (preallocated g r) [] (λ (h : InLeaf). f r h ∷ [])) l m

module _ (g : Ground) (c : RangeChange) (size : ℕ) (p : Parts) (part : Parting g.in_leaves c p) where
  abbrev ch : Change
  ch = change_of c size

  abbrev a : Option Rewrite
  a = front_new c p

  abbrev b : Option Rewrite
  b = back_new c p

  pub each_sides : {A : Type 0} (f : Rewrite → InLeaf → A) → each_in_place g f ch.rewrites ≡ sides p.front p.back (by_held f) (by_held f)
  each_sides {A} f =
      each_append g f (option_to_list c.front) (option_to_list c.back)
      ∙ ap₂ (λ (l m : List A). l ++ m) (each_one g c.front p.front part.front f) (each_one g c.back p.back part.back f)

  pub anew_sides : rewritten_anew g ch.rewrites ≡ option_to_list a ++ option_to_list b
  anew_sides =
      keep_append (λ (r : Rewrite). not (in_place g r)) (option_to_list c.front) (option_to_list c.back)
      ∙ ap₂ (λ (l m : List Rewrite). l ++ m) (anew_one g c.front p.front part.front) (anew_one g c.back p.back part.back)

  -- new extents, with the place of each side
  pub wanted-sides : (limit : ℕ) → wanted g ch limit ≡ sides a b (wanted_at g) (wanted_at g)
  unfolding flat_map
  wanted-sides limit =
      rw (anew_sides, append-nil)
      (ways (λ a b. map (wanted_at g) (option_to_list a ++ option_to_list b) ≡ sides a b (wanted_at g) (wanted_at g)) (λ x y. refl) (λ x. refl) (λ y. refl) refl a b)

  module _ (limit x y : ℕ) where
    pub news-sides : new_items g (places_at c p x y) (wanted g ch limit) ≡ sides a b (new_at g x) (new_at g y)
    unfolding new_items
    news-sides =
        rw (wanted-sides limit)
        (ways
        (λ a b. new_items g (sides a b (λ (r : Rewrite). x) (λ (r : Rewrite). y)) (sides a b (wanted_at g) (wanted_at g)) ≡ sides a b (new_at g x) (new_at g y))
        (λ r q. refl) (λ r. refl) (λ q. refl) refl a b)

    pub writes-sides : writes_anew (places_at c p x y) (rewritten_anew g ch.rewrites) ≡ sides a b (write_at x) (write_at y)
    unfolding writes_anew
    writes-sides =
        rw anew_sides
        (ways
        (λ a b. writes_anew (sides a b (λ (r : Rewrite). x) (λ (r : Rewrite). y)) (option_to_list a ++ option_to_list b) ≡ sides a b (write_at x) (write_at y))
        (λ r q. refl) (λ r. refl) (λ q. refl) refl a b)

-- ---- how many

pub sides-few : {A B : Type 0} (a b : Option A) (f h : A → B) → length (sides a b f h) ≤ 2
sides-few a b f h = ways (λ a b. length (sides a b f h) ≤ 2) (λ x y. omega arith) (λ x. omega arith) (λ y. omega arith) (omega arith) a b

pub sides-count : {A B : Type 0} (a b : Option A) (f h : A → B) → one_if a + one_if b ≡ length (sides a b f h)
sides-count a b f h = ways (λ a b. one_if a + one_if b ≡ length (sides a b f h)) (λ x y. refl) (λ x. refl) (λ y. refl) refl a b
