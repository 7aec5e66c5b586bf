-- What one turn of each loop does. Assumes nothing.
use mathlib.Core.Path.{◌≡◌, refl, ap, ◌∙◌, sym}
use mathlib.Core.Bool.{Bool, true, false, cond, not, ◌&&◌}
use mathlib.Core.List.{List, [], ◌∷◌, ◌++◌}
use Prim.Native.Nat.{ℕ, suc, ◌+◌, ◌-◌, ◌<◌, ◌≤◌}
use native.Mathlib.Omega.{arith}
use lib.Dec.{eqb, ltb}
use lib.ListN.{length-map, length, length-drop, get_or, take, drop, set, set, drop_of_length-le}
use lib.Seq.{take_all}
use lib.Pointwise.{pointwise}
use borrow.Author.Tests.{ltb-false}
use native.Mathlib.Numerals.{one-add}
use Rattle.std.specs.Prelude.{Option, Some, None}
use Rattle.std.specs.Option.{unwrap_or}
use Rattle.std.specs.List.{position, position_or_len}
use Rattle.std.proofs.lemmas.List.{at_drop_more, drop-map}
use Rattle.ref_def.proofs.Compared.{minus_nil}
use Rattle.records.specs.Select.{only, keep}
use Rattle.records.proofs.Lists.{pairs-drop}
use Rattle.records.proofs.Counts.{keep-length, count-length}
use Rattle.item.specs.Items.{Fields}
use Rattle.cut_def.specs.Refs.{Ref, ref_of}
use Rattle.ref_def.specs.Compared.{among, ref_before, refs_among, minus}
use Rattle.plan_def.specs.Outputs.{ref_numbers}
use Rattle.plan_lines.specs.Lines.{Laid}
use Rattle.plan_lines.proofs.Laws.{Going, going_first, going-turn, going_done}
use Rattle.ref_sort.specs.Order.{upward, ordered, pair_ref, pair_refs}
use Rattle.ref_sort.proofs.Order.{sorted-ordered}
use Rattle.ref_sort.proofs.Filling.{Filling, filling_over, filling_room, filling_turn}
use Rattle.ref_minus.specs.Walk.{refs_named, starts_with, past}
use Rattle.ref_minus.proofs.Minus.{minus-turn, past-ordered}

-- ---- the references of a list

module _ (extents : List ℕ) (f : Fields) (fs : List Fields) where
  named_over : false ≡ among extents f → refs_named extents (f ∷ fs) ≡ refs_named extents fs
  unfolding keep
  named_over e = rw (← e) refl

  named_more : true ≡ among extents f → refs_named extents (f ∷ fs) ≡ ref_of f ∷ refs_named extents fs
  unfolding keep
  named_more e = rw (← e) refl

pub named-few : (extents : List ℕ) (fs : List Fields) → length (refs_named extents fs) ≤ length fs
named-few extents fs = omega (arith, length-map (keep (among extents) fs) ref_of, keep-length (among extents) fs, count-length (among extents) fs)

-- a turn of the loop that collects them
module _ (extents : List ℕ) (fs : List Fields) (n : ℕ) (buf : List (ℕ × ℕ)) (more : List Fields) (g : Filling (refs_named extents fs) n buf (refs_named extents more)) (f : Fields) (rest : List Fields) (e : more ≡ f ∷ rest) where
  pub collect_over : false ≡ among extents f → Filling (refs_named extents fs) n buf (refs_named extents rest)
  collect_over t = filling_over _ _ _ _ g _ (ap (refs_named extents) e ∙ named_over extents f rest t)

  module _ (t : true ≡ among extents f) where
    next : refs_named extents more ≡ ref_of f ∷ refs_named extents rest
    next = ap (refs_named extents) e ∙ named_more extents f rest t

    pub collect_room : n < length fs
    collect_room = omega (arith, filling_room _ _ _ _ g _ _ next, named-few extents fs)

    pub collect_turn : n < length buf → (p : ℕ × ℕ) → pair_ref p ≡ ref_of f → Filling (refs_named extents fs) (n + 1) (set buf n p) (refs_named extents rest)
    collect_turn h p q = filling_turn _ _ _ _ g _ _ next h p q

pub named_none : (extents : List ℕ) (fs : List Fields) → fs ≡ [] → refs_named extents fs ≡ []
unfolding keep
named_none extents fs e = rw e refl

-- ---- pairs of numbers, compared

-- y is not before x
abbrev pub not_before : ℕ × ℕ → ℕ × ℕ → Bool
not_before x y = upward (pair_ref x) (pair_ref y)

pub skipped : (x : ℕ × ℕ) (l : List (ℕ × ℕ)) → past (pair_ref x) (pair_refs l) ≡ pair_refs (drop (position_or_len (not_before x) l) l)
unfolding past
skipped x [] = refl
skipped x (y ∷ l) = go (ref_before (pair_ref y) (pair_ref x)) (skipped x l)
  where
    go : (b : Bool) → past (pair_ref x) (pair_refs l) ≡ pair_refs (drop (position_or_len (not_before x) l) l)
        → cond b (past (pair_ref x) (pair_refs l)) (pair_ref y ∷ pair_refs l) ≡ pair_refs (drop (cond (not (not b)) (1 + position_or_len (not_before x) l) 0) (y ∷ l))
    go true ih = rw one-add ih
    go false ih = refl

not_past : (x : ℕ × ℕ) (l : List (ℕ × ℕ)) → position_or_len (not_before x) l ≤ length l
not_past x [] = omega arith
not_past x (y ∷ l) = go (not_before x y) (not_past x l)
  where
    go : (b : Bool) → position_or_len (not_before x) l ≤ length l → cond (not b) (1 + position_or_len (not_before x) l) 0 ≤ suc (length l)
    go true h = omega arith
    go false h = omega arith

-- what a search and its default say
pub skip_at : (x : ℕ × ℕ) (l : List (ℕ × ℕ)) (o : Option ℕ) (k : ℕ) → o ≡ position (not_before x) l → k ≡ unwrap_or o (length l) → pair_refs (take (length l - k) (drop k l)) ≡ past (pair_ref x) (pair_refs l)
skip_at x l o k e d =
    let n : ℕ = position_or_len (not_before x) l in
    let at : k ≡ n = d ∙ ap (λ (o : Option ℕ). unwrap_or o (length l)) e ∙ go n (ltb n (length l)) refl (not_past x l) in
    ap pair_refs (take_all (length l - k) (drop k l) (omega (arith, length-drop k l))) ∙ rw at (sym (skipped x l))
  where
    go : (n : ℕ) (b : Bool) → ltb n (length l) ≡ b → n ≤ length l → unwrap_or (cond b (Some n) None) (length l) ≡ n
    go n true t h = refl
    go n false t h = omega (arith, ltb-false n (length l) t)

-- a prefix of one pair
abbrev pub same_pair : ℕ × ℕ → ℕ × ℕ → Bool
same_pair a b = eqb a.0 b.0 && eqb a.1 b.1

stripped : (x : ℕ × ℕ) (l : List (ℕ × ℕ)) → pointwise same_pair (take 1 l) (x ∷ []) ≡ starts_with (pair_ref x) (pair_refs l)
stripped x [] = refl
stripped x (y ∷ l) = go (same_pair y x)
  where
    go : (b : Bool) → (b && true) ≡ b
    go true = refl
    go false = refl

-- ---- the walk along both

module _ (xs ys : List (ℕ × ℕ)) (n : ℕ) (out₀ : List ℕ) where
  -- what is left from pair i of the one and of the other
  pub record Walking (i m : ℕ) (left : List (ℕ × ℕ)) (out : List ℕ) : Type 0 where
    pub few : m ≤ n + i
    pub up : ordered (pair_refs left) ≡ true
    pub going : Going ref_numbers 2 n (minus (pair_refs xs) (pair_refs ys)) out₀ m (minus (pair_refs (drop i xs)) (pair_refs left)) out

  pub walk_first : ordered (pair_refs ys) ≡ true → Walking 0 n ys out₀
  walk_first o = record { few = omega arith; up = o; going = going_first ref_numbers 2 _ _ _ }

  module _
      (i m : ℕ) (left : List (ℕ × ℕ)) (out : List ℕ) (w : Walking i m left out) (ox : ordered (pair_refs xs) ≡ true)
      (h : i < length xs) (x : ℕ × ℕ) (e : x ≡ get_or xs i (0, 0)) (zs : List (ℕ × ℕ)) (p : pair_refs zs ≡ past (pair_ref x) (pair_refs left)) where
    abbrev t : List Ref
    t = pair_refs (drop (i + 1) xs)

    first : pair_refs (drop i xs) ≡ pair_ref x ∷ t
    first = at_drop_more pair_refs xs i (0, 0) h ∙ ap (λ (y : ℕ × ℕ). pair_ref y ∷ t) (sym e)

    first-up : ordered (pair_ref x ∷ t) ≡ true
    first-up = rw (drop-map pair_ref i xs, first) at (pairs-drop upward i (pair_refs xs) ox)

    split : (b : Bool) → b ≡ starts_with (pair_ref x) (pair_refs zs) → minus (pair_refs (drop i xs)) (pair_refs left) ≡ only (not b) (pair_ref x) ++ minus t (drop (cond b 1 0) (pair_refs zs))
    split b q = ap (λ (l : List Ref). minus l (pair_refs left)) first ∙ minus-turn (pair_ref x) t (pair_refs left) (pair_refs zs) b first-up w.up p q

    up-left : ordered (pair_refs zs) ≡ true
    up-left = rw p (past-ordered (pair_ref x) (pair_refs left) w.up)

    pub walk_met : pointwise same_pair (take 1 zs) (x ∷ []) ≡ true → (behind : List (ℕ × ℕ)) → behind ≡ drop 1 zs → Walking (i + 1) m behind out
    walk_met q behind d =
        let r : pair_refs behind ≡ drop 1 (pair_refs zs) = ap pair_refs d ∙ sym (drop-map pair_ref 1 zs) in
        let s : minus (pair_refs (drop i xs)) (pair_refs left) ≡ minus t (pair_refs behind) = split true (sym q ∙ stripped x zs) ∙ ap (minus t) (sym r) in
        record {
          few = omega (arith, w.few);
          up = rw r (pairs-drop upward 1 (pair_refs zs) up-left);
          going = rw s at w.going;
        }

    pub walk_put : pointwise same_pair (take 1 zs) (x ∷ []) ≡ false → (m' : ℕ) (out' : List ℕ) → Laid ref_numbers 2 m (pair_ref x ∷ []) out m' out' → Walking (i + 1) m' zs out'
    walk_put q m' out' l =
        let s : minus (pair_refs (drop i xs)) (pair_refs left) ≡ (pair_ref x ∷ []) ++ minus t (pair_refs zs) = split false (sym q ∙ stripped x zs) in
        record {
          few = omega (arith, w.few, l.lines);
          up = up-left;
          going = going-turn ref_numbers 2 n (minus (pair_refs xs) (pair_refs ys)) out₀ m (pair_ref x ∷ []) (minus t (pair_refs zs)) out m' out' (rw s at w.going) l;
        }

  pub walk_done : (i m : ℕ) (left : List (ℕ × ℕ)) (out : List ℕ) → length xs ≤ i → Walking i m left out → Laid ref_numbers 2 n (minus (pair_refs xs) (pair_refs ys)) out₀ m out
  walk_done i m left out h w =
      let s : minus (pair_refs (drop i xs)) (pair_refs left) ≡ [] = ap (λ (l : List (ℕ × ℕ)). minus (pair_refs l) (pair_refs left)) (drop_of_length-le xs {i = i} h) ∙ minus_nil (pair_refs left) in
      going_done ref_numbers 2 n (minus (pair_refs xs) (pair_refs ys)) out₀ m out (rw s at w.going)

-- ---- two lists of references, as they were sorted

pub among-rises : (extents : List ℕ) (fs : List Fields) (l : List Ref) → l ≡ refs_among extents fs → ordered l ≡ true
among-rises extents fs l e = rw e (sorted-ordered (refs_named extents fs))
