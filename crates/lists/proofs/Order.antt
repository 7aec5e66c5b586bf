-- The check of a list's order by one pass equals the definition, which speaks of every two records. Assumes nothing.
use mathlib.Core.Path.{◌≡◌, refl, ap, ◌∙◌}
use mathlib.Core.Bool.{Bool, true, false, ◌&&◌, ◌||◌, not}
use mathlib.Core.List.{List, [], ◌∷◌}
use mathlib.Core.Logic.{⊎_elim}
use Prim.Native.Nat.{ℕ, ◌+◌, ◌<◌, ◌≤◌, ◌^◌}
use native.Mathlib.Omega.{arith}
use lib.Dec.{leb, ltb, eqb}
use borrow.Author.Tests.{ltb-true, leb-true, le-leb, lt-ltb}
use Rattle.std.specs.Prelude.{Option, Some, None}
use Rattle.records.specs.Stages.{unless, first, every, pairs}
use Rattle.records.specs.Raw.{sieve}
use Rattle.records.proofs.Tests.{both, both_left, both_right, either, either_left, same, implied, imply, first-unless, every_map, every_both}
use Rattle.item.specs.Items.{Fields, ranged, end}
use Rattle.lists.specs.declared.Last.{Last}
use Rattle.lists.specs.Lists.{range_sound, item_sound, rises, apart, list_kept}
use Rattle.lists.specs.Raw.{begin, is_above, follows, turn, next}

-- ---- one item

-- a sound range's three bounds
pub record Ranged (f : Fields) : Type 0 where
  pub some : 1 ≤ f.length
  pub ends : end f ≤ 2 ^ 63
  pub fits : f.position + f.length < 2 ^ 64

pub range_facts : (f : Fields) → range_sound f ≡ true → Ranged f
range_facts f h =
    let some : Bool = leb 1 f.length in
    let ends : Bool = leb (end f) (2 ^ 63) in
    let fits : Bool = ltb (f.position + f.length) (2 ^ 64) in
    record {
      some = leb-true 1 f.length (both_left some ends (both_left (some && ends) fits h));
      ends = leb-true (end f) (2 ^ 63) (both_right some ends (both_left (some && ends) fits h));
      fits = ltb-true (f.position + f.length) (2 ^ 64) (both_right (some && ends) fits h);
    }

pub item-ranged : (file : ℕ) (f : Fields) → item_sound file f ≡ true → ranged f ≡ true → Ranged f
item-ranged file f h r = range_facts f (implied (ranged f) (range_sound f) (both_right (eqb f.file file && eqb f.key_type 108) (not (ranged f) || range_sound f) h) r)

-- ---- a turn

module _ (a : Last) (r s : Fields) where
  -- what follows r, which follows a, follows a, has a higher key than r, and lies apart from it
  key-after : follows (next a r) s ≡ true → r.key < s.key
  key-after h = ltb-true r.key s.key (both_left (ltb r.key s.key) (not (ranged s) || leb (next a r).end s.key) h)

  end_after : follows (next a r) s ≡ true → ranged s ≡ true → (next a r).end ≤ s.key
  end_after h q = leb-true (next a r).end s.key (implied (ranged s) (leb (next a r).end s.key) (both_right (ltb r.key s.key) (not (ranged s) || leb (next a r).end s.key) h) q)

  next-end : ranged r ≡ true → (next a r).end ≡ end r
  next-end q = rw q refl

  next-same : ranged r ≡ false → (next a r).end ≡ a.end
  next-same q = rw q refl

  pub follows-before : follows a r ≡ true → follows (next a r) s ≡ true → follows a s ≡ true
  follows-before h k =
      both (is_above a.key s.key) (not (ranged s) || leb a.end s.key)
      (above a.key (both_left (is_above a.key r.key) (not (ranged r) || leb a.end r.key) h))
      (imply (ranged s) (leb a.end s.key) (λ q. go (ranged r) refl q))
    where
      above : (last : Option ℕ) → is_above last r.key ≡ true → is_above last s.key ≡ true
      above None p = refl
      above (Some last) p = let q = ltb-true last r.key p in lt-ltb last s.key (omega (arith, key-after k))

      go : (b : Bool) → ranged r ≡ b → ranged s ≡ true → leb a.end s.key ≡ true
      go true e q =
          let p = leb-true a.end r.key (implied (ranged r) (leb a.end r.key) (both_right (is_above a.key r.key) (not (ranged r) || leb a.end r.key) h) e) in
          le-leb a.end s.key (omega (arith, key-after k))
      go false e q = le-leb a.end s.key (omega (arith, end_after k q, next-same e))

  pub rises-after : follows (next a r) s ≡ true → rises r s ≡ true
  rises-after k = lt-ltb r.key s.key (key-after k)

  pub apart-after : follows (next a r) s ≡ true → apart r s ≡ true
  apart-after k =
      imply (ranged r) (not (ranged s) || (leb (end r) s.key || leb (end s) r.key))
      (λ p. imply (ranged s) (leb (end r) s.key || leb (end s) r.key)
      (λ q. either_left (leb (end r) s.key) (leb (end s) r.key) (le-leb (end r) s.key (omega (arith, end_after k q, next-end p)))))

  -- and the other way round
  pub follows-after : (file : ℕ) → item_sound file s ≡ true → follows a s ≡ true → rises r s ≡ true → apart r s ≡ true → follows (next a r) s ≡ true
  follows-after file sound h k d =
      both (ltb r.key s.key) (not (ranged s) || leb (next a r).end s.key) k
      (imply (ranged s) (leb (next a r).end s.key) (λ q. go (ranged r) refl q))
    where
      go : (b : Bool) → ranged r ≡ b → ranged s ≡ true → leb (next a r).end s.key ≡ true
      go true e q =
          let lt = ltb-true r.key s.key k in
          let some = (item-ranged file s sound q).some in
          le-leb (next a r).end s.key
          (⊎_elim
          (λ x. let p = leb-true (end r) s.key x in omega (arith, next-end e))
          (λ x. let p = leb-true (end s) r.key x in absurd (omega arith))
          (either (leb (end r) s.key) (leb (end s) r.key)
          (implied (ranged s) (leb (end r) s.key || leb (end s) r.key)
          (implied (ranged r) (not (ranged s) || (leb (end r) s.key || leb (end s) r.key)) d e) q)))
      go false e q =
          let p = leb-true a.end s.key (implied (ranged s) (leb a.end s.key) (both_right (is_above a.key s.key) (not (ranged s) || leb a.end s.key) h) q) in
          le-leb (next a r).end s.key (omega (arith, next-same e))

-- ---- the pass

-- what the pass accepts of the records from a state on
abbrev passes : ℕ → Last → List Fields → Bool
passes file a fs = every (item_sound file) fs && (every (follows a) fs && (pairs rises fs && pairs apart fs))

record Passes (file : ℕ) (a : Last) (fs : List Fields) : Type 0 where
  sound : every (item_sound file) fs ≡ true
  follow : every (follows a) fs ≡ true
  rise : pairs rises fs ≡ true
  part : pairs apart fs ≡ true

told : (file : ℕ) (a : Last) (fs : List Fields) → passes file a fs ≡ true → Passes file a fs
told file a fs h =
    let s : Bool = every (item_sound file) fs in
    let f : Bool = every (follows a) fs in
    let r : Bool = pairs rises fs in
    let p : Bool = pairs apart fs in
    let h1 : (f && (r && p)) ≡ true = both_right s (f && (r && p)) h in
    let h2 : (r && p) ≡ true = both_right f (r && p) h1 in
    record { sound = both_left s (f && (r && p)) h; follow = both_left f (r && p) h1; rise = both_left r p h2; part = both_right r p h2 }

tell : (file : ℕ) (a : Last) (fs : List Fields) → Passes file a fs → passes file a fs ≡ true
tell file a fs h = rw (h.sound, h.follow, h.rise, h.part) refl

module _ (file : ℕ) (a : Last) (r : Fields) (rs : List Fields) where
  step-on : item_sound file r ≡ true → follows a r ≡ true → Passes file (next a r) rs → Passes file a (r ∷ rs)
  unfolding every pairs
  step-on s f h =
      record {
        sound = both (item_sound file r) (every (item_sound file) rs) s h.sound;
        follow = both (follows a r) (every (follows a) rs) f (every_map (follows (next a r)) (follows a) (λ x. follows-before a r x f) rs h.follow);
        rise = both (every (rises r) rs) (pairs rises rs) (every_map (follows (next a r)) (rises r) (rises-after a r) rs h.follow) h.rise;
        part = both (every (apart r) rs) (pairs apart rs) (every_map (follows (next a r)) (apart r) (apart-after a r) rs h.follow) h.part;
      }

  -- what s must pass to follow r
  abbrev four : Fields → Bool
  four x = (item_sound file x && follows a x) && (rises r x && apart r x)

  four-follows : (x : Fields) → four x ≡ true → follows (next a r) x ≡ true
  four-follows x h =
      let p : (item_sound file x && follows a x) ≡ true = both_left (item_sound file x && follows a x) (rises r x && apart r x) h in
      let q : (rises r x && apart r x) ≡ true = both_right (item_sound file x && follows a x) (rises r x && apart r x) h in
      follows-after a r x file (both_left (item_sound file x) (follows a x) p) (both_right (item_sound file x) (follows a x) p) (both_left (rises r x) (apart r x) q) (both_right (rises r x) (apart r x) q)

  step_back : Passes file a (r ∷ rs) → Passes file (next a r) rs
  unfolding every pairs
  step_back h =
      let s : every (item_sound file) rs ≡ true = both_right (item_sound file r) (every (item_sound file) rs) h.sound in
      let f : every (follows a) rs ≡ true = both_right (follows a r) (every (follows a) rs) h.follow in
      let u : every (rises r) rs ≡ true = both_left (every (rises r) rs) (pairs rises rs) h.rise in
      let d : every (apart r) rs ≡ true = both_left (every (apart r) rs) (pairs apart rs) h.part in
      record {
        sound = s;
        follow = every_map four (follows (next a r)) four-follows rs (every_both (λ x. item_sound file x && follows a x) (λ x. rises r x && apart r x) rs (every_both (item_sound file) (follows a) rs s f) (every_both (rises r) (apart r) rs u d));
        rise = both_right (every (rises r) rs) (pairs rises rs) h.rise;
        part = both_right (every (apart r) rs) (pairs apart rs) h.part;
      }

  step : ((item_sound file r && follows a r) && passes file (next a r) rs) ≡ passes file a (r ∷ rs)
  step =
      same ((item_sound file r && follows a r) && passes file (next a r) rs) (passes file a (r ∷ rs))
      (λ h.
      let p : (item_sound file r && follows a r) ≡ true = both_left (item_sound file r && follows a r) (passes file (next a r) rs) h in
      let q : passes file (next a r) rs ≡ true = both_right (item_sound file r && follows a r) (passes file (next a r) rs) h in
      tell file a (r ∷ rs) (step-on (both_left (item_sound file r) (follows a r) p) (both_right (item_sound file r) (follows a r) p) (told file (next a r) rs q)))
      (λ h.
      let p : Passes file a (r ∷ rs) = told file a (r ∷ rs) h in
      both (item_sound file r && follows a r) (passes file (next a r) rs) (both (item_sound file r) (follows a r) (heads_sound p) (heads_follow p)) (tell file (next a r) rs (step_back p)))
    where
      heads_sound : Passes file a (r ∷ rs) → item_sound file r ≡ true
      heads_sound p = unfold every in both_left (item_sound file r) (every (item_sound file) rs) p.sound

      heads_follow : Passes file a (r ∷ rs) → follows a r ≡ true
      heads_follow p = unfold every in both_left (follows a r) (every (follows a) rs) p.follow

pass : (file : ℕ) (a : Last) (fs : List Fields) → sieve (turn file) next a fs ≡ unless (passes file a fs) 2
unfolding sieve
pass file a [] = unfold every pairs in refl
pass file a (r ∷ rs) =
    ap (first (turn file a r)) (pass file (next a r) rs)
    ∙ first-unless (item_sound file r && follows a r) (passes file (next a r) rs) 2 (λ e. omega arith)
    ∙ ap (λ (b : Bool). unless b 2) (step file a r rs)

every-begin : (fs : List Fields) → every (follows begin) fs ≡ true
unfolding every
every-begin [] = refl
every-begin (f ∷ fs) = both (follows begin f) (every (follows begin) fs) (imply (ranged f) (leb 0 f.key) (λ q. le-leb 0 f.key (omega arith))) (every-begin fs)

-- the whole pass
pub pass_all : (file : ℕ) (fs : List Fields) → sieve (turn file) next begin fs ≡ unless (list_kept file fs) 2
unfolding list_kept
pass_all file fs = pass file begin fs ∙ rw (every-begin fs) refl
