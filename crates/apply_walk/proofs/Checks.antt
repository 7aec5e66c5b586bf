-- The checks of edits and of the result in one pass equal the definitions. Assumes nothing.
use mathlib.Core.Path.{◌≡◌, refl, ap, ap₂, ◌∙◌, sym}
use mathlib.Core.Bool.{Bool, true, false, ◌&&◌, ◌||◌}
use mathlib.Core.List.{List, [], ◌∷◌}
use Prim.Native.Nat.{ℕ, suc, ◌/◌, ◌≤◌}
use native.Mathlib.Omega.{arith}
use lib.Dec.{eqb, ltb}
use lib.ListN.{length, get_or}
use Rattle.std.specs.List.{list_all}
use Rattle.std.proofs.lemmas.List.{get_or-take}
use Rattle.std.specs.Simd.{first_chunks}
use Rattle.records.specs.Records.{records}
use Rattle.apply_def.specs.Lent.{tag_sound}
use Rattle.apply_def.proofs.Chunks.{records_read, all_read}
use borrow.Author.Tests.{ltb-true, lt-ltb}
use Rattle.records.specs.Stages.{unless, first, every, pairs, neighbours}
use Rattle.records.specs.Raw.{sieve}
use Rattle.records.proofs.Neighbours.{neighbours-mapped}
use Rattle.records.proofs.Tests.{both, both_left, both_right, same, first-unless}
use Rattle.item.specs.Items.{Fields}
use Rattle.lists.specs.declared.Last.{Last}
use Rattle.lists.specs.Lists.{item_sound, list_kept, whole_sectors}
use Rattle.lists.specs.Raw.{begin, follows, next}
use Rattle.lists.proofs.Order.{pass_all}
use Rattle.cut_def.specs.Edits.{key_of}
use Rattle.cut_def.proofs.Applied.{Up, rising, rising_up, up_rising}
use Rattle.apply_def.specs.Apply.{edits_rise}
use Rattle.plan_def.specs.ReadBack.{edit_in, edits_in}
use Rattle.apply_walk.specs.Checks.{result_turn, result_sound}
use Rattle.apply_walk.proofs.Merge.{edit_own}

-- ---- tags

abbrev pub tag-of : List ℕ → Bool
tag-of s = eqb (get_or s 0 0) 1 || eqb (get_or s 0 0) 2

-- each chunk says put or delete if each record does
pub tags-all : (s : List ℕ) → list_all tag-of (first_chunks 71 (length s / 71) s) ≡ every (λ (b : Bool). b) (records tag_sound 71 s)
tags-all s = all_read tag_sound (λ (b : Bool). b) _ ∙ ap (every (λ (b : Bool). b)) (records_read tag_sound 71 (λ t. rw (get_or-take 71 t 0 0 (omega arith)) refl) s)

-- ---- keys that rise

module _ {A : Type 0} (key : A → ℕ) where
  abbrev below : A → A → Bool
  below a c = ltb (key a) (key c)

  near_up : (b : ℕ) (a : A) (l : List A) → b ≤ key a → neighbours below (a ∷ l) ≡ true → Up key b (a ∷ l)
  unfolding neighbours
  near_up b a [] h r = (h, tt)
  near_up b a (c ∷ l) h r = (h, near_up (suc (key a)) c l (ltb-true (key a) (key c) (both_left (below a c) (neighbours below (c ∷ l)) r)) (both_right (below a c) (neighbours below (c ∷ l)) r))

  up_near : (b : ℕ) (l : List A) → Up key b l → neighbours below l ≡ true
  unfolding neighbours
  up_near b [] u = refl
  up_near b (a ∷ []) u = refl
  up_near b (a ∷ (c ∷ l)) u = both (below a c) (neighbours below (c ∷ l)) (lt-ltb (key a) (key c) u.1.0) (up_near (suc (key a)) (c ∷ l) u.1)

  -- every two rise if every two neighbours do
  pub rising_near : (l : List A) → neighbours below l ≡ rising key l
  rising_near l = same (neighbours below l) (rising key l) (go l) (λ h. up_near 0 l (rising_up key l h))
    where
      go : (l : List A) → neighbours below l ≡ true → rising key l ≡ true
      go [] h = unfold pairs in refl
      go (a ∷ l) h = up_rising key 0 (a ∷ l) (near_up 0 a l (omega arith) h)

-- ---- edits that rise

-- each two neighbours among the chunks, so each two edits
abbrev pub rise_in : List ℕ → List ℕ → Bool
rise_in s t = edits_rise (edit_in s) (edit_in t)

pub rises-all : (s : List ℕ) → neighbours rise_in (first_chunks 71 (length s / 71) s) ≡ pairs edits_rise (edits_in s)
rises-all s =
    sym (neighbours-mapped edits_rise edit_in (first_chunks 71 (length s / 71) s))
    ∙ ap (neighbours edits_rise) (records_read edit_in 71 edit_own s)
    ∙ rising_near key_of (edits_in s)

-- ---- the check of the result

-- a pass of tests that all give one number
module _ {S A : Type 0} (p : S → A → Bool) (q : A → Bool) (g : S → A → S) (n : ℕ) (h : n ≡ 0 → ⊥) where
  passed : S → List A → Bool
  passed a [] = true
  passed a (r ∷ l) = p a r && passed (g a r) l

  -- is such a test itself
  sieve-one : (a : S) (l : List A) → sieve (λ a r. unless (p a r) n) g a l ≡ unless (passed a l) n
  unfolding sieve passed
  sieve-one a [] = refl
  sieve-one a (r ∷ l) = ap (first (unless (p a r) n)) (sieve-one (g a r) l) ∙ first-unless (p a r) (passed (g a r) l) n h

  -- with a second test of each record
  sieve-two : (a : S) (l : List A) → sieve (λ a r. first (unless (p a r) n) (unless (q r) n)) g a l ≡ unless (passed a l && every q l) n
  unfolding sieve every passed
  sieve-two a [] = refl
  sieve-two a (r ∷ l) =
      ap₂ first (first-unless (p a r) (q r) n h) (sieve-two (g a r) l)
      ∙ first-unless (p a r && q r) (passed (g a r) l && every q l) n h
      ∙ ap (λ (t : Bool). unless t n) (four (p a r) (q r) (passed (g a r) l) (every q l))
    where
      four : (x y b e : Bool) → ((x && y) && (b && e)) ≡ ((x && b) && (y && e))
      four true true b e = refl
      four true false true e = refl
      four true false false e = refl
      four false y b e = refl

pub result_all : (number sector : ℕ) (fs : List Fields) → sieve (result_turn number sector) next begin fs ≡ unless (result_sound number sector fs) 2
result_all number sector fs =
    let p = λ (a : Last) (f : Fields). item_sound number f && follows a f in
    let e : Bool = every (whole_sectors sector) fs in
    let two : ◌≡◌ {A = ℕ} 2 0 → ⊥ = λ z. omega arith in
    sieve-two p (whole_sectors sector) next 2 two begin fs
    ∙ sym (first-unless _ e 2 two)
    ∙ ap (λ (n : ℕ). first n (unless e 2)) (sym (sieve-one p (whole_sectors sector) next 2 two begin fs) ∙ pass_all number fs)
    ∙ first-unless (list_kept number fs) e 2 two
