-- Laws of chains: what a walk along one takes, counts and lays. Assumes nothing.
use mathlib.Core.Path.{◌≡◌, refl, ap, ap₂, ◌∙◌, sym}
use mathlib.Core.Bool.{Bool, true, false, cond, ◌&&◌, and-true, and-false}
use mathlib.Core.List.{List, [], ◌∷◌, map}
use Prim.Native.Nat.{ℕ, zero, suc, ◌+◌, ◌<◌, ◌≤◌}
use native.Mathlib.Omega.{arith}
use native.Mathlib.Decide.{ℕ_discrete}
use lib.Dec.{eqb}
use lib.ListN.{length, get_or, set, drop, length-map, length-drop}
use lib.Seq.{drop-cons, get_or-set_same, get_or-set_other}
use borrow.Author.Tests.{eq-eqb, ne_eqb, eqb-true}
use Rattle.records.specs.Stages.{every}
use Rattle.ref_def.specs.Drops.{InLeaf}
use Rattle.records.proofs.Lists.{every-mapped}
use Rattle.records.proofs.Tests.{every-at}
use Rattle.drop_chains.specs.Chains.{along, number_behind, From, Onward, byte_in, unshared, freed, unref_lines, release_lines}

module _ {A : Type 0} where
  along_yes : (nexts : List ℕ) (i h : ℕ) (x : A) (l : List A) → h ≡ i + 1 → along nexts i h (x ∷ l) ≡ x ∷ along nexts (i + 1) (get_or nexts i 0) l
  unfolding along
  along_yes nexts i h x l e = rw (eq-eqb h (i + 1) e) refl

  along_no : (nexts : List ℕ) (i h : ℕ) (x : A) (l : List A) → (h ≡ i + 1 → ⊥) → along nexts i h (x ∷ l) ≡ along nexts (i + 1) h l
  unfolding along
  along_no nexts i h x l n = rw (ne_eqb h (i + 1) n) refl

  pub along_nil : (nexts : List ℕ) (l : List A) (i : ℕ) → along nexts i 0 l ≡ []
  unfolding along
  along_nil nexts [] i = refl
  along_nil nexts (x ∷ l) i = along_no nexts i 0 x l (λ e. omega arith) ∙ along_nil nexts l (i + 1)

  -- items in front of the next one are none of the chain
  along_skip : (nexts : List ℕ) (l : List A) (k i m h : ℕ) → m ≡ i + k → ((h ≡ 0 → ⊥) → m < h) → along nexts i h l ≡ along nexts m h (drop k l)
  unfolding along
  along_skip nexts l zero i m h e n = let q : i ≡ m = omega arith in ap (λ (j : ℕ). along nexts j h l) q
  along_skip nexts [] (suc k) i m h e n = refl
  along_skip nexts (x ∷ l) (suc k) i m h e n = along_no nexts i h x l (λ q. let y = n (λ z. omega arith) in omega arith) ∙ along_skip nexts l k (i + 1) m h (omega arith) n

  -- the item at index j, and then those at the number that stands there
  pub along_at : (nexts : List ℕ) (l : List A) (n j : ℕ) (x : A) → j < length l → From (j + 1) n (get_or nexts j 0)
      → along nexts 0 (j + 1) l ≡ get_or l j x ∷ along nexts 0 (get_or nexts j 0) l
  along_at nexts l n j x b g =
      let next : suc j ≡ j + 1 = omega arith in
      along_skip nexts l j 0 j (j + 1) (omega arith) (λ y. omega arith)
      ∙ ap (along nexts j (j + 1)) (drop-cons l j x b ∙ ap (λ (k : ℕ). get_or l j x ∷ drop k l) next)
      ∙ along_yes nexts j (j + 1) (get_or l j x) (drop (j + 1) l) refl
      ∙ ap (λ (r : List A). get_or l j x ∷ r) (sym (along_skip nexts l (j + 1) 0 (j + 1) (get_or nexts j 0) (omega arith) (λ y. (g y).0)))

  -- a number at an item in front of a chain is not read
  along_later : (nexts : List ℕ) (l : List A) (j v i h : ℕ) → j < i → along (set nexts j v) i h l ≡ along nexts i h l
  unfolding along
  along_later nexts [] j v i h m = refl
  along_later nexts (x ∷ l) j v i h m =
      ap₂ (λ (p q : List A). cond (eqb h (i + 1)) (x ∷ p) q)
      (ap (λ (k : ℕ). along (set nexts j v) (i + 1) k l) (get_or-set_other nexts j i v 0 (λ e. omega arith)) ∙ along_later nexts l j v (i + 1) (get_or nexts i 0) (omega arith))
      (along_later nexts l j v (i + 1) h (omega arith))

  pub along_set : (nexts : List ℕ) (l : List A) (n j v h : ℕ) → From (j + 1) n h → along (set nexts j v) 0 h l ≡ along nexts 0 h l
  along_set nexts l n j v h g =
      along_skip (set nexts j v) l (j + 1) 0 (j + 1) h (omega arith) (λ y. (g y).0)
      ∙ along_later nexts (drop (j + 1) l) j v (j + 1) h (omega arith)
      ∙ sym (along_skip nexts l (j + 1) 0 (j + 1) h (omega arith) (λ y. (g y).0))

  -- no more than there are
  pub along_few : (nexts : List ℕ) (l : List A) (i h : ℕ) → length (along nexts i h l) ≤ length l
  unfolding along
  along_few nexts [] i h = omega arith
  along_few nexts (x ∷ l) i h = go (eqb h (i + 1)) (along_few nexts l (i + 1) (get_or nexts i 0)) (along_few nexts l (i + 1) h)
    where
      go : (b : Bool) → length (along nexts (i + 1) (get_or nexts i 0) l) ≤ length l → length (along nexts (i + 1) h l) ≤ length l
          → length (cond b (x ∷ along nexts (i + 1) (get_or nexts i 0) l) (along nexts (i + 1) h l)) ≤ suc (length l)
      go true p q = omega arith
      go false p q = omega arith

-- ---- the number behind a list's items

module _ {A : Type 0} where
  behind_yes : (nexts : List ℕ) (i h : ℕ) (x : A) (l : List A) → h ≡ i + 1 → number_behind nexts i h (x ∷ l) ≡ number_behind nexts (i + 1) (get_or nexts i 0) l
  unfolding number_behind
  behind_yes nexts i h x l e = rw (eq-eqb h (i + 1) e) refl

  behind_no : (nexts : List ℕ) (i h : ℕ) (x : A) (l : List A) → (h ≡ i + 1 → ⊥) → number_behind nexts i h (x ∷ l) ≡ number_behind nexts (i + 1) h l
  unfolding number_behind
  behind_no nexts i h x l n = rw (ne_eqb h (i + 1) n) refl

  -- no chain has ended
  pub behind_nil : (nexts : List ℕ) (l : List A) (i : ℕ) → number_behind nexts i 0 l ≡ 0
  unfolding number_behind
  behind_nil nexts [] i = refl
  behind_nil nexts (x ∷ l) i = behind_no nexts i 0 x l (λ e. omega arith) ∙ behind_nil nexts l (i + 1)

  behind_skip : (nexts : List ℕ) (l : List A) (k i m h : ℕ) → m ≡ i + k → ((h ≡ 0 → ⊥) → m < h) → number_behind nexts i h l ≡ number_behind nexts m h (drop k l)
  unfolding number_behind
  behind_skip nexts l zero i m h e n = let q : i ≡ m = omega arith in ap (λ (j : ℕ). number_behind nexts j h l) q
  behind_skip nexts [] (suc k) i m h e n = refl
  behind_skip nexts (x ∷ l) (suc k) i m h e n = behind_no nexts i h x l (λ q. let y = n (λ z. omega arith) in omega arith) ∙ behind_skip nexts l k (i + 1) m h (omega arith) n

  -- a chain that ends behind them is none, or starts at one of them
  behind_from : (nexts : List ℕ) (l : List A) (i h : ℕ) → number_behind nexts i h l ≡ 0 → From i (i + length l) h
  unfolding number_behind
  behind_from nexts [] i h e z = absurd (z e)
  behind_from nexts (x ∷ l) i h e z = elim (ℕ_discrete h (i + 1)) [
    | yes q ↦ (omega arith, omega arith)
    | no q ↦ let y = behind_from nexts l (i + 1) h (sym (behind_no nexts i h x l q) ∙ e) z in (omega (arith, y.0), omega (arith, y.1))
  ]

  -- where each number leads onward, every chain ends
  pub behind_ends : (nexts : List ℕ) (n : ℕ) → Onward n nexts → (l : List A) (i h : ℕ) → n ≡ i + length l → From i n h → number_behind nexts i h l ≡ 0
  unfolding number_behind
  behind_ends nexts n o [] i h e g = elim (ℕ_discrete h 0) [
    | yes q ↦ q
    | no q ↦ absurd (omega (arith, (g q).0, (g q).1))
  ]
  behind_ends nexts n o (x ∷ l) i h e g = elim (ℕ_discrete h (i + 1)) [
    | yes q ↦ behind_yes nexts i h x l q ∙ behind_ends nexts n o l (i + 1) (get_or nexts i 0) (omega arith) (o i (omega arith))
    | no q ↦ behind_no nexts i h x l q ∙ behind_ends nexts n o l (i + 1) h (omega arith) (λ z. (omega (arith, (g z).0), (g z).1))
  ]

  -- from the item at index j on it goes on at the number that stands there
  behind_at : (nexts : List ℕ) (l : List A) (j : ℕ) (x : A) → j < length l → number_behind nexts 0 (j + 1) l ≡ number_behind nexts (j + 1) (get_or nexts j 0) (drop (j + 1) l)
  behind_at nexts l j x b =
      let next : suc j ≡ j + 1 = omega arith in
      behind_skip nexts l j 0 j (j + 1) (omega arith) (λ y. omega arith)
      ∙ ap (number_behind nexts j (j + 1)) (drop-cons l j x b ∙ ap (λ (k : ℕ). get_or l j x ∷ drop k l) next)
      ∙ behind_yes nexts j (j + 1) (get_or l j x) (drop (j + 1) l) refl

  behind_past : (nexts : List ℕ) (l : List A) (n j h : ℕ) → From (j + 1) n h → number_behind nexts 0 h l ≡ number_behind nexts (j + 1) h (drop (j + 1) l)
  behind_past nexts l n j h g = behind_skip nexts l (j + 1) 0 (j + 1) h (omega arith) (λ y. (g y).0)

  -- so that number is of none or of a later item, where the chain ends
  pub behind_on : (nexts : List ℕ) (l : List A) (j : ℕ) (x : A) → j < length l → number_behind nexts 0 (j + 1) l ≡ 0
      → From (j + 1) (length l) (get_or nexts j 0) × (number_behind nexts 0 (get_or nexts j 0) l ≡ 0)
  behind_on nexts l j x b e =
      let q = sym (behind_at nexts l j x b) ∙ e in
      let g : From (j + 1) (length l) (get_or nexts j 0) = λ z. let y = behind_from nexts (drop (j + 1) l) (j + 1) (get_or nexts j 0) q z in (y.0, omega (arith, y.1, length-drop (j + 1) l)) in
      (g, behind_past nexts l (length l) j (get_or nexts j 0) g ∙ q)

  -- a number at an item in front of a chain is not read
  behind_later : (nexts : List ℕ) (l : List A) (j v i h : ℕ) → j < i → number_behind (set nexts j v) i h l ≡ number_behind nexts i h l
  unfolding number_behind
  behind_later nexts [] j v i h m = refl
  behind_later nexts (x ∷ l) j v i h m =
      ap₂ (λ (p q : ℕ). cond (eqb h (i + 1)) p q)
      (ap (λ (k : ℕ). number_behind (set nexts j v) (i + 1) k l) (get_or-set_other nexts j i v 0 (λ e. omega arith)) ∙ behind_later nexts l j v (i + 1) (get_or nexts i 0) (omega arith))
      (behind_later nexts l j v (i + 1) h (omega arith))

  pub behind_set : (nexts : List ℕ) (l : List A) (n j v h : ℕ) → From (j + 1) n h → number_behind (set nexts j v) 0 h l ≡ number_behind nexts 0 h l
  behind_set nexts l n j v h g = behind_past (set nexts j v) l n j h g ∙ behind_later nexts (drop (j + 1) l) j v (j + 1) h (omega arith) ∙ sym (behind_past nexts l n j h g)

  -- an item that is put in front of a chain
  pub behind_put : (nexts : List ℕ) (l : List A) (n j h : ℕ) (x : A) → j < length l → j < length nexts → From (j + 1) n h → number_behind (set nexts j h) 0 (j + 1) l ≡ number_behind nexts 0 h l
  behind_put nexts l n j h x b m g =
      behind_at (set nexts j h) l j x b
      ∙ ap (λ (k : ℕ). number_behind (set nexts j h) (j + 1) k (drop (j + 1) l)) (get_or-set_same nexts j h 0 m)
      ∙ sym (behind_past (set nexts j h) l n j h g)
      ∙ behind_set nexts l n j h h g

-- ---- whether drops free their extent, from their shared bytes

-- one of them is of a shared leaf
pub freed_held : (references : ℕ) (bytes : List ℕ) (i b : ℕ) → i < length bytes → b ≡ get_or bytes i b → (b ≡ 0 → ⊥) → false ≡ freed references bytes
freed_held references bytes i b h e n = go (every unshared bytes) refl
  where
    go : (u : Bool) → every unshared bytes ≡ u → false ≡ freed references bytes
    go true q = absurd (n (e ∙ eqb-true (get_or bytes i b) 0 (every-at unshared bytes q i b h)))
    go false q = rw q (sym (and-false (eqb references (length bytes))))

-- none is
pub freed_count : (references : ℕ) (bytes : List ℕ) (n : ℕ) → every unshared bytes ≡ true → n ≡ length bytes → eqb references n ≡ freed references bytes
freed_count references bytes n q e = rw (q, e) (sym (and-true (eqb references (length bytes))))

-- as the definition has it, from the drops
pub freed_released : (references : ℕ) (ds : List InLeaf) → freed references (map byte_in ds) ≡ (eqb references (length ds) && every (λ (d : InLeaf). eqb d.shared 0) ds)
freed_released references ds = ap₂ (λ (n : ℕ) (b : Bool). eqb references n && b) (length-map ds byte_in) (every-mapped unshared byte_in ds)

-- ---- lines of one kind that there are none of

module _ (references : ℕ) (ds : List InLeaf) (b : Bool) (e : b ≡ freed references (map byte_in ds)) where
  pub freed_unrefs : b ≡ true → unref_lines references ds ≡ []
  freed_unrefs h = rw (sym e ∙ h) refl

  pub held_releases : b ≡ false → release_lines references ds ≡ []
  held_releases h = rw (sym e ∙ h) refl
