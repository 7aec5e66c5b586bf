-- Naming one of two extents, of which 0 is none. Assumes nothing.
use mathlib.Core.Path.{◌≡◌, refl}
use mathlib.Core.Bool.{Bool, true, false, ◌&&◌, not}
use mathlib.Core.List.{List, [], ◌∷◌, ◌++◌}
use Prim.Native.Nat.{ℕ}
use lib.Dec.{eqb}
use borrow.Author.Tests.{eqb-true}
use Rattle.records.specs.Select.{only, any}
use Rattle.item.specs.Items.{Fields, ranged, hole}
use Rattle.cut_def.specs.Refs.{names}
use Rattle.ref_def.specs.Compared.{among}

-- no item names the extent at 0
names-zero : (f : Fields) → names 0 f ≡ false
names-zero f = go (ranged f) (hole f)
  where
    go : (r h : Bool) → ((r && not h) && h) ≡ false
    go false h = refl
    go true true = refl
    go true false = refl

-- so 0 stands for none
pub among_none : (f : Fields) → among [] f ≡ among (0 ∷ 0 ∷ []) f
unfolding any
among_none f = rw (names-zero f) refl

pub among_one : (s : ℕ) (f : Fields) → among (s ∷ []) f ≡ among (s ∷ 0 ∷ []) f
unfolding any
among_one s f = rw (names-zero f) refl

-- those of two starts that are not 0
abbrev pub nonzero : ℕ → ℕ → List ℕ
nonzero one two = only (not (eqb one 0)) one ++ only (not (eqb two 0)) two

-- for a test that 0 does not pass they are as good as the two
pub any_nonzero : (p : ℕ → Bool) → p 0 ≡ false → (one two : ℕ) → any p (one ∷ two ∷ []) ≡ any p (nonzero one two)
unfolding any
any_nonzero p z one two = go (eqb one 0) (eqb two 0) refl refl
  where
    none : (s : ℕ) → eqb s 0 ≡ true → p s ≡ false
    none s e = rw (eqb-true s 0 e) z

    go : (a b : Bool) → eqb one 0 ≡ a → eqb two 0 ≡ b → any p (one ∷ two ∷ []) ≡ any p (only (not a) one ++ only (not b) two)
    go true true d e = rw (none one d, none two e) refl
    go true false d e = rw (none one d) refl
    go false true d e = rw (none two e) refl
    go false false d e = refl

pub among_nonzero : (one two : ℕ) (f : Fields) → among (one ∷ two ∷ []) f ≡ among (nonzero one two) f
among_nonzero one two f = any_nonzero (λ s. names s f) (names-zero f) one two
