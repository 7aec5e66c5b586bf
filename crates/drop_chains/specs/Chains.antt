-- For the code only: a chain of items of a list, through an array of numbers: a number is an index and one more, and 0 is none.
use Rattle.std.specs.Prelude.{Bool, cond, ◌&&◌, List, [], ◌∷◌, map, ◌≡◌, ℕ, ◌+◌, ◌≤◌, ◌<◌, eqb, length, get_or}
use Rattle.records.specs.Stages.{every}
use Rattle.cut_def.specs.Refs.{Ref, ref_of}
use Rattle.ref_def.specs.Drops.{InLeaf}

-- of items from index i on, those of the chain at number h: behind each that it takes it goes on at the number that stands there
unfoldable pub along : {A : Type 0} → List ℕ → (i h : ℕ) → List A → List A
along nexts i h [] = []
along nexts i h (x ∷ xs) = cond (eqb h (i + 1)) (x ∷ along nexts (i + 1) (get_or nexts i 0) xs) (along nexts (i + 1) h xs)

-- the number that it is at behind them all: 0 if it has ended, and so each number that it met leads on. No other is read.
unfoldable pub number_behind : {A : Type 0} → List ℕ → (i h : ℕ) → List A → ℕ
number_behind nexts i h [] = h
number_behind nexts i h (x ∷ xs) = cond (eqb h (i + 1)) (number_behind nexts (i + 1) (get_or nexts i 0) xs) (number_behind nexts (i + 1) h xs)

-- a number of none, or of one of n items from index i on
abbrev pub From : (i n h : ℕ) → Type 0
From i n h = (h ≡ 0 → ⊥) → (i < h) × (h ≤ n)

-- a chain goes on behind each of n items, so it ends
abbrev pub Onward : ℕ → List ℕ → Type 0
Onward n nexts = (j : ℕ) → j < n → From (j + 1) n (get_or nexts j 0)

-- a shared byte as it is, and of a leaf that is not shared
abbrev pub byte : ℕ → ℕ
byte b = b

abbrev pub unshared : ℕ → Bool
unshared b = eqb b 0

-- the drops of an extent free it, by their shared bytes: they are all its references, and none of their leaves is shared
abbrev pub freed : ℕ → List ℕ → Bool
freed references bytes = eqb references (length bytes) && every unshared bytes

-- a drop's shared byte, and its line
abbrev pub byte_in : InLeaf → ℕ
byte_in d = d.shared

abbrev pub line_in : InLeaf → Ref
line_in d = ref_of d.item

-- their lines: releases if they free it, else unrefs
abbrev pub release_lines : ℕ → List InLeaf → List Ref
release_lines references ds = cond (freed references (map byte_in ds)) (map line_in ds) []

abbrev pub unref_lines : ℕ → List InLeaf → List Ref
unref_lines references ds = cond (freed references (map byte_in ds)) [] (map line_in ds)
