-- A lent slice that a function writes, in an `ensures`: what it holds when the function is called, and what it holds when the function
-- returns. Of one slice alone a clause says `s.old` and `s.new`; these are for definitions that take several.
use Rattle.std.specs.Prelude.{List, ℕ}
use Rattle.std.specs.Borrow.{MutBor}
use denote.Triple.Both.{Both}

abbrev pub old : {A : Type 0} {E : Type 0} → Both (MutBor A) E → A
old x = x.entry.now

abbrev pub new : {A : Type 0} {E : Type 0} → Both E (MutBor A) → A
new x = x.exit.now

-- a slice of numbers or bytes
abbrev pub Slice : Type 0
Slice = Both (MutBor (List ℕ)) (MutBor (List ℕ))
