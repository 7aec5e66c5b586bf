-- A line read part by part from its start. Between parts stands one space, and nothing else is skipped.
use Rattle.std.specs.Prelude.{cond, List, [], ◌∷◌, ◌++◌, ℕ, ◌-◌, eqb, length, drop, replicate}
use Rattle.std.proofs.Math.Option.{Option, none, some}
use Rattle.read_field.specs.Decimal.{digits, value, sound}
use Rattle.read_field.specs.Words.{bytes, starts}

-- a part that was read: its numbers, and the text behind it
pub record Part : Type 0 where
  pub numbers : List ℕ
  pub rest : List ℕ

-- what reads a part; none: the text is unreadable there
abbrev pub Parser : Type 0
Parser = List ℕ → Option Part

-- these numbers, with nothing read for them
abbrev pub give : List ℕ → Parser
give vs s = some (record { numbers = vs; rest = s })

-- one part and, behind it, another
unfoldable pub more : List ℕ → Option Part → Option Part
more vs none = none
more vs (some p) = some (record { numbers = vs ++ p.numbers; rest = p.rest })

unfoldable pub into : Option Part → Parser → Option Part
into none q = none
into (some p) q = more p.numbers (q p.rest)

abbrev pub next : Parser → Parser → Parser
next p q s = into (p s) q

-- a fixed word
abbrev pub word : List ℕ → Parser
word w s = cond (starts w s) (give [] (drop (length w) s)) none

-- a number of at most `limit`; a larger one is unreadable, so is a sign or a leading zero
abbrev pub number : ℕ → Parser
number limit s = cond (sound limit (digits s)) (give (value 0 (digits s) ∷ []) (drop (length (digits s)) s)) none

-- numbers by their limits, each behind one space
unfoldable pub numbers : List ℕ → Parser
numbers [] = give []
numbers (l ∷ ls) = next (word (bytes " ")) (next (number l) (numbers ls))

-- the line ends here
abbrev pub end : Parser
end s = cond (eqb (length s) 0) (give [] s) none

-- the numbers of a line, filled up with zeros to twelve
abbrev pub filled : List ℕ → List ℕ
filled vs = vs ++ replicate (12 - length vs) 0
