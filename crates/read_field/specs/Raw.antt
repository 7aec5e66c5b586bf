-- For the code only: what a result says that was read.
use Rattle.std.specs.Prelude.{cond, List, [], ◌∷◌, ◌++◌, ℕ, ◌+◌, length, drop, replicate, Option as Maybe, Some, None}
use Rattle.std.proofs.Math.Option.{Option, none, some}
use denote.Ref.{Bor}
use Rattle.read_field.specs.Words.{bytes, starts}
use Rattle.read_field.specs.declared.Field.{Field}
use Rattle.read_field.specs.Parts.{Part, Parser, give, next, word, number, numbers}

-- these numbers, and the text behind them
abbrev pub part : List ℕ → Maybe (Bor (List ℕ)) → Option Part
part vs None = none
part vs (Some x) = some (record { numbers = vs; rest = x.now })

abbrev pub counted : Maybe (ℕ × Bor (List ℕ)) → Option Part
counted None = none
counted (Some x) = some (record { numbers = x.0 ∷ []; rest = x.1.now })

-- What places hold when numbers with one limit were read over them: where one can't be read, it and those behind it stay as they were.
unfoldable pub or_kept : List ℕ → Option Part → (List ℕ → List ℕ) → List ℕ
or_kept old none f = old
or_kept old (some p) f = p.numbers ++ f p.rest

unfoldable pub read_over : (limit : ℕ) (old s : List ℕ) → List ℕ
read_over limit [] s = []
read_over limit (v ∷ vs) s = or_kept (v ∷ vs) (next (word (bytes " ")) (number limit) s) (read_over limit vs)

-- a field by its opening
abbrev pub field_by : (opening limits missing : List ℕ) → Parser
field_by opening limits missing s = cond (starts opening s) (next (numbers limits) (word (bytes ")")) (drop (length opening) s)) (give missing s)

-- What places hold when a field was read over them: where it isn't there they stay as they were, and those of its numbers that can't be
-- read are 0.
abbrev pub field_over : (opening : List ℕ) (limit : ℕ) (old s : List ℕ) → List ℕ
field_over opening limit old s = cond (starts opening s) (read_over limit (replicate (length old) 0) (drop (length opening) s)) old

-- how many numbers fields have, and what reads them one behind another
abbrev pub total : List Field → ℕ
total [] = 0
total (f ∷ fs) = f.1 + total fs

abbrev pub fields_by : List Field → Parser
fields_by [] = give []
fields_by (f ∷ fs) = next (field_by f.0.now (replicate f.1 f.2) (replicate f.1 0)) (fields_by fs)
