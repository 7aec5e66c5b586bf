-- What an operation gives in code.
use Rattle.std.specs.Prelude.{Option, Result}
use Rattle.records.specs.declared.refusal.Refusal.{Refusal}
use Rattle.request.specs.declared.Numbers.{Numbers}

-- a plan's numbers, none where there is nothing to do, or a refusal; `said` (Answers) has it in the paper's terms
abbrev pub Answer : Type 0
Answer = Result (Option Numbers) Refusal
