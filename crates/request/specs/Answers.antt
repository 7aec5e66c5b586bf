-- What an operation answers (demand 1: "comes back as a plan, as "nothing to do", or as one refusal numbered in
-- document 01").
use Rattle.std.specs.Prelude.{ℕ, Option, Some, None, Result, Ok, Err}
use Rattle.records.specs.declared.refusal.Refusal.{Refusal}
use Rattle.records.specs.Refusals.{number}
use Rattle.request.specs.declared.Numbers.{Numbers}

-- the three ways that a request can come back; P is what is said of a plan
pub data Outcome (P : Type 0) : Type 0 where
  plan : P → Outcome P
  nothing : Outcome P
  refused : ℕ → Outcome P

-- an answer in the paper's terms: a plan is how many edits, shares, unrefs, releases, adds and sector writes it has, the new
-- size, the byte count and the mark for preallocation; none is "nothing to do"; a refusal is its number
abbrev pub said : Result (Option Numbers) Refusal → Outcome Numbers
said (Ok (Some p)) = plan p
said (Ok None) = nothing
said (Err r) = refused (number r)
