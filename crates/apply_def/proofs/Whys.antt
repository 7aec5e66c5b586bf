-- Laws of answers that may be refused. Assumes nothing.
use Rattle.std.proofs.Common.{◌≡◌, ◌∙◌, ℕ, refl, sym, ap, arith}
use Rattle.std.specs.Prelude.{Result, Ok, Err}
use Rattle.std.specs.Result.{result_and}
use Rattle.records.specs.declared.refusal.Refusal.{Refusal}
use Rattle.records.specs.declared.refusal.Refusal.TheVariants.{Broken, NotKept, Table, Sector, Empty, TooFar, Inline, Kind, Encoded, Hole, PastSize, NoSpace, Generation, NoRow, Keyed, Nodatacow, Window, ReadElsewhere, Start, End, Offset, Length, Partial, Overlap, Growth, Place, Room}
use Rattle.records.specs.Refusals.{number, why}
use Rattle.records.specs.Stages.{first}

-- a refusal counts before what comes behind it
pub given : (e : Refusal) (n : ℕ) → first (number e) n ≡ number e
unfolding first
given e n =
    elim e as (λ (v : Refusal). first (number v) n ≡ number v) [
      | Broken ↦ refl
      | NotKept ↦ refl
      | Table ↦ refl
      | Sector ↦ refl
      | Empty ↦ refl
      | TooFar ↦ refl
      | Inline ↦ refl
      | Kind ↦ refl
      | Encoded ↦ refl
      | Hole ↦ refl
      | PastSize ↦ refl
      | NoSpace ↦ refl
      | Generation ↦ refl
      | NoRow ↦ refl
      | Keyed ↦ refl
      | Nodatacow ↦ refl
      | Window ↦ refl
      | ReadElsewhere ↦ refl
      | Start ↦ refl
      | End ↦ refl
      | Offset ↦ refl
      | Length ↦ refl
      | Partial ↦ refl
      | Overlap ↦ refl
      | Growth ↦ refl
      | Place ↦ refl
      | Room ↦ refl
    ]

-- two answers, of which the first refusal counts
pub why_and : {A B : Type 0} (a : Result A Refusal) (b : Result B Refusal) → why (result_and a b) ≡ first (why a) (why b)
unfolding first
why_and (Ok x) b = refl
why_and (Err e) b = sym (given e (why b))

-- a refusal's number is not 0
pub positive : (e : Refusal) → number e ≡ 0 → ⊥
unfolding first
positive e z = let h : 1 ≡ 0 = sym (ap (λ (n : ℕ). first n 1) z) ∙ given e 1 ∙ z in omega (arith, h)
