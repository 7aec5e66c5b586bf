use Rattle.std.proofs.Common.{◌≡◌, ◌<◌, rules, tests, length, ap, refl}
use mathlib.Core.Path.{◌∙◌, sym}
use native.Mathlib.Omega.{arith}
use borrow.Author.Tests.{leb-false}
use Prim.Native.Nat.{ℕ, min}
use Rattle.change_def.specs.Preallocs.{piece_limit}
use Rattle.change_holes.specs.Walk.{left}
use Rattle.change_holes.proofs.Walking.{found-none, found-some, left_cons}
use Rattle.change_holes.proofs.WalkerIterator.next.Goals as goal
use Rattle.change_holes.proofs.WalkerIterator.next.Goals.{After-length, then-is_empty+in_ok-self, else-is_empty}

pub returns-in_err-self-clause-steps : goal.returns-in_err-self-clause-steps
returns-in_err-self-clause-steps c =
    let s = c.args.self.now in
    rw c.from_residual.ensures (found-none _ _ (λ x b q e. search (rules, tests)) s.rest (sym c.is_empty.ensures ∙ c.if-is_empty.true) s.stretches c.find.new.self c.in_err-self.ensures.ran)

-- what is left begins with a rest that is not empty
settled : (c : After-length) → (left c.args.self.now ≡ left c.if-is_empty.self) × (c.if-is_empty.self.rest.start < c.if-is_empty.self.rest.stop)
settled c =
    let s = c.args.self.now in
    elim c.if-is_empty.branch [
      | then-is_empty+in_ok-self w ↦ rw w.self-is (found-some _ _ (λ x b q e. search (rules, tests)) s.rest (sym c.is_empty.ensures ∙ w.if-is_empty.true) s.stretches w.find.new.self _ w.in_ok-self.ensures.ran)
      | else-is_empty w ↦ rw w.self-is (refl, leb-false _ _ (sym c.is_empty.ensures ∙ w.if-is_empty.false))
    ]

pub returns-clause-steps : goal.returns-clause-steps
returns-clause-steps c =
    let e = settled (goal.at.returns-clause-steps c).After-length in
    rw c.behind-self.ensures (e.0 ∙ left_cons c.if-is_empty.self _ e.1 (c.min-length.ensures ∙ ap (λ (n : ℕ). min n piece_limit) c.length.ensures))

pub returns-clause-goes : goal.returns-clause-goes
returns-clause-goes c = let n = ap length (returns-clause-steps c) in search (rules, arith)
