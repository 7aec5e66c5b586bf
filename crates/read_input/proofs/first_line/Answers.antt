use mathlib.Core.Bool.{not}
use lib.Dec.{eqb}
use Rattle.std.proofs.Common.{arith, ◌∙◌, ℕ}
use Rattle.std.proofs.lemmas.List.Sums.{prefix_len-le-length}
use Rattle.read_input.proofs.Split.{line-prefix, behind-line}
use Rattle.read_input.proofs.first_line.Goals as goal

pub split_at-requires : goal.split_at-requires
split_at-requires c = omega (arith, c.line_length.ensures, prefix_len-le-length (λ (b : ℕ). not (eqb b 10)) c.args.s.now)

pub returns-clause-line : goal.returns-clause-line
returns-clause-line c = rw (← line-prefix c.args.s.now, ← c.line_length.ensures) c.split_at.ensures.front

pub returns-clause-behind : goal.returns-clause-behind
returns-clause-behind c = behind-line c.args.s.now _ _ (c.line_length.ensures ∙ line-prefix c.args.s.now) c.split_at.ensures.back _ c.min.ensures
