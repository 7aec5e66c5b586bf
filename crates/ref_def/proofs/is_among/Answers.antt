use Rattle.std.proofs.Common.{ℕ, rules}
use Rattle.item.specs.Items.{fields}
use Rattle.cut_def.specs.Refs.{names}
use Rattle.records.proofs.Lists.{any_of_two}
use Rattle.ref_def.proofs.is_among.Goals as goal

pub returns-then-is_naming : goal.returns-then-is_naming
returns-then-is_naming c = rw (← any_of_two (λ (s : ℕ). names s (fields c.args.item)) c.args.one c.args.two) (search rules)

pub returns-else-is_naming : goal.returns-else-is_naming
returns-else-is_naming c = rw (← any_of_two (λ (s : ℕ). names s (fields c.args.item)) c.args.one c.args.two) (search rules)
