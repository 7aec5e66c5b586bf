use Rattle.std.proofs.Common.{◌≡◌, rules}
use Rattle.records.specs.Stages.{first}
use Rattle.clone.specs.Raw.{destination_asked}
use Rattle.clone.proofs.Passing.{in-files, runs, one-each, rows-kept}
use Rattle.clone.proofs.asked.Asked.parts.Goals as goal

pub invariant_of-result : goal.invariant_of-result
unfolding first
invariant_of-result c = let a = c.args.self in let w : destination_asked a ≡ 0 = search rules in record { runs = runs a c.requires.0.passes w }

pub invariant_of-result-2 : goal.invariant_of-result-2
unfolding first
invariant_of-result-2 c = let a = c.args.self in let w : destination_asked a ≡ 0 = search rules in record { in_files = rw c.copying.ensures (in-files a c.requires.0.passes w) }

pub invariant_of-result-3 : goal.invariant_of-result-3
invariant_of-result-3 c = record { one_each = one-each c.args.self c.requires.0.passes }

pub invariant_of-result-4 : goal.invariant_of-result-4
invariant_of-result-4 c = record { kept = rows-kept c.args.self c.requires.0.passes }
