use Rattle.plan_def.specs.Outputs.{ref_numbers}
use Rattle.plan_lines.proofs.Laws.{laid_none}
use Rattle.plan_lines.proofs.Loops.{laid_same}
use Rattle.drop_chains.proofs.Walks.{freed_unrefs, held_releases}
use Rattle.drop_chains.proofs.put_chain.Goals as goal

pub returns-then-is_chain_freed-clause-unrefs : goal.returns-then-is_chain_freed-clause-unrefs
returns-then-is_chain_freed-clause-unrefs c = laid_same ref_numbers 2 _ _ _ _ _ _ (freed_unrefs c.args.references _ _ c.is_chain_freed.ensures c.if-is_chain_freed.true) (laid_none ref_numbers 2 _ _)

pub returns-clause-releases : goal.returns-clause-releases
returns-clause-releases c = laid_same ref_numbers 2 _ _ _ _ _ _ (held_releases c.args.references _ _ c.is_chain_freed.ensures c.if-is_chain_freed.false) (laid_none ref_numbers 2 _ _)
