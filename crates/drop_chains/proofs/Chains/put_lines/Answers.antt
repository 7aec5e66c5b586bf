use Rattle.drop_chains.proofs.Links.{linked_chained}
use Rattle.drop_chains.proofs.Chains.put_lines.Goals as goal

pub put_rows-requires : goal.put_rows-requires
put_rows-requires c = let r = c.requires in (r.0, linked_chained r.0 _ _ _ _ r.1, r.2, r.3)

pub returns-clause-unrefs : goal.returns-clause-unrefs
returns-clause-unrefs c = λ p l. c.put_rows.ensures.unrefs p (linked_chained p _ _ _ _ l)

pub returns-clause-releases : goal.returns-clause-releases
returns-clause-releases c = λ p l. c.put_rows.ensures.releases p (linked_chained p _ _ _ _ l)
