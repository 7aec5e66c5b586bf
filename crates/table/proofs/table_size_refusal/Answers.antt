use Rattle.std.proofs.Common.{rules}
use Rattle.table.proofs.Laws.{rows-length}
use Rattle.table.proofs.table_size_refusal.Goals as goal

pub returns : goal.returns
returns c = rw rows-length (search rules)
