use Rattle.std.proofs.Common.{rules}
use Rattle.item.proofs.Laws.{items-length}
use Rattle.lists.proofs.list_size_refusal.Goals as goal

pub returns : goal.returns
returns c = rw items-length (search rules)
