use Rattle.std.proofs.Common.{◌∙◌, ap}
use Rattle.records.specs.Raw.{sieve}
use Rattle.table.specs.Raw.{row_refusal, row_end}
use Rattle.table.specs.Reading.{left}
use Rattle.table.proofs.Laws.{sieve-kept}
use Rattle.table.proofs.table_refusal.Goals as goal

pub loop-row-init : goal.loop-row-init
loop-row-init c = ap (λ r. sieve row_refusal row_end 1 (left r)) c.into_iter-row-iterator.ensures.into_iter_gives
    ∙ ap (sieve row_refusal row_end 1) c.rows-row-items.ensures.1 ∙ sieve-kept _
