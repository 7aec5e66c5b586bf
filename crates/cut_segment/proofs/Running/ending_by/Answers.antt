use Rattle.std.proofs.Common.{rules}
use Rattle.item.specs.Items.{items}
use Rattle.cut_segment.specs.Segments.{ends_by}
use Rattle.cut_segment.proofs.Halves.{ends_lead}
use Rattle.cut_segment.proofs.Running.ending_by.Goals as goal

pub returns : goal.returns
returns c = c.leading.ensures (ends_by c.args.lo) (λ i r k. search rules) (ends_lead (items c.args.self.records.now) c.args.self.runs c.args.lo)
