use Rattle.std.proofs.Common.{rules}
use Rattle.item.specs.Items.{items}
use Rattle.cut_segment.specs.Segments.{starts_by}
use Rattle.cut_segment.proofs.Halves.{starts_lead}
use Rattle.cut_segment.proofs.Running.started_by.Goals as goal

pub returns : goal.returns
returns c = c.leading.ensures (starts_by c.args.key) (λ i r k. search rules) (starts_lead (items c.args.self.records.now) c.args.self.runs c.args.key)
