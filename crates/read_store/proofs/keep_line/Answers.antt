use Rattle.read_order.specs.Numbers.{numbers}
use Rattle.read_store.proofs.Laws.{kept-item, kept-row, kept-place, kept-other}
use Rattle.read_store.proofs.keep_line.Goals as goal

pub returns-in-Item-clause-kept : goal.returns-in-Item-clause-kept
returns-in-Item-clause-kept c = rw c.in-Item.is (kept-item (numbers c.args.r) _ _ _ _ _ _ _ (rw c.in-Item.is at c.requires) _ c.holder.ensures c.keep_item.ensures c.keep_shared.ensures)

pub returns-in-Extent-clause-kept : goal.returns-in-Extent-clause-kept
returns-in-Extent-clause-kept c = rw c.in-Extent.is (kept-row (numbers c.args.r) _ _ _ _ _ _ (rw c.in-Extent.is at c.requires) c.keep_row.ensures)

pub returns-in-Place-clause-kept : goal.returns-in-Place-clause-kept
returns-in-Place-clause-kept c = rw c.in-Place.is (kept-place (numbers c.args.r) _ _ _ _ _ _ (rw c.in-Place.is at c.requires) c.keep_place.ensures)

pub returns-in_default-clause-kept : goal.returns-in_default-clause-kept
returns-in_default-clause-kept c = kept-other (numbers c.args.r) _ _ _ _ _ c.args.line.kind c.in_default.not-Item c.in_default.not-Extent c.in_default.not-Place
