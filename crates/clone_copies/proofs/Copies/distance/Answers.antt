use Rattle.std.proofs.Common.{rules, tests, arith}
use mathlib.Core.Logic.{inl}
use lib.ListN.{length-drop}
use Rattle.std.proofs.lemmas.Iterator.Search.{position_from_yields_List}
use Rattle.std.proofs.lemmas.Iterator.Consumers.{YieldsList-from_first}
use Rattle.item.specs.Items.{fields, items}
use Rattle.item.specs.Reading.{left}
use Rattle.item.proofs.Laws.{items-length}
use Rattle.edit_merge.specs.Merge.{from}
use Rattle.clone_items.specs.Copies.{copied}
use Rattle.edit_merge.proofs.News.{read_from}
use Rattle.clone_copies.proofs.Copies.distance.Goals as goal

pub position-requires-clause-fits : goal.position-requires-clause-fits
position-requires-clause-fits c = let r = c.reader_at.result in inl (omega (arith, length-drop r.number (items r.list.now), items-length r.list.now))

pub returns : goal.returns
returns c = let a = c.args in
    position_from_yields_List {s = c.reader_at.result} (copied a.self.copying.range) c.position.new.self _ c.position.result c.position.ensures.ran (YieldsList-from_first fields left (from a.self.source.now a.k) (read_from c.reader_at.result a.self.source a.k c.reader_at.ensures)) (λ x b q k. search (rules, tests))
