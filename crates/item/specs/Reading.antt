-- For the code only: what a reader has left to read.
use Rattle.std.specs.Prelude.{List, drop}
use Rattle.item.specs.declared.reader.Reader.{Reader}
use Rattle.item.specs.Items.{Fields, items}

abbrev pub left : Reader → List Fields
left r = drop r.number (items r.list.now)
