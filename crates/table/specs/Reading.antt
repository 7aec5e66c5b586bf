-- For the code only: what a reader has left to read.
use Rattle.std.specs.Prelude.{List, drop}
use Rattle.table.specs.declared.Row.{Row}
use Rattle.table.specs.declared.reader.Reader.{Reader}
use Rattle.table.specs.Rows.{rows}

abbrev pub left : Reader → List Row
left r = drop r.number (rows r.table.now)
