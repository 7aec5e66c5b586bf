use Rattle.std.proofs.Common.{◌≡◌, drop}
use Rattle.read_line.specs.Forms.{read_line}
use Rattle.read_line.specs.Raw.{rows_by}
use Rattle.read_line.proofs.read_line.Given as goal

-- The line is what the rows that are left read it as.
abbrev pub invariant-loop-shape : goal.invariant-loop-shape
invariant-loop-shape l = rows_by (drop l.shape-index l.shape-items) l.line ≡ read_line l.line
