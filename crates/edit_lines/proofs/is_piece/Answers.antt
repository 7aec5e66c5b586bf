use Rattle.std.proofs.Common.{rules, ◌*◌}
use Rattle.edit_lines.proofs.News.{piece_none, adds_cons, piece_key}
use Rattle.edit_lines.proofs.is_piece.Goals as goal

pub returns-then-k-pieces : goal.returns-then-k-pieces
returns-then-k-pieces c = let a = c.args in piece_none a.segment.now a.pieces.now a.j a.k c.if-k-pieces.true

pub returns : goal.returns
returns c = let p = c.args.pieces.now in let k = c.args.k in rw (adds_cons p k c.if-k-pieces.false, ← piece_key p (k * 3)) (search rules)
