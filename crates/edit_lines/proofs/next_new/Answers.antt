use native.Mathlib.Omega.{arith}
use Rattle.edit_lines.proofs.News.{piece_some, next_piece, next-rest}
use Rattle.edit_lines.proofs.next_new.Goals as goal

pub piece_at-item-requires : goal.piece_at-item-requires
piece_at-item-requires c = let a = c.args in omega (arith, piece_some a.segment.now a.pieces.now a.j a.k _ c.is_piece.ensures c.if-is_piece.true)

pub returns-then-is_piece : goal.returns-then-is_piece
returns-then-is_piece c = let a = c.args in let p = c.requires in next_piece a.file a.generation a.segment.now a.pieces.now a.j a.k p.0 p.1 p.2 _ c.is_piece.ensures _ c.if-is_piece.true c.piece_at-item.ensures

pub returns : goal.returns
returns c = let a = c.args in let p = c.requires in next-rest a.file a.generation a.segment.now a.pieces.now a.j a.k p.0 p.1 p.2 _ c.is_piece.ensures c.segment_next.result c.if-is_piece.false c.segment_next.ensures
