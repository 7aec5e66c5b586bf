-- For the code only: a list of which a few items make way for others.
use Rattle.std.specs.Prelude.{List, ◌++◌, map, ℕ, take, drop}
use Rattle.item.specs.Items.{Fields}
use Rattle.cut_def.specs.Pieces.{Piece, built, kept}

-- a file's items where those from number `from` up to `to` make way for others
abbrev pub replaced : List Fields → (from to : ℕ) → List Fields → List Piece
replaced fs from to segment = map kept (take from fs) ++ (map built segment ++ map kept (drop to fs))
