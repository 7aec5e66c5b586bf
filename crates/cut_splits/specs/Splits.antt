-- For the code only: a split's refusal, and which splits are shared.
use Rattle.std.specs.Prelude.{Bool, cond, ◌&&◌, not, List, [], ◌∷◌, ℕ, eqb}
use Rattle.records.specs.Select.{any}
use Rattle.item.specs.Items.{Fields}
use Rattle.cut_def.specs.Cuts.{split}
use Rattle.cut_def.specs.Refs.{Ref, ref_of}
use Rattle.table.specs.Rows.{one_more_reference}
use Rattle.table.specs.declared.Row.{Row}

-- the refusal of an item's share, if it is split
abbrev pub split_refusal : ℕ → ℕ → List Row → Fields → ℕ
split_refusal lo hi rs f = cond (split lo hi f) (one_more_reference f.extent_start rs) 0

-- a reference to none of these extents
abbrev pub elsewhere : List ℕ → Ref → Bool
elsewhere extents q = not (any (eqb q.start) extents)

-- an item that is split, and whose extent is none of two
abbrev pub shared : (lo hi one two : ℕ) → Fields → Bool
shared lo hi one two f = split lo hi f && elsewhere (one ∷ two ∷ []) (ref_of f)
