-- For the code only: which items of a list a cut drops (`drop_covered` of clone.rs; what is due for them stands in `ref_def`).
use Rattle.std.specs.Prelude.{Bool, ◌&&◌, not, List, [], ◌∷◌, ℕ}
use Rattle.records.specs.Select.{keep}
use Rattle.item.specs.Items.{Fields, hole}
use Rattle.cut_def.specs.Cuts.{covered}
use Rattle.ref_def.specs.Compared.{among}
use Rattle.ref_def.specs.Drops.{InLeaf, in_leaves}
use Rattle.drop_lines.specs.declared.Cut.{Cut}

-- an item inside the range that is no hole, and not of an extent whose items are compared instead
abbrev pub taken : Cut → Fields → Bool
taken c f = covered c.lo c.hi f && (not (hole f) && not (among (c.one ∷ c.two ∷ []) f))

abbrev pub dropped : Cut → InLeaf → Bool
dropped c h = taken c h.item

-- the drops among a list's items, each with its shared byte
abbrev pub drops_in : Cut → List Fields → List ℕ → List InLeaf
drops_in c fs bs = keep (dropped c) (in_leaves fs bs)
