-- For the code only: two lists of references in order, walked together; and those of a list's items.
use Rattle.std.specs.Prelude.{Bool, false, cond, List, [], ◌∷◌, map, ℕ}
use Rattle.records.specs.Select.{keep}
use Rattle.item.specs.Items.{Fields}
use Rattle.cut_def.specs.Refs.{Ref, ref_of, same_ref}
use Rattle.ref_def.specs.Compared.{among, ref_before}

-- the references of the items that name one of these extents, in the list's order
abbrev pub refs_named : List ℕ → List Fields → List Ref
refs_named extents fs = map ref_of (keep (among extents) fs)

-- the first of a list is r
abbrev pub starts_with : Ref → List Ref → Bool
starts_with r [] = false
starts_with r (q ∷ qs) = same_ref q r

-- the list from the first on that is not before r
unfoldable pub past : Ref → List Ref → List Ref
past r [] = []
past r (q ∷ qs) = cond (ref_before q r) (past r qs) (q ∷ qs)
