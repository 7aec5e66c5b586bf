-- For the code only: the references of two lists, compared.
use Rattle.std.specs.Prelude.{List, [], ◌∷◌}
use Rattle.item.specs.Items.{items}
use Rattle.cut_def.specs.Refs.{Ref}
use Rattle.ref_def.specs.Compared.{refs_among, minus}
use Rattle.ref_minus.specs.declared.compared.Compared.{Compared}

-- those that x has more often than y
abbrev pub more_of : Compared → List Ref
more_of c = minus (refs_among (c.one ∷ c.two ∷ []) (items c.x.now)) (refs_among (c.one ∷ c.two ∷ []) (items c.y.now))
