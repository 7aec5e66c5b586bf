-- The line of an item that is put (document 01, "extplan").
use Rattle.std.specs.Prelude.{List, [], ◌∷◌, ℕ}
use Rattle.read_field.specs.Words.{bytes as text}
use Rattle.print_field.specs.Text.{joined}
use Rattle.print_field.specs.Fields.{field, pair, unless_zero, end}
use Rattle.item.specs.Items.{Fields}

-- "(key 0) (kind 1) (extent 1048576 16384) (window 0 4096)": "`extent` is start and length, `window` position and length"
unfoldable pub item_fields : Fields → List ℕ
item_fields f =
    joined
    (field (text "key") f.key
    ∷ field (text "kind") f.kind
    ∷ pair (text "extent") f.extent_start f.extent_length
    ∷ pair (text "window") f.position f.length
    ∷ [])

-- "An item may add `generation`, `ram`, `compression`, `encryption`, `other` ..; a put shows the first five, in that order,
-- where not 0"
unfoldable pub added_fields : Fields → List ℕ
added_fields f =
    joined
    (unless_zero (text "generation") f.generation
    ∷ unless_zero (text "ram") f.ram
    ∷ unless_zero (text "compression") f.compression
    ∷ unless_zero (text "encryption") f.encryption
    ∷ unless_zero (text "other") f.other
    ∷ [])

-- "(put (key 0) (kind 1) (extent 1048576 16384) (window 0 4096))"; what is added stands behind
unfoldable pub put_line : Fields → List ℕ
put_line f = joined (text "(put" ∷ item_fields f ∷ added_fields f ∷ end ∷ [])
