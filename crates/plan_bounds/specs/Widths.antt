-- For the code only: numbers that fit the widths of a record, and edits of them.
use Rattle.std.specs.Prelude.{Bool, ◌&&◌, ◌^◌, ltb}
use Rattle.item.specs.Items.{Fields}
use Rattle.cut_def.specs.Edits.{Edit, put, delete}

-- the numbers that a cut, a join or a clone keeps or takes from elsewhere
abbrev pub data_fits : Fields → Bool
data_fits f =
    (ltb f.generation (2 ^ 64) && ltb f.ram (2 ^ 64))
    && ((ltb f.compression 256 && (ltb f.encryption 256 && ltb f.other 65536))
    && (ltb f.extent_start (2 ^ 64) && ltb f.extent_length (2 ^ 64)))

-- all numbers
abbrev pub fields_fit : Fields → Bool
fields_fit f =
    (ltb f.file (2 ^ 64) && (ltb f.key_type 256 && (ltb f.key (2 ^ 64) && ltb f.kind 256)))
    && ((ltb f.position (2 ^ 64) && ltb f.length (2 ^ 64)) && data_fits f)

abbrev pub edit_fits : Edit → Bool
edit_fits (put f) = fields_fit f
edit_fits (delete k) = ltb k (2 ^ 64)
